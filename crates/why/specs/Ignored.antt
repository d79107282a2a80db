-- What reading a message again relies on, where it was ignored.
use Rattle.std.specs.Prelude.{ℕ, ◌+◌, ◌≤◌, ◌<◌, List, ◌≡◌, ◌≢◌, length, get_or}
use Rattle.field.specs.Field.{number_size}
use Rattle.message.specs.Layout.{keep_alive_kind, assignment_kind, kind_size, update_value_start}
use Rattle.judge.specs.declared.Decision.{Decision}
use Rattle.judge.specs.declared.Decision.TheVariants as D
use Rattle.places.specs.MessageFails.{type_start, update_id_in}

-- the kind is there; behind it a name's length or an ID, unless it is a keep alive; an assignment's name is, and an update's number, whose ID is held
pub record ReadAgain (count : ℕ) (m : List ℕ) : Type 0 where
  pub kind_there : kind_size ≤ length m
  pub first_there : get_or m 0 0 ≢ keep_alive_kind → kind_size + number_size ≤ length m
  pub name_there : get_or m 0 0 ≡ assignment_kind → type_start m ≤ length m
  pub number_there : get_or m 0 0 ≢ keep_alive_kind → get_or m 0 0 ≢ assignment_kind → (update_value_start ≤ length m) × (update_id_in m < count)

-- what explaining a decision relies on: an ignored message is read again, and the entry of an update that is stored is there
abbrev pub Explainable : (count : ℕ) → List ℕ → Decision → Type 0
Explainable count m (D.Ignore taken) = ReadAgain count m
Explainable count m D.AcceptHello = Unit {0}
Explainable count m D.UnsupportedRevision = Unit {0}
Explainable count m (D.StoreNew read) = Unit {0}
Explainable count m (D.StoreUpdate read) = read.id < count
