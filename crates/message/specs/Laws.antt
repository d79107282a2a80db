-- What holds of the layouts and their reader. Each statement is proved in proofs/ReadBack.antt.
use Rattle.std.specs.Prelude.{ℕ, ◌≤◌, List, ◌++◌, ◌≡◌, length}
use Rattle.std.proofs.Math.Option.{some}
use Rattle.value.specs.Value.{IsValue}
use Rattle.message.specs.Layout.{Entry, Message, assignment_bytes, update_bytes, layout, longest_assignment, longest_update, WellFormed, WellFormedMessage}
use Rattle.message.specs.Reader.{parse_message, taken_of, contents}

-- "The longest assignment is 328 bytes, the longest update 261"
abbrev pub LongestAssignment : Type 0
LongestAssignment = (id : ℕ) (e : Entry) → WellFormed e → length (assignment_bytes id e) ≤ longest_assignment

abbrev pub LongestUpdate : Type 0
LongestUpdate = (t id number : ℕ) (value : List ℕ) → IsValue t value → length (update_bytes id number value) ≤ longest_update

-- reading m gives the fields of x back, and takes its bytes; an update's type is t
pub record ReadsAs (t : ℕ) (x : Message) (m : List ℕ) : Type 0 where
  pub fields_back : contents m (parse_message t m) ≡ some x
  pub length_back : taken_of (parse_message t m) ≡ length (layout x)

-- "Reading its bytes, any kind and ID allowed, gives that kind's fields back, an update's type being known", whatever stands behind them
abbrev pub ReadBack : Type 0
ReadBack = (t : ℕ) (x : Message) (rest : List ℕ) → WellFormedMessage t x → ReadsAs t x (layout x ++ rest)

-- "equal bytes mean equal fields of that kind, for two updates where their types are equal"
abbrev pub SameBytes : Type 0
SameBytes = (t : ℕ) (x y : Message) → layout x ≡ layout y → WellFormedMessage t x → WellFormedMessage t y → x ≡ y
