-- The code's verdicts, as the definitions have them.
use Rattle.std.specs.Prelude.{ℕ, ◌≤◌, ◌<◌, List, ◌≡◌, length, Result, Ok, Err, Option, Some, None, Bool, not, eqb}
use Rattle.field.specs.declared.Fault.{Fault}
use Rattle.value.specs.Value.{max_value_size}
use Rattle.message.specs.Layout.{max_name_length}
use Rattle.message.specs.Reader.{name_in, value_in, update_value_in, assignment_length, update_length}
use Rattle.table.specs.Table.{max_entries}
use Rattle.soundness.specs.Sound.{connections, closed, open'}
use Rattle.recipients.specs.Recipients.{all_greeted, other_greeted}
use Rattle.protocol.specs.Judge.{Call, open_connection, leave, Verdict, refuse, ignore, accept_hello, unsupported_revision, open_mark, close_mark, store_new, store_update, new_entry}
use Rattle.judge.specs.declared.Decision.{Decision}
use Rattle.judge.specs.declared.Decision.TheVariants as D
use Rattle.judge.specs.declared.MarkChange.{MarkChange}
use Rattle.judge.specs.declared.MarkChange.TheVariants as K

-- ---- a message m of connection c

abbrev pub verdict_of : (c : ℕ) → List ℕ → Result Decision Fault → Verdict
verdict_of c m (Err fault) = refuse fault
verdict_of c m (Ok (D.Ignore taken)) = ignore taken
verdict_of c m (Ok D.AcceptHello) = accept_hello c
verdict_of c m (Ok D.UnsupportedRevision) = unsupported_revision c
verdict_of c m (Ok (D.StoreNew read)) =
    store_new (new_entry (name_in read.name_length m) read.type_code (value_in read.name_length read.value_length m)) (assignment_length read.name_length read.value_length)
verdict_of c m (Ok (D.StoreUpdate read)) =
    store_update read.id read.number (update_value_in read.value_length m) (update_length read.value_length) (other_greeted c)

-- what performing relies on: the connection is one, name and value are in the message, and a table of so many entries has the place
abbrev pub Performable : (count c : ℕ) → List ℕ → Result Decision Fault → Type 0
Performable count c m (Err fault) = Unit {0}
Performable count c m (Ok (D.Ignore taken)) = Unit {0}
Performable count c m (Ok D.AcceptHello) = c < connections
Performable count c m (Ok D.UnsupportedRevision) = c < connections
Performable count c m (Ok (D.StoreNew read)) =
    (count < max_entries) × (assignment_length read.name_length read.value_length ≤ length m) × (read.name_length ≤ max_name_length) × (read.value_length ≤ max_value_size)
Performable count c m (Ok (D.StoreUpdate read)) =
    (read.id < count) × (update_length read.value_length ≤ length m) × (read.value_length ≤ max_value_size)

-- the decision is this verdict, and can be performed
pub record Decides (count c : ℕ) (m : List ℕ) (d : Result Decision Fault) (v : Verdict) : Type 0 where
  pub verdict : verdict_of c m d ≡ v
  pub performable : Performable count c m d

-- ---- opening and leaving

abbrev pub mark_call : MarkChange → ℕ → Call
mark_call K.Open c = open_connection c
mark_call K.Close c = leave c

-- the mark that is left
abbrev pub mark_of : MarkChange → ℕ
mark_of K.Open = open'
mark_of K.Close = closed

-- whether a connection with a mark may make the call
abbrev pub allows : MarkChange → (mark : ℕ) → Bool
allows K.Open mark = eqb mark closed
allows K.Close mark = not (eqb mark closed)

abbrev pub mark_verdict : ℕ → MarkChange → Result (Unit {0}) Fault → Verdict
mark_verdict c change (Err fault) = refuse fault
mark_verdict c K.Open (Ok done) = open_mark c
mark_verdict c K.Close (Ok done) = close_mark c

abbrev pub Markable : ℕ → Result (Unit {0}) Fault → Type 0
Markable c (Err fault) = Unit {0}
Markable c (Ok done) = c < connections

pub record DecidesMark (c : ℕ) (change : MarkChange) (d : Result (Unit {0}) Fault) (v : Verdict) : Type 0 where
  pub verdict : mark_verdict c change d ≡ v
  pub markable : Markable c d

-- ---- local calls: name, type and value, or ID and value, are the caller's

abbrev pub create_verdict : List ℕ → ℕ → List ℕ → Result (Unit {0}) Fault → Verdict
create_verdict name type value (Err fault) = refuse fault
create_verdict name type value (Ok done) = store_new (new_entry name type value) 0

abbrev pub Creatable : (count : ℕ) (name value : List ℕ) → Result (Unit {0}) Fault → Type 0
Creatable count name value (Err fault) = Unit {0}
Creatable count name value (Ok done) = (count < max_entries) × (length name ≤ max_name_length) × (length value ≤ max_value_size)

pub record DecidesCreate (count : ℕ) (name : List ℕ) (type : ℕ) (value : List ℕ) (d : Result (Unit {0}) Fault) (v : Verdict) : Type 0 where
  pub verdict : create_verdict name type value d ≡ v
  pub creatable : Creatable count name value d

-- the number that is stored, or none where the stored value is equal
abbrev pub write_verdict : ℕ → List ℕ → Result (Option ℕ) Fault → Verdict
write_verdict id value (Err fault) = refuse fault
write_verdict id value (Ok None) = ignore 0
write_verdict id value (Ok (Some number)) = store_update id number value 0 all_greeted

abbrev pub Writable : (count id : ℕ) (value : List ℕ) → Result (Option ℕ) Fault → Type 0
Writable count id value (Err fault) = Unit {0}
Writable count id value (Ok None) = Unit {0}
Writable count id value (Ok (Some number)) = (id < count) × (length value ≤ max_value_size)

pub record DecidesWrite (count id : ℕ) (value : List ℕ) (d : Result (Option ℕ) Fault) (v : Verdict) : Type 0 where
  pub verdict : write_verdict id value d ≡ v
  pub writable : Writable count id value d
