-- Demand 2: what becomes of held entries by a client's message; then what is ignored, and what a local write leaves.
use Rattle.std.specs.Prelude.{ℕ, ◌+◌, ◌<◌, true, false, List, ◌∷◌, ◌++◌, ◌≡◌, ◌≢◌, ◌⊎◌, length, get_or}
use Rattle.field.specs.Answer.{done, ignored}
use Rattle.sequence.specs.SequenceNumber.{passed_by}
use Rattle.value.specs.Value.{IsValue}
use Rattle.scalar.specs.Scalar.{equal_values}
use Rattle.message.specs.Layout.{Entry, assignment, update, keep_alive_kind, kind_size, assignment_bytes, update_bytes, WellFormed}
use Rattle.message.specs.Reader.{Bytes, BeginsWith}
use Rattle.table.specs.Names.{name_held}
use Rattle.table.specs.Table.{TableMemory, entry_of, entries_of, with_update}
use Rattle.soundness.specs.Sound.{connections, closed, greeted}
use Rattle.protocol.specs.Judge.{local_write, new_id, new_entry}
use Rattle.protocol.specs.Step.{ServerMemory, CallResult, call_step}
use Rattle.protocol.specs.Kept.{SoundMemory}
use Rattle.protocol.specs.Taken.{message_call}

-- an update of entry i was applied: "With d from 1 to 32,767 number and value are stored"
pub record Applied (before : TableMemory) (m : List ℕ) (r : CallResult) (i : ℕ) : Type 0 where
  pub number : ℕ
  pub value : List ℕ
  -- the message is an update (0x11) of this very ID, with a value of the entry's type and a strictly greater number
  pub first : BeginsWith m (update i number value)
  pub value_whole : IsValue (entry_of before i).type value
  pub greater : passed_by (entry_of before i).number number ≡ true
  pub answered : r.number ≡ done
  -- the entry has its name and type, and the message's number and value; no other entry differs
  pub entry : entry_of r.memory.table i ≡ with_update (entry_of before i) number value
  pub others : (j : ℕ) → j < before.count → j ≢ i → entry_of r.memory.table j ≡ entry_of before j

-- a held entry after a client's message
pub data EntryAfter (before : TableMemory) (m : List ℕ) (r : CallResult) (i : ℕ) : Type 0 where
  same : entry_of r.memory.table i ≡ entry_of before i → EntryAfter before m r i
  applied : Applied before m r i → EntryAfter before m r i

-- the count after a client's message: "Revision 2.0 has no removal, so no entry goes away"
pub data CountAfter (before : TableMemory) (m : List ℕ) (r : CallResult) : Type 0 where
  same : r.memory.table.count ≡ before.count → CountAfter before m r
  one_more : (e : Entry) → WellFormed e → BeginsWith m (assignment new_id e) → name_held e.name (entries_of before) ≡ false → r.number ≡ done
      → r.memory.table.count ≡ before.count + 1 → entry_of r.memory.table before.count ≡ new_entry e.name e.type e.value
      → CountAfter before m r

pub record ClientChange (before : TableMemory) (m : List ℕ) (r : CallResult) : Type 0 where
  pub entries : (i : ℕ) → i < before.count → EntryAfter before m r i
  pub count : CountAfter before m r

-- Demand 2: for every limit, memory, connection, message and output
abbrev pub ClientChanges : Type 0
ClientChanges =
    (limit : ℕ) (mem : ServerMemory) (c : ℕ) (m out : List ℕ) → Bytes m → ClientChange mem.table m (call_step limit mem (message_call c m out))

-- ---- what is ignored

-- a message of so many bytes, taken: "nothing changes, no output, no recipients"
abbrev pub ignored_result : ServerMemory → (out : List ℕ) (taken : ℕ) → CallResult
ignored_result mem out taken = record { number = ignored; taken = taken; sent = 0; recipients = 0; memory = mem; output = out }

-- "Otherwise 16": a greeted connection's update whose number is equal, older or undefined
abbrev pub NotGreaterIgnored : Type 0
NotGreaterIgnored =
    (limit : ℕ) (mem : ServerMemory) → SoundMemory limit mem → (c : ℕ) → c < connections → get_or mem.marks c 0 ≡ greeted
    → (id number : ℕ) (value rest out : List ℕ) → id < mem.table.count → IsValue (entry_of mem.table id).type value
    → passed_by (entry_of mem.table id).number number ≡ false
    → call_step limit mem (message_call c (update_bytes id number value ++ rest) out) ≡ ignored_result mem out (length (update_bytes id number value))

-- "If the name is held, 16, also with another type or value or in a full table."
abbrev pub HeldNameIgnored : Type 0
HeldNameIgnored =
    (limit : ℕ) (mem : ServerMemory) → SoundMemory limit mem → (c : ℕ) → c < connections → get_or mem.marks c 0 ≡ greeted
    → (e : Entry) (rest out : List ℕ) → WellFormed e → name_held e.name (entries_of mem.table) ≡ true
    → call_step limit mem (message_call c (assignment_bytes new_id e ++ rest) out) ≡ ignored_result mem out (length (assignment_bytes new_id e))

-- "Keep alive: 16, also before greeting."
abbrev pub KeepAliveIgnored : Type 0
KeepAliveIgnored =
    (limit : ℕ) (mem : ServerMemory) → SoundMemory limit mem → (c : ℕ) → c < connections → get_or mem.marks c 0 ≢ closed → (rest out : List ℕ)
    → call_step limit mem (message_call c (keep_alive_kind ∷ rest) out) ≡ ignored_result mem out kind_size

-- "If the new value equals the stored one, 16, before room is looked at."
abbrev pub EqualValueIgnored : Type 0
EqualValueIgnored =
    (limit : ℕ) (mem : ServerMemory) → SoundMemory limit mem
    → (id : ℕ) (value out : List ℕ) → id < mem.table.count → IsValue (entry_of mem.table id).type value
    → equal_values (entry_of mem.table id).type (entry_of mem.table id).value value ≡ true
    → call_step limit mem (record { call = local_write id value; output = out }) ≡ ignored_result mem out 0

-- ---- what is written

-- where a call is done or ignored, the entry's value is this one, byte for byte
abbrev pub LeavesValue : ℕ → List ℕ → CallResult → Type 0
LeavesValue id value r = (r.number ≡ done) ⊎ (r.number ≡ ignored) → (entry_of r.memory.table id).value ≡ value

-- what the plant writes is held as it was given, whatever lent memory holds: a local write is ignored only where the entry has the same bytes
abbrev pub WriteHeld : Type 0
WriteHeld =
    (limit : ℕ) (mem : ServerMemory) (id : ℕ) (value out : List ℕ)
    → LeavesValue id value (call_step limit mem (record { call = local_write id value; output = out }))

-- and there it is ignored, before room is looked at
abbrev pub SameBytesIgnored : Type 0
SameBytesIgnored =
    (limit : ℕ) (mem : ServerMemory) → SoundMemory limit mem → (id : ℕ) (out : List ℕ) → id < mem.table.count
    → call_step limit mem (record { call = local_write id (entry_of mem.table id).value; output = out }) ≡ ignored_result mem out 0
