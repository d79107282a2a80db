-- What must be done is done: for every limit, in every sound memory, wherever the output has room.
use Rattle.std.specs.Prelude.{ℕ, ◌^◌, ◌≤◌, ◌<◌, true, false, List, [], ◌∷◌, ◌++◌, ◌≡◌, ◌≢◌, length, get_or, set, replicate, Ok}
use Rattle.field.specs.Answer.{done}
use Rattle.field.specs.Octets.{overwrite_at}
use Rattle.sequence.specs.SequenceNumber.{next_number, passed_by}
use Rattle.value.specs.Value.{IsValue}
use Rattle.scalar.specs.Scalar.{scalar_of, equal_values}
use Rattle.message.specs.Layout.{Entry, hello_kind, unsupported_kind, revision_length, revision_bytes, assignment_bytes, update_bytes, WellFormed}
use Rattle.table.specs.Names.{name_held}
use Rattle.table.specs.Table.{TableMemory, Holds, emptied, entries_of, store_entry, store_value, entry_of, with_update}
use Rattle.soundness.specs.Sound.{sound_table, connections, closed, open', greeted}
use Rattle.recipients.specs.Recipients.{all_greeted, other_greeted, recipient_set}
use Rattle.hello.specs.Hello.{hello_answer, longest_hello}
use Rattle.protocol.specs.Judge.{open_connection, leave, local_create, local_write, protocol_revision, new_id, new_entry}
use Rattle.protocol.specs.Step.{ServerMemory, LentCall, CallResult, with_mark, with_table, call_step, fresh_start, read_scalar}
use Rattle.protocol.specs.Run.{hello_call}
use Rattle.protocol.specs.Kept.{SoundMemory}
use Rattle.protocol.specs.Taken.{message_call}

-- a call that is done: what it took and sent, to whom, and memory afterwards
abbrev pub done_result : (out : List ℕ) (taken : ℕ) (messages : List ℕ) (recipients : ℕ) (after : ServerMemory) → CallResult
done_result out taken messages recipients after =
    record { number = done; taken = taken; sent = length messages; recipients = recipients; memory = after; output = overwrite_at out 0 messages }

-- ---- clients

-- "Revision 0x0200: answer to the sender, one assignment per entry in rising ID, then 0x03; the connection is greeted."
abbrev pub HelloDone : Type 0
HelloDone =
    (limit : ℕ) (mem : ServerMemory) → SoundMemory limit mem → (c : ℕ) → c < connections → get_or mem.marks c 0 ≡ open'
    → (rest out : List ℕ) → length (hello_answer 0 (entries_of mem.table)) ≤ length out
    → call_step limit mem (hello_call c rest out)
    ≡ done_result out revision_length (hello_answer 0 (entries_of mem.table)) (2 ^ c) (with_mark mem c greeted)

-- "Other revisions: 0x02 with 0x0200 to the sender; the connection is closed."
abbrev pub OtherRevisionDone : Type 0
OtherRevisionDone =
    (limit : ℕ) (mem : ServerMemory) → SoundMemory limit mem → (c : ℕ) → c < connections → get_or mem.marks c 0 ≡ open'
    → (revision : ℕ) (rest out : List ℕ) → revision ≢ protocol_revision → length (revision_bytes unsupported_kind protocol_revision) ≤ length out
    → call_step limit mem (message_call c (revision_bytes hello_kind revision ++ rest) out)
    ≡ done_result out revision_length (revision_bytes unsupported_kind protocol_revision) (2 ^ c) (with_mark mem c closed)

-- "the longest answer to a hello": an output of that length always has room
abbrev pub HelloHasRoom : Type 0
HelloHasRoom = (limit : ℕ) (mem : ServerMemory) → SoundMemory limit mem → length (hello_answer 0 (entries_of mem.table)) ≤ longest_hello limit

-- a new entry was stored, with the next ID: the entries are those before with it at the end
pub record NewDone (limit : ℕ) (mem : ServerMemory) (k : LentCall) (taken : ℕ) (e : Entry) : Type 0 where
  -- "the assignment goes to all greeted connections, the sender included"
  pub answered : call_step limit mem k
      ≡ done_result k.output taken (assignment_bytes mem.table.count e) (recipient_set all_greeted mem.marks) (with_table mem (store_entry mem.table e))
  pub entries : entries_of (store_entry mem.table e) ≡ entries_of mem.table ++ (e ∷ [])

-- "Otherwise the next ID (0, 1, 2 ..) and number 1 (H)": a greeted connection's assignment of a new name, in a table that is not full
abbrev pub AssignmentDone : Type 0
AssignmentDone =
    (limit : ℕ) (mem : ServerMemory) → SoundMemory limit mem → (c : ℕ) → c < connections → get_or mem.marks c 0 ≡ greeted
    → (e : Entry) (rest out : List ℕ) → WellFormed e → name_held e.name (entries_of mem.table) ≡ false → mem.table.count < limit
    → length (assignment_bytes mem.table.count (new_entry e.name e.type e.value)) ≤ length out
    → NewDone limit mem (message_call c (assignment_bytes new_id e ++ rest) out) (length (assignment_bytes new_id e)) (new_entry e.name e.type e.value)

-- number and value of an entry were stored: the entries are those before with them at its ID
pub record UpdateDone (limit : ℕ) (mem : ServerMemory) (k : LentCall) (taken recipients id number : ℕ) (value : List ℕ) : Type 0 where
  pub answered : call_step limit mem k
      ≡ done_result k.output taken (update_bytes id number value) recipients (with_table mem (store_value mem.table id number value))
  pub entries : entries_of (store_value mem.table id number value) ≡ set (entries_of mem.table) id (with_update (entry_of mem.table id) number value)

-- "With d from 1 to 32,767 number and value are stored and the same update goes to all other greeted connections (H)."
abbrev pub GreaterDone : Type 0
GreaterDone =
    (limit : ℕ) (mem : ServerMemory) → SoundMemory limit mem → (c : ℕ) → c < connections → get_or mem.marks c 0 ≡ greeted
    → (id number : ℕ) (value rest out : List ℕ) → id < mem.table.count → IsValue (entry_of mem.table id).type value
    → passed_by (entry_of mem.table id).number number ≡ true → length (update_bytes id number value) ≤ length out
    → UpdateDone limit mem (message_call c (update_bytes id number value ++ rest) out) (length (update_bytes id number value))
    (recipient_set (other_greeted c) mem.marks) id number value

-- ---- the plant's own calls

-- opening a connection that is closed, and leaving with one that is not
abbrev pub OpenDone : Type 0
OpenDone =
    (limit : ℕ) (mem : ServerMemory) → SoundMemory limit mem → (c : ℕ) → c < connections → get_or mem.marks c 0 ≡ closed → (out : List ℕ)
    → call_step limit mem (record { call = open_connection c; output = out }) ≡ done_result out 0 [] 0 (with_mark mem c open')

abbrev pub LeaveDone : Type 0
LeaveDone =
    (limit : ℕ) (mem : ServerMemory) → SoundMemory limit mem → (c : ℕ) → c < connections → get_or mem.marks c 0 ≢ closed → (out : List ℕ)
    → call_step limit mem (record { call = leave c; output = out }) ≡ done_result out 0 [] 0 (with_mark mem c closed)

-- "then as a new assignment, to all greeted"
abbrev pub CreateDone : Type 0
CreateDone =
    (limit : ℕ) (mem : ServerMemory) → SoundMemory limit mem
    → (name : List ℕ) (type : ℕ) (value out : List ℕ) → WellFormed (new_entry name type value) → name_held name (entries_of mem.table) ≡ false
    → mem.table.count < limit → length (assignment_bytes mem.table.count (new_entry name type value)) ≤ length out
    → NewDone limit mem (record { call = local_create name type value; output = out }) 0 (new_entry name type value)

-- "Else its number is the stored number plus one, with 65,535 followed by 0, and the update goes to all greeted."
abbrev pub WriteDone : Type 0
WriteDone =
    (limit : ℕ) (mem : ServerMemory) → SoundMemory limit mem
    → (id : ℕ) (value out : List ℕ) → id < mem.table.count → IsValue (entry_of mem.table id).type value
    → equal_values (entry_of mem.table id).type (entry_of mem.table id).value value ≡ false
    → length (update_bytes id (next_number (entry_of mem.table id).number) value) ≤ length out
    → UpdateDone limit mem (record { call = local_write id value; output = out }) 0 (recipient_set all_greeted mem.marks) id
    (next_number (entry_of mem.table id).number) value

-- ---- starting and reading

-- "It accepts any contents and refuses only memory that is too short (14)."
abbrev pub FreshStartDone : Type 0
FreshStartDone =
    (limit : ℕ) (mem : ServerMemory) → Holds limit mem.table.heads mem.table.bytes → connections ≤ length mem.marks
    → fresh_start limit mem ≡ record { number = done; memory = record { table = emptied mem.table; marks = overwrite_at mem.marks 0 (replicate connections closed) } }

-- "Reading an entry by ID answers a Boolean, a Double as a number, or neither where it is text or an array."
abbrev pub ReadDone : Type 0
ReadDone =
    (limit : ℕ) (m : TableMemory) → sound_table limit m ≡ true → (id : ℕ) → id < m.count → read_scalar limit m id ≡ Ok (scalar_of (entry_of m id).type (entry_of m id).value)
