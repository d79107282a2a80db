-- What a call comes to, before the room for its output is looked at: "The order in which a message is judged", "What each message does".
use Rattle.message.specs.Read.{AssignmentRead, UpdateRead}
use Rattle.std.specs.Prelude.{ℕ, List, length, drop, get_or, ltb, eqb, Ok, Err}
use Rattle.field.specs.Answer.{incomplete, connection_too_high, wrong_state, unknown_kind, unknown_id, table_full, name_taken}
use Rattle.field.specs.Choice.{pick, demand}
use Rattle.field.specs.Octets.{decode16}
use Rattle.field.specs.Field.{fault_at, demand_bytes, and_then}
use Rattle.field.specs.declared.Fault.{Fault}
use Rattle.sequence.specs.SequenceNumber.{start, next_number, passed_by}
use Rattle.value.specs.Value.{parse_lone}
use Rattle.scalar.specs.Scalar.{equal_values}
use Rattle.message.specs.Layout.{Entry, kind_size, revision_length, keep_alive_kind, hello_kind, assignment_kind, update_kind}
use Rattle.message.specs.Reader.{id_allowed, parse_assignment, name_in, value_in, update_value_in, assignment_length, update_length}
use Rattle.message.specs.declared.AllowedId.TheVariants.{Only}
use Rattle.writer.specs.Writer.{check_name}
use Rattle.table.specs.Names.{name_held}
use Rattle.table.specs.Table.{default_entry, parse_held_update}
use Rattle.soundness.specs.Sound.{connections, closed, open', greeted}
use Rattle.recipients.specs.Recipients.{Recipients, all_greeted, other_greeted}

-- a call of the server half, with the bytes that are lent to it to read
pub data Call : Type 0 where
  open_connection : (c : ℕ) → Call
  leave : (c : ℕ) → Call
  client_message : (c : ℕ) (m : List ℕ) → Call
  local_create : (name : List ℕ) (type : ℕ) (value : List ℕ) → Call
  local_write : (id : ℕ) (value : List ℕ) → Call
  read_entry : (id : ℕ) → Call

pub data Verdict : Type 0 where
  refuse : Fault → Verdict
  ignore : (taken : ℕ) → Verdict
  read_done : Verdict
  open_mark : (c : ℕ) → Verdict
  close_mark : (c : ℕ) → Verdict
  accept_hello : (c : ℕ) → Verdict
  unsupported_revision : (c : ℕ) → Verdict
  store_new : Entry → (taken : ℕ) → Verdict
  store_update : (id number : ℕ) (value : List ℕ) (taken : ℕ) (to : Recipients) → Verdict

-- a refusal at the first byte, or at none
abbrev pub refuse_call : (number : ℕ) → Verdict
refuse_call number = refuse (fault_at number 0)

-- the protocol revision that is spoken
abbrev pub protocol_revision : ℕ
protocol_revision = 0x0200

-- "ID 0xFFFF": a client's assignment asks for a new ID
abbrev pub new_id : ℕ
new_id = 0xFFFF

-- a new entry has "number 1 (H)"
abbrev pub new_entry : (name : List ℕ) (type : ℕ) (value : List ℕ) → Entry
new_entry name type value = record { name = name; type = type; number = start; value = value }

-- "Hello: open connections only (3 if greeted)."
unfoldable pub judge_hello : (c mark : ℕ) → List ℕ → Verdict
judge_hello c mark m =
    demand (eqb mark open') (refuse_call wrong_state)
    (demand_bytes revision_length m (refuse (fault_at incomplete kind_size))
    (pick (eqb (decode16 (drop kind_size m)) protocol_revision) (accept_hello c) (unsupported_revision c)))

-- "If the name is held, 16 .. Otherwise the next ID (0, 1, 2 ..) and number 1 (H)": 11 where the table is full
unfoldable pub judge_assignment : ℕ → List Entry → List ℕ → AssignmentRead → Verdict
judge_assignment limit es m (Err fault) = refuse fault
judge_assignment limit es m (Ok read) =
    pick (name_held (name_in read.name_length m) es) (ignore (assignment_length read.name_length read.value_length))
    (demand (ltb (length es) limit) (refuse_call table_full)
    (store_new (new_entry (name_in read.name_length m) read.type_code (value_in read.name_length read.value_length m)) (assignment_length read.name_length read.value_length)))

-- "With d from 1 to 32,767 number and value are stored and the same update goes to all other greeted connections (H). Otherwise 16."
unfoldable pub judge_update : ℕ → List Entry → List ℕ → UpdateRead → Verdict
judge_update c es m (Err fault) = refuse fault
judge_update c es m (Ok read) =
    pick (passed_by (get_or es read.id default_entry).number read.number)
    (store_update read.id read.number (update_value_in read.value_length m) (update_length read.value_length) (other_greeted c))
    (ignore (update_length read.value_length))

-- "greeted only" (3)
abbrev pub demand_greeted : ℕ → Verdict → Verdict
demand_greeted mark next = demand (eqb mark greeted) (refuse_call wrong_state) next

-- "After the kind (4) comes the state for that kind (3)."
unfoldable pub judge_kind : ℕ → List Entry → (c mark kind : ℕ) → List ℕ → Verdict
judge_kind limit es c mark kind m =
    pick (eqb kind keep_alive_kind) (ignore kind_size)
    (pick (eqb kind hello_kind) (judge_hello c mark m)
    (pick (eqb kind assignment_kind)
    (demand_greeted mark (judge_assignment limit es m (parse_assignment (id_allowed (Only new_id)) m)))
    (pick (eqb kind update_kind)
    (demand_greeted mark (judge_update c es m (parse_held_update es m)))
    (refuse_call unknown_kind))))

-- a message of a connection that is open or greeted
unfoldable pub judge_message : ℕ → List Entry → (c mark : ℕ) → List ℕ → Verdict
judge_message limit es c mark m = demand_bytes kind_size m (refuse_call incomplete) (judge_kind limit es c mark (get_or m 0 0) m)

-- "Local create (name, type, value): 14, name, type, value, 13, 11, 12; then as a new assignment"
unfoldable pub judge_create : ℕ → List Entry → List ℕ → ℕ → List ℕ → Verdict
judge_create limit es name type value =
    and_then refuse (check_name name) (λ _.
    and_then refuse (parse_lone type value) (λ _.
    pick (name_held name es) (refuse_call name_taken)
    (demand (ltb (length es) limit) (refuse_call table_full)
    (store_new (new_entry name type value) 0))))

-- "Local write (ID, value): 14, 6, value, 12. If the new value equals the stored one, 16, before room is looked at."
unfoldable pub judge_write : List Entry → ℕ → List ℕ → Verdict
judge_write es id value =
    demand (ltb id (length es)) (refuse_call unknown_id)
    (and_then refuse (parse_lone (get_or es id default_entry).type value) (λ _.
    pick (equal_values (get_or es id default_entry).type (get_or es id default_entry).value value) (ignore 0)
    (store_update id (next_number (get_or es id default_entry).number) value 0 all_greeted)))

-- "connection number (2), connection closed (3)": what comes next where the connection is open or greeted
abbrev pub demand_connected : (marks : List ℕ) (c : ℕ) → Verdict → Verdict
demand_connected marks c next =
    demand (ltb c connections) (refuse_call connection_too_high)
    (pick (eqb (get_or marks c 0) closed) (refuse_call wrong_state)
    next)

unfoldable pub judge : ℕ → List Entry → List ℕ → Call → Verdict
judge limit es marks (open_connection c) =
    demand (ltb c connections) (refuse_call connection_too_high)
    (demand (eqb (get_or marks c 0) closed) (refuse_call wrong_state)
    (open_mark c))
judge limit es marks (leave c) = demand_connected marks c (close_mark c)
judge limit es marks (client_message c m) = demand_connected marks c (judge_message limit es c (get_or marks c 0) m)
judge limit es marks (local_create name type value) = judge_create limit es name type value
judge limit es marks (local_write id value) = judge_write es id value
judge limit es marks (read_entry id) = demand (ltb id (length es)) (refuse_call unknown_id) read_done
