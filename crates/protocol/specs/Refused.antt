-- What must be refused is refused, by its number: for every limit, and past 14 in every sound memory.
use Rattle.std.specs.Prelude.{ℕ, ◌≤◌, ◌<◌, true, false, List, [], ◌∷◌, ◌++◌, ◌≡◌, ◌≢◌, length, get_or}
use Rattle.field.specs.Answer.{done, incomplete, connection_too_high, wrong_state, unknown_kind, unknown_id, table_full, output_too_short, name_taken, unsound}
use Rattle.sequence.specs.SequenceNumber.{next_number, passed_by}
use Rattle.value.specs.Value.{IsValue}
use Rattle.scalar.specs.Scalar.{equal_values}
use Rattle.message.specs.Layout.{Entry, keep_alive_kind, hello_kind, unsupported_kind, assignment_kind, update_kind, revision_bytes, assignment_bytes, update_bytes, WellFormed}
use Rattle.table.specs.Names.{name_held}
use Rattle.table.specs.Table.{entry_of, entries_of}
use Rattle.soundness.specs.Sound.{sound_table, sound_marks, connections, closed, open', greeted}
use Rattle.hello.specs.Hello.{hello_answer}
use Rattle.protocol.specs.Judge.{Call, open_connection, leave, client_message, local_create, local_write, read_entry, protocol_revision, new_id, new_entry}
use Rattle.protocol.specs.Step.{ServerMemory, LentCall, CallResult, refusal, call_step}
use Rattle.protocol.specs.Run.{hello_call}
use Rattle.protocol.specs.Kept.{SoundMemory}
use Rattle.protocol.specs.Taken.{message_call}

-- a call is refused with a number: "changes no lent memory"
abbrev pub Refused : ℕ → ServerMemory → LentCall → (number : ℕ) → Type 0
Refused limit mem k number = call_step limit mem k ≡ refusal mem k.output number

-- "lent table unsound or too small" (14): the table for every call, the marks for every call that is lent them
abbrev pub UnsoundTableRefused : Type 0
UnsoundTableRefused = (limit : ℕ) (mem : ServerMemory) (k : LentCall) → sound_table limit mem.table ≡ false → Refused limit mem k unsound

abbrev pub UnsoundMarksRefused : Type 0
UnsoundMarksRefused =
    (limit : ℕ) (mem : ServerMemory) (k : LentCall) → ((id : ℕ) → k.call ≢ read_entry id) → sound_marks mem.marks ≡ false → Refused limit mem k unsound

-- ---- connections

-- the calls of a connection
pub data Concerns (c : ℕ) : Call → Type 0 where
  opening : Concerns c (open_connection c)
  leaving : Concerns c (leave c)
  sending : {m : List ℕ} → Concerns c (client_message c m)

-- "connection number above 15"
abbrev pub TooHighRefused : Type 0
TooHighRefused =
    (limit : ℕ) (mem : ServerMemory) → SoundMemory limit mem → (c : ℕ) → connections ≤ c → (k : LentCall) → Concerns c k.call
    → Refused limit mem k connection_too_high

-- "connection closed (3)"; "then 3 where the connection is not closed, or is closed"
pub record ClosedRefuses (limit : ℕ) (mem : ServerMemory) (c : ℕ) (m out : List ℕ) : Type 0 where
  pub message : Refused limit mem (message_call c m out) wrong_state
  pub left : Refused limit mem (record { call = leave c; output = out }) wrong_state

abbrev pub ClosedRefused : Type 0
ClosedRefused =
    (limit : ℕ) (mem : ServerMemory) → SoundMemory limit mem → (c : ℕ) → c < connections → get_or mem.marks c 0 ≡ closed
    → (m out : List ℕ) → ClosedRefuses limit mem c m out

abbrev pub OpenAgainRefused : Type 0
OpenAgainRefused =
    (limit : ℕ) (mem : ServerMemory) → SoundMemory limit mem → (c : ℕ) → c < connections → get_or mem.marks c 0 ≢ closed
    → (out : List ℕ) → Refused limit mem (record { call = open_connection c; output = out }) wrong_state

-- ---- a client's message, of a connection that is not closed

-- "a field that is not there ends the reading with 1": the kind
abbrev pub EmptyRefused : Type 0
EmptyRefused =
    (limit : ℕ) (mem : ServerMemory) → SoundMemory limit mem → (c : ℕ) → c < connections → get_or mem.marks c 0 ≢ closed
    → (out : List ℕ) → Refused limit mem (message_call c [] out) incomplete

-- "message kind unknown, or not for this end": "0x02 and 0x03 from a client: 4"
abbrev pub KindRefused : Type 0
KindRefused =
    (limit : ℕ) (mem : ServerMemory) → SoundMemory limit mem → (c : ℕ) → c < connections → get_or mem.marks c 0 ≢ closed
    → (kind : ℕ) → kind ≢ keep_alive_kind → kind ≢ hello_kind → kind ≢ assignment_kind → kind ≢ update_kind
    → (rest out : List ℕ) → Refused limit mem (message_call c (kind ∷ rest) out) unknown_kind

-- "After the kind (4) comes the state for that kind (3)", whatever is behind it: "open connections only (3 if greeted)"; "greeted only"
abbrev pub GreetedHelloRefused : Type 0
GreetedHelloRefused =
    (limit : ℕ) (mem : ServerMemory) → SoundMemory limit mem → (c : ℕ) → c < connections → get_or mem.marks c 0 ≡ greeted
    → (rest out : List ℕ) → Refused limit mem (message_call c (hello_kind ∷ rest) out) wrong_state

pub record UngreetedRefuses (limit : ℕ) (mem : ServerMemory) (c : ℕ) (rest out : List ℕ) : Type 0 where
  pub assignment : Refused limit mem (message_call c (assignment_kind ∷ rest) out) wrong_state
  pub update : Refused limit mem (message_call c (update_kind ∷ rest) out) wrong_state

abbrev pub UngreetedRefused : Type 0
UngreetedRefused =
    (limit : ℕ) (mem : ServerMemory) → SoundMemory limit mem → (c : ℕ) → c < connections → get_or mem.marks c 0 ≡ open'
    → (rest out : List ℕ) → UngreetedRefuses limit mem c rest out

-- "an unknown ID is refused once it is read", whatever is behind it
abbrev pub UnknownIdRefused : Type 0
UnknownIdRefused =
    (limit : ℕ) (mem : ServerMemory) → SoundMemory limit mem → (c : ℕ) → c < connections → get_or mem.marks c 0 ≡ greeted
    → (id number : ℕ) (value rest out : List ℕ) → mem.table.count ≤ id → Refused limit mem (message_call c (update_bytes id number value ++ rest) out) unknown_id

-- "table full (11)"
abbrev pub FullRefused : Type 0
FullRefused =
    (limit : ℕ) (mem : ServerMemory) → SoundMemory limit mem → (c : ℕ) → c < connections → get_or mem.marks c 0 ≡ greeted
    → (e : Entry) (rest out : List ℕ) → WellFormed e → name_held e.name (entries_of mem.table) ≡ false → limit ≤ mem.table.count
    → Refused limit mem (message_call c (assignment_bytes new_id e ++ rest) out) table_full

-- ---- "last the output room (12), given exactly when the output is shorter than what would be sent"

-- of a call that is done in some output: what comes of it in another
pub record RoomDecides (mem : ServerMemory) (out : List ℕ) (done_with_lem r : CallResult) : Type 0 where
  pub fits : done_with_lem.sent ≤ length out → r.number ≡ done
  pub too_short : length out < done_with_lem.sent → r ≡ refusal mem out output_too_short

abbrev pub CallNeedsRoom : Type 0
CallNeedsRoom =
    (limit : ℕ) (mem : ServerMemory) (call : Call) (room out : List ℕ)
    → (call_step limit mem (record { call = call; output = room })).number ≡ done
    → RoomDecides mem out (call_step limit mem (record { call = call; output = room })) (call_step limit mem (record { call = call; output = out }))

-- of a call that is ignored in some output, or refused by another number: it sends nothing, and comes to the same in every output
abbrev pub without_room : ServerMemory → (out : List ℕ) → CallResult → CallResult
without_room mem out r = record { number = r.number; taken = r.taken; sent = 0; recipients = 0; memory = mem; output = out }

abbrev pub RoomLast : Type 0
RoomLast =
    (limit : ℕ) (mem : ServerMemory) (call : Call) (room out : List ℕ)
    → (call_step limit mem (record { call = call; output = room })).number ≢ done
    → (call_step limit mem (record { call = call; output = room })).number ≢ output_too_short
    → call_step limit mem (record { call = call; output = out }) ≡ without_room mem out (call_step limit mem (record { call = call; output = room }))

abbrev pub HelloNoRoom : Type 0
HelloNoRoom =
    (limit : ℕ) (mem : ServerMemory) → SoundMemory limit mem → (c : ℕ) → c < connections → get_or mem.marks c 0 ≡ open'
    → (rest out : List ℕ) → length out < length (hello_answer 0 (entries_of mem.table)) → Refused limit mem (hello_call c rest out) output_too_short

abbrev pub AssignmentNoRoom : Type 0
AssignmentNoRoom =
    (limit : ℕ) (mem : ServerMemory) → SoundMemory limit mem → (c : ℕ) → c < connections → get_or mem.marks c 0 ≡ greeted
    → (e : Entry) (rest out : List ℕ) → WellFormed e → name_held e.name (entries_of mem.table) ≡ false → mem.table.count < limit
    → length out < length (assignment_bytes mem.table.count (new_entry e.name e.type e.value))
    → Refused limit mem (message_call c (assignment_bytes new_id e ++ rest) out) output_too_short

abbrev pub UpdateNoRoom : Type 0
UpdateNoRoom =
    (limit : ℕ) (mem : ServerMemory) → SoundMemory limit mem → (c : ℕ) → c < connections → get_or mem.marks c 0 ≡ greeted
    → (id number : ℕ) (value rest out : List ℕ) → id < mem.table.count → IsValue (entry_of mem.table id).type value
    → passed_by (entry_of mem.table id).number number ≡ true → length out < length (update_bytes id number value)
    → Refused limit mem (message_call c (update_bytes id number value ++ rest) out) output_too_short

abbrev pub OtherRevisionNoRoom : Type 0
OtherRevisionNoRoom =
    (limit : ℕ) (mem : ServerMemory) → SoundMemory limit mem → (c : ℕ) → c < connections → get_or mem.marks c 0 ≡ open'
    → (revision : ℕ) (rest out : List ℕ) → revision ≢ protocol_revision → length out < length (revision_bytes unsupported_kind protocol_revision)
    → Refused limit mem (message_call c (revision_bytes hello_kind revision ++ rest) out) output_too_short

abbrev pub CreateNoRoom : Type 0
CreateNoRoom =
    (limit : ℕ) (mem : ServerMemory) → SoundMemory limit mem
    → (name : List ℕ) (type : ℕ) (value out : List ℕ) → WellFormed (new_entry name type value) → name_held name (entries_of mem.table) ≡ false
    → mem.table.count < limit → length out < length (assignment_bytes mem.table.count (new_entry name type value))
    → Refused limit mem (record { call = local_create name type value; output = out }) output_too_short

abbrev pub WriteNoRoom : Type 0
WriteNoRoom =
    (limit : ℕ) (mem : ServerMemory) → SoundMemory limit mem
    → (id : ℕ) (value out : List ℕ) → id < mem.table.count → IsValue (entry_of mem.table id).type value
    → equal_values (entry_of mem.table id).type (entry_of mem.table id).value value ≡ false
    → length out < length (update_bytes id (next_number (entry_of mem.table id).number) value)
    → Refused limit mem (record { call = local_write id value; output = out }) output_too_short

-- ---- local calls

-- "13" where the name is held, before "11"
abbrev pub HeldNameRefused : Type 0
HeldNameRefused =
    (limit : ℕ) (mem : ServerMemory) → SoundMemory limit mem
    → (name : List ℕ) (type : ℕ) (value out : List ℕ) → WellFormed (new_entry name type value) → name_held name (entries_of mem.table) ≡ true
    → Refused limit mem (record { call = local_create name type value; output = out }) name_taken

-- "ID not in the table": a local write, and reading
pub record NoEntryRefuses (limit : ℕ) (mem : ServerMemory) (id : ℕ) (value out : List ℕ) : Type 0 where
  pub writing : Refused limit mem (record { call = local_write id value; output = out }) unknown_id
  pub reading : Refused limit mem (record { call = read_entry id; output = out }) unknown_id

abbrev pub NoEntryRefused : Type 0
NoEntryRefused = (limit : ℕ) (mem : ServerMemory) → SoundMemory limit mem → (id : ℕ) → mem.table.count ≤ id → (value out : List ℕ) → NoEntryRefuses limit mem id value out
