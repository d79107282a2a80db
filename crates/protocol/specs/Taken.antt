-- "Taken" is the length of the message that stands first, and "sent" that of the messages written.
use Rattle.std.specs.Prelude.{ℕ, suc, ◌≤◌, ◌<◌, List, [], ◌∷◌, ◌++◌, ◌≡◌, ◌≢◌, ◌⊎◌, length, drop, get_or}
use Rattle.field.specs.Answer.{done, ignored}
use Rattle.sequence.specs.SequenceNumber.{next_number}
use Rattle.value.specs.Value.{IsValue}
use Rattle.message.specs.Layout.{Entry, Message, keep_alive, hello, unsupported, hello_complete, assignment, update, layout, WellFormed}
use Rattle.message.specs.Reader.{Bytes, BeginsWith}
use Rattle.table.specs.Table.{entries_of, default_entry}
use Rattle.soundness.specs.Sound.{connections, closed, open', greeted}
use Rattle.protocol.specs.Judge.{Call, open_connection, leave, client_message, local_create, local_write, read_entry, protocol_revision, new_id, new_entry}
use Rattle.protocol.specs.Step.{ServerMemory, LentCall, CallResult, call_step}

-- a client's message, lent an output
abbrev pub message_call : (c : ℕ) (m out : List ℕ) → LentCall
message_call c m out = record { call = client_message c m; output = out }

-- a message that a server with these entries takes from a client: "ID 0xFFFF"; an update has a held ID and a value of the stored type;
-- "0x02 and 0x03 from a client: 4"
abbrev pub FromClient : List Entry → Message → Type 0
FromClient es keep_alive = Unit {0}
FromClient es (hello revision) = Unit {0}
FromClient es (unsupported revision) = ⊥
FromClient es hello_complete = ⊥
FromClient es (assignment id e) = (id ≡ new_id) × WellFormed e
FromClient es (update id number value) = (id < length es) × IsValue (get_or es id default_entry).type value

-- such a message stands first in the bytes, whatever is behind it
pub record StandsFirst (es : List Entry) (m : List ℕ) (x : Message) : Type 0 where
  pub obeys : FromClient es x
  pub first : BeginsWith m x

-- and no other does
abbrev pub OneStandsFirst : Type 0
OneStandsFirst = (es : List Entry) (m : List ℕ) (x y : Message) → StandsFirst es m x → StandsFirst es m y → x ≡ y

-- the state that a message needs: "Keep alive: 16, also before greeting"; "Hello: open connections only"; "greeted only"
abbrev pub StateAllows : (mark : ℕ) → Message → Type 0
StateAllows mark keep_alive = mark ≢ closed
StateAllows mark (hello revision) = mark ≡ open'
StateAllows mark (unsupported revision) = ⊥
StateAllows mark hello_complete = ⊥
StateAllows mark (assignment id e) = mark ≡ greeted
StateAllows mark (update id number value) = mark ≡ greeted

-- a client's call takes the message that stands first
pub record TakesFirst (limit : ℕ) (mem : ServerMemory) (c : ℕ) (m out : List ℕ) : Type 0 where
  pub message : Message
  pub stands : StandsFirst (entries_of mem.table) m message
  -- of a connection whose state allows it
  pub connection : c < connections
  pub state : StateAllows (get_or mem.marks c 0) message
  -- ""Taken" is the message's own length, with 16 too", which is at least 1
  pub taken : (call_step limit mem (message_call c m out)).taken ≡ length (layout message)
  pub some_taken : 1 ≤ length (layout message)
  -- "bytes after it are not looked at"
  pub alone : (rest : List ℕ) → call_step limit mem (message_call c (layout message ++ rest) out) ≡ call_step limit mem (message_call c m out)

-- with 0 or 16 a client's message is taken; with every other number nothing is (`CallAnswered`)
abbrev pub MessageTaken : Type 0
MessageTaken =
    (limit : ℕ) (mem : ServerMemory) (c : ℕ) (m out : List ℕ) → Bytes m
    → ((call_step limit mem (message_call c m out)).number ≡ done) ⊎ ((call_step limit mem (message_call c m out)).number ≡ ignored)
    → TakesFirst limit mem c m out

-- ---- what is sent

-- messages one behind the other
unfoldable pub joined : List Message → List ℕ
joined [] = []
joined (x ∷ xs) = layout x ++ joined xs

-- "one assignment per entry in rising ID, then 0x03", from an ID on
unfoldable pub hello_messages : ℕ → List Entry → List Message
hello_messages id [] = hello_complete ∷ []
hello_messages id (e ∷ es) = assignment id e ∷ hello_messages (suc id) es

-- the messages that a call sends where it is done
pub data Sends (mem : ServerMemory) : Call → List Message → Type 0 where
  -- "Both send nothing.", and so does reading
  opening : {c : ℕ} → Sends mem (open_connection c) []
  leaving : {c : ℕ} → Sends mem (leave c) []
  reading : {id : ℕ} → Sends mem (read_entry id) []
  -- "Revision 0x0200: answer to the sender, one assignment per entry in rising ID, then 0x03"; "Other revisions: 0x02 with 0x0200"
  accepting : {c : ℕ} {m : List ℕ} → StandsFirst (entries_of mem.table) m (hello protocol_revision)
      → Sends mem (client_message c m) (hello_messages 0 (entries_of mem.table))
  turning_away : {c revision : ℕ} {m : List ℕ} → StandsFirst (entries_of mem.table) m (hello revision) → revision ≢ protocol_revision
      → Sends mem (client_message c m) (unsupported protocol_revision ∷ [])
  -- "the next ID (0, 1, 2 ..) and number 1 (H)"
  assigning : {c : ℕ} {m : List ℕ} {e : Entry} → StandsFirst (entries_of mem.table) m (assignment new_id e)
      → Sends mem (client_message c m) (assignment mem.table.count (new_entry e.name e.type e.value) ∷ [])
  creating : {name : List ℕ} {type : ℕ} {value : List ℕ} → Sends mem (local_create name type value) (assignment mem.table.count (new_entry name type value) ∷ [])
  -- "the same update"; "its number is the stored number plus one"
  updating : {c id number : ℕ} {m value : List ℕ} → StandsFirst (entries_of mem.table) m (update id number value)
      → Sends mem (client_message c m) (update id number value ∷ [])
  writing : {id : ℕ} {value : List ℕ}
      → Sends mem (local_write id value) (update id (next_number (get_or (entries_of mem.table) id default_entry).number) value ∷ [])

-- "With 0 the first "sent" bytes of the output are the messages and the rest is unchanged."
pub record Sent (mem : ServerMemory) (k : LentCall) (r : CallResult) : Type 0 where
  pub messages : List Message
  pub are : Sends mem k.call messages
  pub room : length (joined messages) ≤ length k.output
  pub sent : r.sent ≡ length (joined messages)
  pub output : r.output ≡ joined messages ++ drop r.sent k.output

-- of every call that is done; with every other number nothing is sent, and the output is as it was lent (`CallAnswered`)
abbrev pub MessagesSent : Type 0
MessagesSent =
    (limit : ℕ) (mem : ServerMemory) (k : LentCall) → ((c : ℕ) (m : List ℕ) → k.call ≡ client_message c m → Bytes m)
    → (call_step limit mem k).number ≡ done → Sent mem k (call_step limit mem k)

-- "Opening, leaving, local calls .. take 0": every call but a client's message
abbrev pub NothingTaken : Type 0
NothingTaken = (limit : ℕ) (mem : ServerMemory) (k : LentCall) → ((c : ℕ) (m : List ℕ) → k.call ≢ client_message c m) → (call_step limit mem k).taken ≡ 0
