-- The copy: "taken" is the length of the message that stands first.
use Rattle.std.specs.Prelude.{ℕ, ◌<◌, List, ◌++◌, ◌≡◌, ◌⊎◌, length, get_or}
use Rattle.field.specs.Answer.{done, ignored}
use Rattle.value.specs.Value.{IsValue}
use Rattle.message.specs.Layout.{Entry, Message, keep_alive, hello, unsupported, hello_complete, assignment, update, layout, WellFormed}
use Rattle.message.specs.Reader.{Bytes, BeginsWith}
use Rattle.table.specs.Table.{TableMemory, entries_of, default_entry}
use Rattle.protocol.specs.Copy.{copy_message}

-- a message that a copy with these entries takes from a server: "An assignment's ID must equal the copy's count";
-- an update has a held ID and a value of the stored type; "0x01 is 4"
abbrev pub FromServer : List Entry → Message → Type 0
FromServer es keep_alive = Unit {0}
FromServer es (hello revision) = ⊥
FromServer es (unsupported revision) = Unit {0}
FromServer es hello_complete = Unit {0}
FromServer es (assignment id e) = (id ≡ length es) × WellFormed e
FromServer es (update id number value) = (id < length es) × IsValue (get_or es id default_entry).type value

-- such a message stands first in the bytes, whatever is behind it
pub record CopyStandsFirst (es : List Entry) (m : List ℕ) (x : Message) : Type 0 where
  pub obeys : FromServer es x
  pub first : BeginsWith m x

-- and no other does
abbrev pub CopyOneStandsFirst : Type 0
CopyOneStandsFirst = (es : List Entry) (m : List ℕ) (x y : Message) → CopyStandsFirst es m x → CopyStandsFirst es m y → x ≡ y

-- the copy takes the message that stands first
pub record CopyTakesFirst (limit : ℕ) (m : TableMemory) (bytes : List ℕ) : Type 0 where
  pub message : Message
  pub stands : CopyStandsFirst (entries_of m) bytes message
  -- ""Taken" is the message's own length, with 16 too"
  pub taken : (copy_message limit m bytes).taken ≡ length (layout message)
  -- "bytes after it are not looked at"
  pub alone : (rest : List ℕ) → copy_message limit m (layout message ++ rest) ≡ copy_message limit m bytes

-- with 0 or 16 a message is taken; with every other number nothing is (`CopyAnswered`)
abbrev pub CopyMessageTaken : Type 0
CopyMessageTaken =
    (limit : ℕ) (m : TableMemory) (bytes : List ℕ) → Bytes bytes
    → ((copy_message limit m bytes).number ≡ done) ⊎ ((copy_message limit m bytes).number ≡ ignored) → CopyTakesFirst limit m bytes
