-- "Say where the fault is": what is true at the place that a call's answer tells, for every limit, memory and call. Proved in proofs/PlaceTellsLaws.antt.
use Rattle.std.specs.Prelude.{ℕ, ◌<◌, true, List, ◌≡◌, ltb, length, get_or}
use Rattle.field.specs.Place.{TellsPlace, Told}
use Rattle.value.specs.Value.{known_type}
use Rattle.value.specs.Fails.{LoneFailsAt}
use Rattle.message.specs.Layout.{Entry}
use Rattle.message.specs.Reader.{id_allowed}
use Rattle.message.specs.declared.AllowedId.TheVariants.{Only}
use Rattle.places.specs.MessageFails.{Ids, MessageFailsAt}
use Rattle.places.specs.WriterFails.{EntryFailsAt}
use Rattle.table.specs.Table.{TableMemory, default_entry, entries_of}
use Rattle.protocol.specs.Judge.{Call, client_message, local_create, local_write, new_id}
use Rattle.protocol.specs.Step.{ServerMemory, LentCall, call_step}
use Rattle.protocol.specs.Copy.{copy_message}
use Rattle.protocol.specs.Place.{call_place, copy_place}
use Rattle.protocol.specs.Taken.{message_call}

-- "the stored entry's type"
abbrev pub stored_type : List Entry → ℕ → ℕ
stored_type es id = (get_or es id default_entry).type

-- the IDs of a client's messages: "ID 0xFFFF" in an assignment, a held one in an update
abbrev pub client_ids : List Entry → Ids
client_ids es = record { allowed = id_allowed (Only new_id); held = λ id. ltb id (length es); type_of = stored_type es }

-- "counted from the start of the message, name or value lent": the field of the call that breaks the rule of the number; other calls read none
pub data CallFailsAt (es : List Entry) : Call → (number place : ℕ) → Type 0 where
  in_message : {c : ℕ} {m : List ℕ} {number place : ℕ} → MessageFailsAt (client_ids es) m number place → CallFailsAt es (client_message c m) number place
  in_entry : {name : List ℕ} {type : ℕ} {value : List ℕ} {number place : ℕ} → EntryFailsAt name type value number place
      → CallFailsAt es (local_create name type value) number place
  in_value : {id : ℕ} {value : List ℕ} {number place : ℕ} → id < length es → known_type (stored_type es id) ≡ true
      → LoneFailsAt (stored_type es id) value number place → CallFailsAt es (local_write id value) number place

abbrev pub CallTells : Type 0
CallTells =
    (limit : ℕ) (mem : ServerMemory) (k : LentCall)
    → Told (CallFailsAt (entries_of mem.table) k.call) (call_step limit mem k).number (call_place limit mem k.call)

-- the place in a client's message is that of one of its bytes
abbrev pub CallPlaceInMessage : Type 0
CallPlaceInMessage =
    (limit : ℕ) (mem : ServerMemory) (c : ℕ) (m out : List ℕ) → TellsPlace (call_step limit mem (message_call c m out)).number
    → call_place limit mem (client_message c m) < length m

-- ---- the copy

-- "An assignment's ID must equal the copy's count (5)"
abbrev pub copy_ids : List Entry → Ids
copy_ids es = record { allowed = id_allowed (Only (length es)); held = λ id. ltb id (length es); type_of = stored_type es }

abbrev pub CopyTells : Type 0
CopyTells =
    (limit : ℕ) (table : TableMemory) (m : List ℕ)
    → Told (MessageFailsAt (copy_ids (entries_of table)) m) (copy_message limit table m).number (copy_place limit table m)

abbrev pub CopyPlaceInMessage : Type 0
CopyPlaceInMessage =
    (limit : ℕ) (table : TableMemory) (m : List ℕ) → TellsPlace (copy_message limit table m).number → copy_place limit table m < length m
