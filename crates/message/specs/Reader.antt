-- The reader of one message. A place is counted from the message's first byte.
use Rattle.message.specs.Read.{AssignmentRead, UpdateRead, an_assignment, an_update, Reading}
use Rattle.std.specs.Prelude.{ℕ, ◌+◌, ◌-◌, ◌≤◌, ◌<◌, Bool, true, false, List, ◌++◌, ◌≡◌, length, take, drop, get_or, eqb, Ok, Err}
use Rattle.std.proofs.Math.Option.{Option, none, some}
use Rattle.field.specs.Answer.{done, incomplete, unknown_kind, wrong_id, unknown_id, unknown_type, RefusalNumber}
use Rattle.field.specs.Choice.{pick, demand}
use Rattle.field.specs.Octets.{decode16}
use Rattle.field.specs.Field.{fault_at, demand_bytes, and_then, Parsed}
use Rattle.field.specs.Place.{reported_place}
use Rattle.field.specs.declared.Fault.{Fault}
use Rattle.text.specs.Text.{prefix_size}
use Rattle.value.specs.Value.{known_type}
use Rattle.reader.specs.Reader.{parse_text_at, parse_value_at}
use Rattle.message.specs.Layout.{Entry, Message, keep_alive, hello, unsupported, hello_complete, assignment, update, max_name_length, keep_alive_kind, hello_kind, unsupported_kind, hello_complete_kind, assignment_kind, update_kind, kind_size, revision_length, assignment_name_start, id_behind_name, number_behind_name, value_behind_name, assignment_fixed, update_number_start, update_value_start, layout, WellFormedMessage}
use Rattle.message.specs.declared.AllowedId.{AllowedId}
use Rattle.message.specs.declared.AllowedId.TheVariants.{Any, Only}
use Rattle.message.specs.declared.Decoded.TheVariants as D

-- which IDs an assignment may carry
abbrev pub id_allowed : AllowedId → ℕ → Bool
id_allowed Any id = true
id_allowed (Only allowed) id = eqb id allowed

-- "Names are laid out as Strings": the name behind an assignment's kind
abbrev pub parse_name : List ℕ → Parsed
parse_name m = parse_text_at (prefix_size + max_name_length) kind_size m

-- an assignment's number and value, behind its type and ID; its name ends at a place
unfoldable pub parse_behind_id : (at type id : ℕ) → List ℕ → AssignmentRead
parse_behind_id at type id m =
    demand_bytes (at + value_behind_name) m (Err (fault_at incomplete (at + number_behind_name)))
    (and_then Err (parse_value_at type (at + value_behind_name) m) (λ value_length.
    an_assignment type id (decode16 (drop (at + number_behind_name) m)) (at - assignment_name_start) value_length))

-- an assignment's fields past its name, which begin at a place: type, ID, number, value
unfoldable pub parse_after_name : (ℕ → Bool) → ℕ → List ℕ → AssignmentRead
parse_after_name allowed at m =
    demand_bytes (at + id_behind_name) m (Err (fault_at incomplete at))
    (demand (known_type (get_or m at 0)) (Err (fault_at unknown_type at))
    (demand_bytes (at + number_behind_name) m (Err (fault_at incomplete (at + id_behind_name)))
    (demand (allowed (decode16 (drop (at + id_behind_name) m))) (Err (fault_at wrong_id (at + id_behind_name)))
    (parse_behind_id at (get_or m at 0) (decode16 (drop (at + id_behind_name) m)) m))))

-- an assignment: its kind is the first byte
unfoldable pub parse_assignment : (ℕ → Bool) → List ℕ → AssignmentRead
parse_assignment allowed m =
    and_then Err (parse_name m) (λ nameSize. parse_after_name allowed (kind_size + nameSize) m)

-- an update's number and value, behind its ID
unfoldable pub parse_behind_update_id : (id type : ℕ) → List ℕ → UpdateRead
parse_behind_update_id id type m =
    demand_bytes update_value_start m (Err (fault_at incomplete update_number_start))
    (and_then Err (parse_value_at type update_value_start m) (λ value_length.
    an_update id (decode16 (drop update_number_start m)) value_length))

-- an update: "the stored entry's type fixes the length, so an unknown ID is refused once it is read"
unfoldable pub parse_update : (ℕ → Bool) → (ℕ → ℕ) → List ℕ → UpdateRead
parse_update held type_of m =
    demand_bytes update_number_start m (Err (fault_at incomplete kind_size))
    (demand (held (decode16 (drop kind_size m))) (Err (fault_at unknown_id kind_size))
    (parse_behind_update_id (decode16 (drop kind_size m)) (type_of (decode16 (drop kind_size m))) m))

-- a kind and a revision: a hello, or the answer to one that is not supported
unfoldable pub parse_revision : Bool → List ℕ → Reading
parse_revision isHello m =
    demand_bytes revision_length m (Err (fault_at incomplete kind_size))
    (pick isHello (Ok (D.Hello (decode16 (drop kind_size m)))) (Ok (D.Unsupported (decode16 (drop kind_size m)))))

abbrev pub of_assignment : AssignmentRead → Reading
of_assignment (Err fault) = Err fault
of_assignment (Ok read) = Ok (D.Assignment read)

-- "With .. a type given as a number, it is 0": an update carries no type, so one that is not known is at no byte of the message
abbrev pub type_given : Fault → Fault
type_given fault = fault_at fault.number (pick (eqb fault.number unknown_type) 0 fault.place)

abbrev pub of_update : UpdateRead → Reading
of_update (Err fault) = Err (type_given fault)
of_update (Ok read) = Ok (D.Update read)

-- a message by its kind
unfoldable pub parse_by_kind : (kind updateType : ℕ) → List ℕ → Reading
parse_by_kind kind updateType m =
    pick (eqb kind keep_alive_kind) (Ok D.KeepAlive)
    (pick (eqb kind hello_kind) (parse_revision true m)
    (pick (eqb kind unsupported_kind) (parse_revision false m)
    (pick (eqb kind hello_complete_kind) (Ok D.HelloComplete)
    (pick (eqb kind assignment_kind) (of_assignment (parse_assignment (id_allowed Any) m))
    (pick (eqb kind update_kind) (of_update (parse_update (id_allowed Any) (λ id. updateType) m))
    (Err (fault_at unknown_kind 0)))))))

-- one message, "any kind and ID allowed", "an update's type being known"
unfoldable pub parse_message : ℕ → List ℕ → Reading
parse_message updateType m =
    demand_bytes kind_size m (Err (fault_at incomplete 0)) (parse_by_kind (get_or m 0 0) updateType m)

-- the number that a reading is answered with
abbrev pub number_of : Reading → ℕ
number_of (Err fault) = fault.number
number_of (Ok D.KeepAlive) = done
number_of (Ok (D.Hello revision)) = done
number_of (Ok (D.Unsupported revision)) = done
number_of (Ok D.HelloComplete) = done
number_of (Ok (D.Assignment read)) = done
number_of (Ok (D.Update read)) = done

-- the place of the field that failed, as an answer tells it
abbrev pub place_of : Reading → ℕ
place_of (Err fault) = reported_place fault
place_of (Ok D.KeepAlive) = 0
place_of (Ok (D.Hello revision)) = 0
place_of (Ok (D.Unsupported revision)) = 0
place_of (Ok D.HelloComplete) = 0
place_of (Ok (D.Assignment read)) = 0
place_of (Ok (D.Update read)) = 0

-- an assignment's name and value, and an update's value, cut out of the message: a value ends with the message
abbrev pub name_in : ℕ → List ℕ → List ℕ
name_in name_length m = take name_length (drop assignment_name_start m)

abbrev pub value_in : (name_length value_length : ℕ) → List ℕ → List ℕ
value_in name_length value_length m = take value_length (drop (assignment_fixed + name_length) m)

abbrev pub update_value_in : ℕ → List ℕ → List ℕ
update_value_in value_length m = take value_length (drop update_value_start m)

-- the entry that an assignment's bytes hold
abbrev pub entry_in : (name_length type number value_length : ℕ) → List ℕ → Entry
entry_in name_length type number value_length m =
    record { name = name_in name_length m; type = type; number = number; value = value_in name_length value_length m }

-- ""Taken" is the message's own length"
abbrev pub assignment_length : (name_length value_length : ℕ) → ℕ
assignment_length name_length value_length = assignment_fixed + name_length + value_length

abbrev pub update_length : ℕ → ℕ
update_length value_length = update_value_start + value_length

abbrev pub taken_of : Reading → ℕ
taken_of (Err fault) = 0
taken_of (Ok D.KeepAlive) = kind_size
taken_of (Ok (D.Hello revision)) = revision_length
taken_of (Ok (D.Unsupported revision)) = revision_length
taken_of (Ok D.HelloComplete) = kind_size
taken_of (Ok (D.Assignment read)) = assignment_length read.name_length read.value_length
taken_of (Ok (D.Update read)) = update_length read.value_length

-- the message that was read
abbrev pub contents : List ℕ → Reading → Option Message
contents m (Err fault) = none
contents m (Ok D.KeepAlive) = some keep_alive
contents m (Ok (D.Hello revision)) = some (hello revision)
contents m (Ok (D.Unsupported revision)) = some (unsupported revision)
contents m (Ok D.HelloComplete) = some hello_complete
contents m (Ok (D.Assignment read)) =
    some (assignment read.id (entry_in read.name_length read.type_code read.number read.value_length m))
contents m (Ok (D.Update read)) = some (update read.id read.number (update_value_in read.value_length m))

-- every number is a byte's
abbrev pub Bytes : List ℕ → Type 0
Bytes m = (i : ℕ) → get_or m i 0 < 256

-- the message x stands first in the bytes, whatever is behind it
abbrev pub BeginsWith : List ℕ → Message → Type 0
BeginsWith m x = m ≡ layout x ++ drop (length (layout x)) m

-- what reading answers, by its number, the bytes taken and the message that was read: a refusal takes none; a message that was read
-- obeys the rules, an update's type being t, it stands first, and its bytes are taken
pub data ReadingIs (t : ℕ) (m : List ℕ) : (number taken : ℕ) → Option Message → Type 0 where
  refused : {number : ℕ} → RefusalNumber number → ReadingIs t m number 0 none
  read : {x : Message} {taken : ℕ} → WellFormedMessage t x → taken ≡ length (layout x) → taken ≤ length m → (Bytes m → BeginsWith m x)
      → ReadingIs t m done taken (some x)
