-- "Every call that reads a value or name passes the place on, counted from the start of the message". Proved in proofs/MessageFailsLaws.antt.
use Rattle.std.specs.Prelude.{ℕ, ◌+◌, ◌≤◌, ◌<◌, Bool, true, false, List, ◌≡◌, length, drop, get_or, Err}
use Rattle.field.specs.Answer.{incomplete, wrong_id, unknown_id, unknown_type}
use Rattle.field.specs.Octets.{decode16}
use Rattle.field.specs.Field.{fault_at, octet_size}
use Rattle.field.specs.Place.{TellsPlace, Told}
use Rattle.field.specs.declared.Fault.{Fault}
use Rattle.utf8.specs.Utf8.{is_utf8}
use Rattle.text.specs.Text.{prefix_size}
use Rattle.text.specs.Fails.{TextFailsAt}
use Rattle.value.specs.Value.{known_type}
use Rattle.value.specs.Fails.{ValueFailsAt}
use Rattle.message.specs.Layout.{max_name_length, assignment_kind, update_kind, kind_size, assignment_name_start, id_behind_name, number_behind_name, assignment_fixed, update_number_start, update_value_start}
use Rattle.message.specs.Reader.{id_allowed, parse_assignment, parse_update, parse_message, name_in, number_of, place_of}
use Rattle.message.specs.declared.AllowedId.TheVariants.{Any}

-- the IDs that a reader takes: an assignment's, and an update's with the type of its value
pub record Ids : Type 0 where
  pub allowed : ℕ → Bool
  pub held : ℕ → Bool
  pub type_of : ℕ → ℕ

-- ---- an assignment: "name, type (1), ID (2), number (2), value"

abbrev pub name_length_in : List ℕ → ℕ
name_length_in m = decode16 (drop kind_size m)

-- where its type stands
abbrev pub type_start : List ℕ → ℕ
type_start m = assignment_name_start + name_length_in m

-- where its value starts
abbrev pub value_start : List ℕ → ℕ
value_start m = assignment_fixed + name_length_in m

-- its ID, behind the type
abbrev pub assignment_id_in : List ℕ → ℕ
assignment_id_in m = decode16 (drop (type_start m + id_behind_name) m)

-- the name is there and obeys the rules
pub record NameStands (m : List ℕ) : Type 0 where
  pub there : type_start m ≤ length m
  pub fits : name_length_in m ≤ max_name_length
  pub text : is_utf8 (name_in (name_length_in m) m) ≡ true

-- the type behind it is there, and known
pub record TypeStands (m : List ℕ) : Type 0 where
  pub name : NameStands m
  pub there : type_start m < length m
  pub known : known_type (get_or m (type_start m) 0) ≡ true

-- the field at the place is not wholly there (1), or breaks the rule of the number
pub data AssignmentFailsAt (allowed : ℕ → Bool) (m : List ℕ) : (number place : ℕ) → Type 0 where
  -- "a text's bytes for 9, a prefix .. for 10": the name, behind the kind
  name : {number place : ℕ} → TextFailsAt (prefix_size + max_name_length) 0 (drop kind_size m) number place → AssignmentFailsAt allowed m number (kind_size + place)
  -- "the type .. byte": it is there, behind a name that obeys the rules
  type : NameStands m → type_start m < length m → known_type (get_or m (type_start m) 0) ≡ false → AssignmentFailsAt allowed m unknown_type (type_start m)
  cut_type : NameStands m → length m < type_start m + octet_size → AssignmentFailsAt allowed m incomplete (type_start m)
  -- "ID (2)", "assignment ID not the one allowed" (5)
  wrong_id_case : TypeStands m → type_start m + number_behind_name ≤ length m → allowed (assignment_id_in m) ≡ false
      → AssignmentFailsAt allowed m wrong_id (type_start m + id_behind_name)
  cut_id : TypeStands m → length m < type_start m + number_behind_name → AssignmentFailsAt allowed m incomplete (type_start m + id_behind_name)
  -- "number (2)"
  cut_number : TypeStands m → allowed (assignment_id_in m) ≡ true → type_start m + number_behind_name ≤ length m → length m < value_start m
      → AssignmentFailsAt allowed m incomplete (type_start m + number_behind_name)
  -- the value, of the type that the type byte says
  value : {number place : ℕ} → TypeStands m → allowed (assignment_id_in m) ≡ true → value_start m ≤ length m
      → ValueFailsAt (get_or m (type_start m) 0) (drop (value_start m) m) number place → AssignmentFailsAt allowed m number (value_start m + place)

abbrev pub AssignmentFails : Type 0
AssignmentFails =
    (allowed : ℕ → Bool) (m : List ℕ) (fault : Fault) → parse_assignment allowed m ≡ Err fault → AssignmentFailsAt allowed m fault.number fault.place

-- and the other way: where it fails so, the assignment is refused so
abbrev pub AssignmentFailing : Type 0
AssignmentFailing =
    (allowed : ℕ → Bool) (m : List ℕ) (number place : ℕ) → AssignmentFailsAt allowed m number place → parse_assignment allowed m ≡ Err (fault_at number place)

-- ---- an update: "ID (2), number (2), value"

abbrev pub update_id_in : List ℕ → ℕ
update_id_in m = decode16 (drop kind_size m)

pub data UpdateFailsAt (held : ℕ → Bool) (type_of : ℕ → ℕ) (m : List ℕ) : (number place : ℕ) → Type 0 where
  -- "ID (2)", "ID not in the table" (6)
  unknown_id_case : update_number_start ≤ length m → held (update_id_in m) ≡ false → UpdateFailsAt held type_of m unknown_id kind_size
  cut_id : length m < update_number_start → UpdateFailsAt held type_of m incomplete kind_size
  -- "number (2)"
  cut_number : held (update_id_in m) ≡ true → update_number_start ≤ length m → length m < update_value_start → UpdateFailsAt held type_of m incomplete update_number_start
  -- the value, of the ID's type
  value : {number place : ℕ} → held (update_id_in m) ≡ true → known_type (type_of (update_id_in m)) ≡ true → update_value_start ≤ length m
      → ValueFailsAt (type_of (update_id_in m)) (drop update_value_start m) number place → UpdateFailsAt held type_of m number (update_value_start + place)

-- the types of the IDs that are held are known: "A sound table has .. known types"
abbrev pub UpdateFails : Type 0
UpdateFails =
    (held : ℕ → Bool) (type_of : ℕ → ℕ) (m : List ℕ) → ((id : ℕ) → held id ≡ true → known_type (type_of id) ≡ true)
    → (fault : Fault) → parse_update held type_of m ≡ Err fault → UpdateFailsAt held type_of m fault.number fault.place

abbrev pub UpdateFailing : Type 0
UpdateFailing =
    (held : ℕ → Bool) (type_of : ℕ → ℕ) (m : List ℕ) (number place : ℕ) → UpdateFailsAt held type_of m number place
    → parse_update held type_of m ≡ Err (fault_at number place)

-- ---- a message

pub data MessageFailsAt (ids : Ids) (m : List ℕ) : (number place : ℕ) → Type 0 where
  assignment : {number place : ℕ} → get_or m 0 0 ≡ assignment_kind → AssignmentFailsAt ids.allowed m number place → MessageFailsAt ids m number place
  update : {number place : ℕ} → get_or m 0 0 ≡ update_kind → UpdateFailsAt ids.held ids.type_of m number place → MessageFailsAt ids m number place

-- the place is that of a byte of the message
abbrev pub PlaceInMessage : Type 0
PlaceInMessage = (ids : Ids) (m : List ℕ) (number place : ℕ) → MessageFailsAt ids m number place → TellsPlace number → place < length m

-- "any kind and ID allowed", an update's type being given
abbrev pub any_ids : (t : ℕ) → Ids
any_ids t = record { allowed = id_allowed Any; held = id_allowed Any; type_of = λ _. t }

-- the message reader, to which an update's type is given
pub data ReadingFailsAt (t : ℕ) (m : List ℕ) : (number place : ℕ) → Type 0 where
  in_message : {number place : ℕ} → MessageFailsAt (any_ids t) m number place → ReadingFailsAt t m number place
  -- "With .. a type given as a number, it is 0."
  type_given_case : get_or m 0 0 ≡ update_kind → known_type t ≡ false → ReadingFailsAt t m unknown_type 0

abbrev pub ReadingTells : Type 0
ReadingTells = (t : ℕ) (m : List ℕ) → Told (ReadingFailsAt t m) (number_of (parse_message t m)) (place_of (parse_message t m))
