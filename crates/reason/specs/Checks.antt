-- "The order in which a message is judged", as a list of checks, but for the output room (12), which is no reason. A place is counted from the message's first byte.
use Rattle.std.specs.Prelude.{ℕ, zero, suc, ◌+◌, ◌-◌, Bool, not, ◌&&◌, ◌||◌, List, [], ◌∷◌, ◌++◌, length, take, drop, get_or, leb, ltb, eqb}
use Rattle.field.specs.Answer.{incomplete, connection_too_high, wrong_state, unknown_kind, wrong_id, unknown_id, unknown_type, bad_boolean, not_utf8, too_long, table_full, unsound}
use Rattle.field.specs.Choice.{pick}
use Rattle.field.specs.Octets.{decode16}
use Rattle.field.specs.Field.{octet_size, number_size}
use Rattle.sequence.specs.SequenceNumber.{half, distance}
use Rattle.utf8.specs.Utf8.{is_utf8}
use Rattle.text.specs.Text.{prefix_size}
use Rattle.value.specs.Value.{boolean, double, string, array_of, known_type, max_value_size, boolean_size, true_byte, double_size, count_size, count_fits}
use Rattle.message.specs.Layout.{Entry, keep_alive_kind, hello_kind, assignment_kind, update_kind, max_name_length, kind_size, id_behind_name, number_behind_name, update_number_start, update_value_start}
use Rattle.message.specs.Reader.{name_in}
use Rattle.table.specs.Names.{holder, name_held}
use Rattle.table.specs.Table.{default_entry, entries_of}
use Rattle.soundness.specs.Sound.{sound_table, sound_marks, connections, closed, open', greeted}
use Rattle.places.specs.MessageFails.{name_length_in, type_start, value_start, update_id_in}
use Rattle.protocol.specs.Judge.{new_id}
use Rattle.protocol.specs.Step.{ServerMemory}
use Rattle.reason.specs.Reason.{refused_at}
use Rattle.reason.specs.declared.Reason.{Reason}
use Rattle.reason.specs.declared.Reason.TheVariants.{NameHeld, Equal, Older, Undefined}

-- whether it passes, and the reason that is named where it does not
pub record Check : Type 0 where
  pub passes : Bool
  pub otherwise : Reason

abbrev pub check : Bool → Reason → Check
check passes otherwise = record { passes = passes; otherwise = otherwise }

-- "a field that is not there ends the reading with 1"
abbrev pub there : List ℕ → (place size : ℕ) → Check
there m place size = check (leb (place + size) (length m)) (refused_at incomplete place)

-- "a field wholly there is checked before the next"
abbrev pub obeys : (number place : ℕ) → Bool → Check
obeys number place rule = check rule (refused_at number place)

-- the number of two bytes at a place
abbrev pub number_in : List ℕ → (place : ℕ) → ℕ
number_in m place = decode16 (drop place m)

-- ---- values

-- how many bytes a text has with its length prefix
abbrev pub text_size : List ℕ → (place : ℕ) → ℕ
text_size m place = prefix_size + number_in m place

-- "A text's length prefix is checked (10) before its bytes, and its UTF-8 (9) once all its bytes are there."
-- sizeSoFar bytes came before the prefix, and all together may be maxSize.
unfoldable pub text_checks : List ℕ → (maxSize sizeSoFar place : ℕ) → List Check
text_checks m maxSize sizeSoFar place =
    there m place prefix_size
    ∷ obeys too_long place (leb (sizeSoFar + text_size m place) maxSize)
    ∷ there m (place + prefix_size) (number_in m place)
    ∷ obeys not_utf8 (place + prefix_size) (is_utf8 (take (number_in m place) (drop (place + prefix_size) m)))
    ∷ []

-- "Boolean, one byte", "not 0 or 1" (8); "Double, eight bytes, every pattern allowed"; String.
-- "each element of an array is judged as a lone value would be", String arrays "by the size so far with that element"
unfoldable pub element_checks : (element : ℕ) → List ℕ → (sizeSoFar place : ℕ) → List Check
element_checks element m sizeSoFar place =
    pick (eqb element boolean) (there m place boolean_size ∷ obeys bad_boolean place (leb (get_or m place 0) true_byte) ∷ [])
    (pick (eqb element double) (there m place double_size ∷ [])
    (text_checks m max_value_size sizeSoFar place))

-- how many bytes an element has
unfoldable pub element_size : (element : ℕ) → List ℕ → (place : ℕ) → ℕ
element_size element m place = pick (eqb element boolean) boolean_size (pick (eqb element double) double_size (text_size m place))

-- "the elements in order": so many, where sizeSoFar bytes of the array came before
unfoldable pub elements_checks : (element count : ℕ) → List ℕ → (sizeSoFar place : ℕ) → List Check
elements_checks element zero m sizeSoFar place = []
elements_checks element (suc count) m sizeSoFar place =
    element_checks element m sizeSoFar place
    ++ elements_checks element count m (sizeSoFar + element_size element m place) (place + element_size element m place)

-- "count (1) of elements and the elements in order"; "Boolean and Double arrays are checked for size at the count"
unfoldable pub array_checks : (element : ℕ) → List ℕ → (place : ℕ) → List Check
array_checks element m place =
    there m place count_size
    ∷ obeys too_long place (count_fits element (get_or m place 0))
    ∷ elements_checks element (get_or m place 0) m count_size (place + count_size)

-- a value of a known type
unfoldable pub value_checks : (type : ℕ) → List ℕ → (place : ℕ) → List Check
value_checks type m place = pick (leb type string) (element_checks type m 0 place) (array_checks (type - array_of) m place)

-- ---- messages

-- "0x01 hello, revision (2)"
abbrev pub hello_checks : List ℕ → List Check
hello_checks m = there m kind_size number_size ∷ []

-- "name, type (1), ID (2), number (2), value", "ID 0xFFFF, else 5"; "Then duplicate .. (16), table full (11)"
unfoldable pub assignment_checks : ℕ → List Entry → List ℕ → List Check
assignment_checks limit es m =
    text_checks m (prefix_size + max_name_length) 0 kind_size
    ++ (there m (type_start m) octet_size
    ∷ obeys unknown_type (type_start m) (known_type (get_or m (type_start m) 0))
    ∷ there m (type_start m + id_behind_name) number_size
    ∷ obeys wrong_id (type_start m + id_behind_name) (eqb (number_in m (type_start m + id_behind_name)) new_id)
    ∷ there m (type_start m + number_behind_name) number_size
    ∷ (value_checks (get_or m (type_start m) 0) m (value_start m)
    ++ (check (not (name_held name es)) (NameHeld (holder name es))
    ∷ obeys table_full 0 (ltb (length es) limit)
    ∷ [])))
  where
    name : List ℕ
    name = name_in (name_length_in m) m

-- "Let d be received minus stored, modulo 65,536. With d from 1 to 32,767 number and value are stored .. Otherwise 16."
unfoldable pub number_checks : (stored received : ℕ) → List Check
number_checks stored received =
    check (not (eqb (distance stored received) 0)) Equal
    ∷ check (not (eqb (distance stored received) half)) Undefined
    ∷ check (ltb (distance stored received) half) (Older (distance received stored))
    ∷ []

-- the entry's number, and the message's
abbrev pub stored_in : List Entry → List ℕ → ℕ
stored_in es m = (get_or es (update_id_in m) default_entry).number

abbrev pub received_in : List ℕ → ℕ
received_in m = number_in m update_number_start

-- "ID (2), number (2), value"; "the stored entry's type fixes the length, so an unknown ID is refused once it is read"; "Then .. number (16)"
unfoldable pub update_checks : List Entry → List ℕ → List Check
update_checks es m =
    there m kind_size number_size
    ∷ obeys unknown_id kind_size (ltb (update_id_in m) (length es))
    ∷ there m update_number_start number_size
    ∷ (value_checks (get_or es (update_id_in m) default_entry).type m update_value_start ++ number_checks (stored_in es m) (received_in m))

-- "message kind unknown, or not for this end"; "0x02 and 0x03 from a client: 4"
unfoldable pub from_client : (kind : ℕ) → Bool
from_client kind = eqb kind keep_alive_kind || (eqb kind hello_kind || (eqb kind assignment_kind || eqb kind update_kind))

-- "Keep alive: .. also before greeting", "Hello: open connections only", "greeted only"
unfoldable pub state_allows : (mark kind : ℕ) → Bool
state_allows mark kind = eqb kind keep_alive_kind || pick (eqb kind hello_kind) (eqb mark open') (eqb mark greeted)

-- the checks behind a kind that a client may send
unfoldable pub behind_kind : ℕ → List Entry → (kind : ℕ) → List ℕ → List Check
behind_kind limit es kind m =
    pick (eqb kind keep_alive_kind) []
    (pick (eqb kind hello_kind) (hello_checks m)
    (pick (eqb kind assignment_kind) (assignment_checks limit es m) (update_checks es m)))

-- "Table (14), connection number (2), connection closed (3). Then the bytes, left to right .. After the kind (4) comes the state for that kind (3)."
unfoldable pub checks : ℕ → ServerMemory → (c : ℕ) → List ℕ → List Check
checks limit mem c m =
    obeys unsound 0 (sound_table limit mem.table && sound_marks mem.marks)
    ∷ obeys connection_too_high 0 (ltb c connections)
    ∷ obeys wrong_state 0 (not (eqb (get_or mem.marks c 0) closed))
    ∷ there m 0 kind_size
    ∷ obeys unknown_kind 0 (from_client (get_or m 0 0))
    ∷ obeys wrong_state 0 (state_allows (get_or mem.marks c 0) (get_or m 0 0))
    ∷ behind_kind limit (entries_of mem.table) (get_or m 0 0) m
