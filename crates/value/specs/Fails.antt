-- "The reading of a value shall report, with 7 to 10, the place of the first byte of the field that failed"; "with 1 the first field not wholly there".
-- Proved in proofs/FailsLaws.antt.
use Rattle.std.specs.Prelude.{ℕ, suc, ◌+◌, ◌*◌, ◌≤◌, ◌<◌, true, false, List, ◌≡◌, length, drop, get_or, Err, Ok}
use Rattle.field.specs.Answer.{incomplete, unknown_type, bad_boolean, too_long}
use Rattle.field.specs.Field.{fault_at}
use Rattle.field.specs.declared.Fault.{Fault}
use Rattle.text.specs.Fails.{TextFailsAt}
use Rattle.value.specs.Value.{boolean, double, string, array_of, double_array, known_type, max_value_size, boolean_size, true_byte, double_size, count_size, count_fits, parse_element, parse_value, parse_lone}

-- "count (1) of elements and the elements in order": so many are left at a place of an array, and all before it are whole
pub data ElementsLeft (element : ℕ) (s : List ℕ) : (left place : ℕ) → Type 0 where
  behind_count : count_size ≤ length s → count_fits element (get_or s 0 0) ≡ true → ElementsLeft element s (get_or s 0 0) count_size
  behind_element : {left place n : ℕ} → ElementsLeft element s (suc left) place → parse_element element place (drop place s) ≡ Ok n
      → ElementsLeft element s left (place + n)

-- an element of a value begins at a place; a lone Boolean, Double or String is its own
pub data ElementAt (t : ℕ) (s : List ℕ) : (element place : ℕ) → Type 0 where
  lone : t ≤ string → ElementAt t s t 0
  listed : {element left place : ℕ} → t ≡ array_of + element → ElementsLeft element s (suc left) place → ElementAt t s element place

-- the field at the place is not wholly there (1), or breaks the rule of the number
pub data ValueFailsAt (t : ℕ) (s : List ℕ) : (number place : ℕ) → Type 0 where
  -- "With .. a type given as a number, it is 0": no byte of a value is its type
  unknown_type_case : known_type t ≡ false → ValueFailsAt t s unknown_type 0
  -- "the .. Boolean byte": it is there, and "not 0 or 1"
  not_boolean : {place : ℕ} → ElementAt t s boolean place → place < length s → true_byte < get_or s place 0 → ValueFailsAt t s bad_boolean place
  -- "a text's bytes for 9, a prefix .. for 10": the size so far is that of the bytes before the text
  text : {start number place : ℕ} → ElementAt t s string start → TextFailsAt max_value_size start (drop start s) number place → ValueFailsAt t s number (start + place)
  -- a "count .. for 10": it is there, and says too much (of Booleans no byte does)
  many_booleans : t ≡ array_of + boolean → count_size ≤ length s → max_value_size < count_size + boolean_size * get_or s 0 0 → ValueFailsAt t s too_long 0
  many_doubles : t ≡ double_array → count_size ≤ length s → max_value_size < count_size + double_size * get_or s 0 0 → ValueFailsAt t s too_long 0
  -- "a field that is not there ends the reading with 1"; of a text it is said with `text`
  cut_boolean : {place : ℕ} → ElementAt t s boolean place → length s < place + boolean_size → ValueFailsAt t s incomplete place
  cut_double : {place : ℕ} → ElementAt t s double place → length s < place + double_size → ValueFailsAt t s incomplete place
  cut_count : (element : ℕ) → t ≡ array_of + element → length s < count_size → ValueFailsAt t s incomplete 0

abbrev pub ValueFails : Type 0
ValueFails = (t : ℕ) (s : List ℕ) (fault : Fault) → parse_value t s ≡ Err fault → ValueFailsAt t s fault.number fault.place

-- and the other way, of a known type
abbrev pub ValueFailing : Type 0
ValueFailing = (t : ℕ) (s : List ℕ) (number place : ℕ) → known_type t ≡ true → ValueFailsAt t s number place → parse_value t s ≡ Err (fault_at number place)

-- the same of a value that is lent by itself
pub data LoneFailsAt (t : ℕ) (s : List ℕ) : (number place : ℕ) → Type 0 where
  in_value : {number place : ℕ} → ValueFailsAt t s number place → LoneFailsAt t s number place
  -- "for bytes left over, the first of them"
  left_over : {n : ℕ} → parse_value t s ≡ Ok n → n < length s → LoneFailsAt t s too_long n

abbrev pub LoneFails : Type 0
LoneFails = (t : ℕ) (s : List ℕ) (fault : Fault) → parse_lone t s ≡ Err fault → LoneFailsAt t s fault.number fault.place
