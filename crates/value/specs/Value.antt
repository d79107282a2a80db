-- Values as their encoded bytes. A reader looks at bytes from the start of a list, and answers how many it took, or a refusal.
use Rattle.std.specs.Prelude.{ℕ, zero, suc, ◌+◌, ◌-◌, ◌*◌, Bool, true, ◌&&◌, ◌||◌, List, ◌≡◌, length, drop, get_or, leb, eqb, Err, Ok}
use Rattle.field.specs.Answer.{incomplete, unknown_type, bad_boolean, too_long}
use Rattle.field.specs.Choice.{pick, demand}
use Rattle.field.specs.Field.{fault_at, demand_bytes, moved_by, and_then, Parsed}
use Rattle.text.specs.Text.{parse_text}

-- "0x00 Boolean", "0x01 Double", "0x02 String", "0x10, 0x11, 0x12 arrays of these"
abbrev pub boolean : ℕ
boolean = 0x00

abbrev pub double : ℕ
double = 0x01

abbrev pub string : ℕ
string = 0x02

-- an array's type less this is the type of its elements
abbrev pub array_of : ℕ
array_of = 0x10

abbrev pub double_array : ℕ
double_array = array_of + double

unfoldable pub known_type : ℕ → Bool
known_type t = leb t string || (leb array_of t && leb t (array_of + string))

-- "an encoded value of at most 256 bytes, prefix or count included"
abbrev pub max_value_size : ℕ
max_value_size = 256

-- "Boolean, one byte"
abbrev pub boolean_size : ℕ
boolean_size = 1

-- "0 or 1"
abbrev pub true_byte : ℕ
true_byte = 1

-- "Boolean byte not 0 or 1" (8)
unfoldable pub parse_boolean : List ℕ → Parsed
parse_boolean s =
    demand_bytes boolean_size s (Err (fault_at incomplete 0))
    (demand (leb (get_or s 0 0) true_byte) (Err (fault_at bad_boolean 0))
    (Ok boolean_size))

-- "Double, eight bytes"
abbrev pub double_size : ℕ
double_size = 8

-- "every pattern allowed"
unfoldable pub parse_double : List ℕ → Parsed
parse_double s = demand_bytes double_size s (Err (fault_at incomplete 0)) (Ok double_size)

-- a Boolean, Double or String, where sizeSoFar bytes of its array came before it:
-- "each element of an array is judged as a lone value would be"
unfoldable pub parse_element : ℕ → ℕ → List ℕ → Parsed
parse_element element sizeSoFar =
    pick (eqb element boolean) parse_boolean (pick (eqb element double) parse_double (parse_text max_value_size sizeSoFar))

-- "count (1) of elements"
abbrev pub count_size : ℕ
count_size = 1

-- "Boolean and Double arrays are checked for size at the count, String arrays at each element's prefix"
unfoldable pub count_fits : ℕ → ℕ → Bool
count_fits element count =
    pick (eqb element boolean) (leb (count_size + count) max_value_size)
    (pick (eqb element double) (leb (count_size + double_size * count) max_value_size) true)

-- so many elements in order, where sizeSoFar bytes of the array came before: the size with them
unfoldable pub elements : (ℕ → List ℕ → Parsed) → ℕ → ℕ → List ℕ → Parsed
elements element zero sizeSoFar s = Ok sizeSoFar
elements element (suc count) sizeSoFar s =
    and_then Err (moved_by sizeSoFar (element sizeSoFar s)) (λ n. elements element count (sizeSoFar + n) (drop n s))

-- "count (1) of elements and the elements in order"
unfoldable pub parse_array : ℕ → List ℕ → Parsed
parse_array element s =
    demand_bytes count_size s (Err (fault_at incomplete 0))
    (demand (count_fits element (get_or s 0 0)) (Err (fault_at too_long 0))
    (elements (parse_element element) (get_or s 0 0) count_size (drop count_size s)))

-- the value of a type at the start of the bytes
unfoldable pub parse_value : ℕ → List ℕ → Parsed
parse_value t =
    pick (leb t string) (parse_element t 0)
    (demand (known_type t) (λ s. Err (fault_at unknown_type 0))
    (parse_array (t - array_of)))

-- "A local value must fill its bytes exactly: 1 if short, 10 if bytes are left."
unfoldable pub parse_lone : ℕ → List ℕ → Parsed
parse_lone t s =
    and_then Err (parse_value t s) (λ n.
    demand (eqb n (length s)) (Err (fault_at too_long n))
    (Ok n))

-- the bytes are a value of the type, and nothing else
abbrev pub IsValue : ℕ → List ℕ → Type 0
IsValue t v = parse_value t v ≡ Ok (length v)
