-- The lent table: "64 entry heads beside their bytes".
use Rattle.message.specs.Read.{UpdateRead}
use Rattle.std.specs.Prelude.{ℕ, zero, suc, ◌+◌, ◌*◌, ◌≤◌, ◌<◌, List, [], ◌∷◌, ◌++◌, length, take, drop, get_or, set, ltb}
use Rattle.field.specs.Octets.{overwrite_at}
use Rattle.message.specs.Layout.{Entry, max_name_length}
use Rattle.message.specs.Reader.{parse_update}
use Rattle.value.specs.Value.{max_value_size}

-- "64 entries"
abbrev pub max_entries : ℕ
max_entries = 64

-- the bytes of one entry: its name's, and then its value's
abbrev pub entry_size : ℕ
entry_size = max_name_length + max_value_size

-- "A head has the lengths, type and number": four numbers
abbrev pub head_size : ℕ
head_size = 4

abbrev pub name_length_field : ℕ
name_length_field = 0

abbrev pub value_length_field : ℕ
value_length_field = 1

abbrev pub type_field : ℕ
type_field = 2

abbrev pub number_field : ℕ
number_field = 3

pub record TableMemory : Type 0 where
  pub heads : List ℕ
  pub bytes : List ℕ
  pub count : ℕ

abbrev pub table_memory : (heads bytes : List ℕ) (count : ℕ) → TableMemory
table_memory heads bytes count = record { heads = heads; bytes = bytes; count = count }

-- a table as it is lent to a call
abbrev pub lent : (heads bytes : List ℕ) (count : ℕ) → TableMemory
lent heads bytes count = table_memory heads bytes count

-- "entry i's name starts at byte 320 x i, its value 64 bytes later"
abbrev pub name_start : ℕ → ℕ
name_start i = entry_size * i

abbrev pub value_start : ℕ → ℕ
value_start i = entry_size * i + max_name_length

-- memory for so many entries, as inner functions require it
pub record Holds (limit : ℕ) (heads bytes : List ℕ) : Type 0 where
  pub heads_hold : head_size * limit ≤ length heads
  pub bytes_hold : entry_size * limit ≤ length bytes

-- field j of head i
abbrev pub head_field : List ℕ → ℕ → ℕ → ℕ
head_field heads i j = get_or heads (head_size * i + j) 0

-- head i, and with it entry i's name or value, is within memory, as accessors require it
abbrev pub HasHead : ℕ → List ℕ → Type 0
HasHead i heads = head_size * i + head_size ≤ length heads

abbrev pub HasName : ℕ → List ℕ → List ℕ → Type 0
HasName i heads bytes = HasHead i heads × (name_start i + head_field heads i name_length_field ≤ length bytes)

abbrev pub HasValue : ℕ → List ℕ → List ℕ → Type 0
HasValue i heads bytes = HasHead i heads × (value_start i + head_field heads i value_length_field ≤ length bytes)

-- n bytes from a place on
abbrev pub part : ℕ → ℕ → List ℕ → List ℕ
part from n bytes = take n (drop from bytes)

unfoldable pub entry_at : List ℕ → List ℕ → ℕ → Entry
entry_at heads bytes i =
    record {
      name = part (name_start i) (head_field heads i name_length_field) bytes;
      type = head_field heads i type_field;
      number = head_field heads i number_field;
      value = part (value_start i) (head_field heads i value_length_field) bytes;
    }

-- entry i of a table
abbrev pub entry_of : TableMemory → ℕ → Entry
entry_of m i = entry_at m.heads m.bytes i

-- the first n entries have names that are within memory, as inner functions require it
pub record Named (n : ℕ) (heads bytes : List ℕ) : Type 0 where
  pub holds : Holds n heads bytes
  pub names_fit : (i : ℕ) → i < n → head_field heads i name_length_field ≤ max_name_length

-- the first n entries can be written, as inner functions require it: names and values are within memory, and a type is a byte
pub record Readable (n : ℕ) (heads bytes : List ℕ) : Type 0 where
  pub named : Named n heads bytes
  pub values_fit : (i : ℕ) → i < n → head_field heads i value_length_field ≤ max_value_size
  pub types_fit : (i : ℕ) → i < n → head_field heads i type_field ≤ 255

-- a function's first n values
unfoldable pub tabulate : ℕ → (ℕ → Entry) → List Entry
tabulate zero f = []
tabulate (suc n) f = tabulate n f ++ (f n ∷ [])

-- the entries that a table holds
unfoldable pub entries_of : TableMemory → List Entry
entries_of m = tabulate m.count (entry_at m.heads m.bytes)

-- ---- entries as a list

-- what is read where there is no entry
unfoldable pub default_entry : Entry
default_entry = record { name = []; type = 0; number = 0; value = [] }

-- an update, read as the held entries fix it: an ID below the count is held, and the stored type is the value's
abbrev pub parse_held_update : List Entry → List ℕ → UpdateRead
parse_held_update es = parse_update (λ id. ltb id (length es)) (λ id. (get_or es id default_entry).type)

-- ---- storing

-- an entry with another number and value: its name and type stay
abbrev pub with_update : Entry → (number : ℕ) (value : List ℕ) → Entry
with_update e number value = record { name = e.name; type = e.type; number = number; value = value }

-- the heads with another field j of head i
abbrev pub with_field : List ℕ → ℕ → ℕ → ℕ → List ℕ
with_field heads i j x = set heads (head_size * i + j) x

-- the heads with all four numbers of entry i
unfoldable pub heads_with_entry : List ℕ → ℕ → Entry → List ℕ
heads_with_entry heads i e =
    let lengths = with_field (with_field heads i name_length_field (length e.name)) i value_length_field (length e.value) in
    with_field (with_field lengths i type_field e.type) i number_field e.number

unfoldable pub bytes_with_entry : List ℕ → ℕ → Entry → List ℕ
bytes_with_entry bytes i e = overwrite_at (overwrite_at bytes (name_start i) e.name) (value_start i) e.value

-- the heads with another value's length and number of entry i
unfoldable pub heads_with_value : List ℕ → ℕ → ℕ → List ℕ → List ℕ
heads_with_value heads i number value =
    with_field (with_field heads i value_length_field (length value)) i number_field number

unfoldable pub bytes_with_value : List ℕ → ℕ → List ℕ → List ℕ
bytes_with_value bytes i value = overwrite_at bytes (value_start i) value

-- a new entry with the next ID
unfoldable pub store_entry : TableMemory → Entry → TableMemory
store_entry m e =
    record { heads = heads_with_entry m.heads m.count e; bytes = bytes_with_entry m.bytes m.count e; count = m.count + 1 }

-- another number and value of entry i
unfoldable pub store_value : TableMemory → ℕ → ℕ → List ℕ → TableMemory
store_value m i number value =
    record { heads = heads_with_value m.heads i number value; bytes = bytes_with_value m.bytes i value; count = m.count }

-- "sets the count to 0 ..; other bytes stay"
abbrev pub emptied : TableMemory → TableMemory
emptied m = record { heads = m.heads; bytes = m.bytes; count = 0 }
