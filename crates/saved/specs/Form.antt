-- The saved form of a table: "Kind 1: entry count (1 byte). Then for each entry in ID order kind 2: name length (1), name filled with zeros to 64,
-- type (1), number (2), value length (2), value filled with zeros to 256."
use Rattle.std.specs.Prelude.{ℕ, ◌+◌, ◌-◌, ◌*◌, List, [], ◌∷◌, ◌++◌, length, replicate}
use Rattle.field.specs.Octets.{encode16}
use Rattle.field.specs.Field.{octet_size, number_size}
use Rattle.value.specs.Value.{max_value_size}
use Rattle.message.specs.Layout.{Entry, max_name_length, kind_size}

-- the first record's kind, and an entry's
abbrev pub count_kind : ℕ
count_kind = 1

abbrev pub entry_kind : ℕ
entry_kind = 2

-- every record opens with its kind and a byte: the count, or the name's length
abbrev pub opening_size : ℕ
opening_size = kind_size + octet_size

-- where the fields of an entry's record start
abbrev pub name_length_place : ℕ
name_length_place = kind_size

abbrev pub name_place : ℕ
name_place = opening_size

abbrev pub type_place : ℕ
type_place = name_place + max_name_length

abbrev pub number_place : ℕ
number_place = type_place + octet_size

abbrev pub value_length_place : ℕ
value_length_place = number_place + number_size

abbrev pub value_place : ℕ
value_place = value_length_place + number_size

-- how many bytes the first record has, and an entry's: 2 and 327
abbrev pub count_record_size : ℕ
count_record_size = opening_size

abbrev pub entry_record_size : ℕ
entry_record_size = value_place + max_value_size

-- how many bytes the saved form of so many entries has; record i starts at that of i
abbrev pub saved_size : ℕ → ℕ
saved_size count = count_record_size + entry_record_size * count

-- "filled with zeros to" a size
unfoldable pub filled : ℕ → List ℕ → List ℕ
filled size s = s ++ replicate (size - length s) 0

-- "Kind 1: entry count (1 byte)"
unfoldable pub count_record : ℕ → List ℕ
count_record count = count_kind ∷ count ∷ []

-- "kind 2: name length (1), name filled with zeros to 64, type (1), number (2), value length (2), value filled with zeros to 256"
unfoldable pub entry_record : Entry → List ℕ
entry_record e =
    entry_kind ∷ length e.name
    ∷ (filled max_name_length e.name ++ (e.type ∷ (encode16 e.number ++ (encode16 (length e.value) ++ filled max_value_size e.value))))

-- "for each entry in ID order"
unfoldable pub entry_records : List Entry → List ℕ
entry_records [] = []
entry_records (e ∷ es) = entry_record e ++ entry_records es

unfoldable pub saved_form : List Entry → List ℕ
saved_form es = count_record (length es) ++ entry_records es
