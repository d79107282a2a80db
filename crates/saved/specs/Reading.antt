-- The reader of a saved form: "left to right 1, 4, 10 for a count or name length above 64 or a value length above 256, 9, 7, the value's own as for a local
-- value of its stated length, 15 for filling that is not zero, judged after the text or value it follows; 13 once an entry's record is read; last 10
-- for bytes left. A name, a value of its stated length and each filling are one field each, judged as in 01 once wholly there".
use Rattle.std.specs.Prelude.{ℕ, zero, suc, ◌+◌, ◌-◌, Bool, true, ◌&&◌, List, [], ◌∷◌, ◌++◌, length, drop, get_or, leb, eqb, Result, Err, Ok}
use Rattle.field.specs.Answer.{incomplete, unknown_kind, unknown_type, not_utf8, too_long, name_taken, bad_filling}
use Rattle.field.specs.Choice.{pick, demand}
use Rattle.field.specs.Octets.{decode16}
use Rattle.field.specs.Field.{fault_at, demand_bytes, moved_by, and_then, Parsed}
use Rattle.field.specs.declared.Fault.{Fault}
use Rattle.utf8.specs.Utf8.{is_utf8}
use Rattle.value.specs.Value.{max_value_size, known_type, parse_lone}
use Rattle.message.specs.Layout.{Entry, max_name_length, kind_size}
use Rattle.table.specs.Names.{name_held}
use Rattle.table.specs.Table.{part}
use Rattle.saved.specs.Form.{count_kind, entry_kind, opening_size, name_length_place, name_place, type_place, number_place, value_length_place, value_place, entry_record_size}

-- ---- how a record opens

-- "1, 4, 10 for a count or name length above 64": its kind, and a byte that is at most so much
unfoldable pub parse_opening : (kind most : ℕ) → List ℕ → Parsed
parse_opening kind most s =
    demand_bytes kind_size s (Err (fault_at incomplete 0))
    (demand (eqb (get_or s 0 0) kind) (Err (fault_at unknown_kind 0))
    (demand_bytes opening_size s (Err (fault_at incomplete kind_size))
    (demand (leb (get_or s kind_size 0) most) (Err (fault_at too_long kind_size))
    (Ok opening_size))))

-- ---- an entry's record: what its fields are

abbrev pub name_length_in : List ℕ → ℕ
name_length_in s = get_or s name_length_place 0

abbrev pub type_in : List ℕ → ℕ
type_in s = get_or s type_place 0

abbrev pub value_length_in : List ℕ → ℕ
value_length_in s = decode16 (drop value_length_place s)

-- the entry: a name and a value without their filling
unfoldable pub record_entry : List ℕ → Entry
record_entry s =
    record {
      name = part name_place (name_length_in s) s;
      type = type_in s;
      number = decode16 (drop number_place s);
      value = part value_place (value_length_in s) s;
    }

-- ---- an entry's record, field by field

unfoldable pub all_zero : List ℕ → Bool
all_zero [] = true
all_zero (x ∷ xs) = eqb x 0 && all_zero xs

-- "15 for filling that is not zero": the bytes from one place to another
unfoldable pub parse_filling : (from to : ℕ) → List ℕ → Parsed
parse_filling from to s =
    demand_bytes to s (Err (fault_at incomplete from))
    (demand (all_zero (part from (to - from) s)) (Err (fault_at bad_filling from))
    (Ok to))

-- the name, and "judged after the text .. it follows" its filling
unfoldable pub parse_name_in : List ℕ → Parsed
parse_name_in s =
    demand_bytes (name_place + name_length_in s) s (Err (fault_at incomplete name_place))
    (demand (is_utf8 (part name_place (name_length_in s) s)) (Err (fault_at not_utf8 name_place))
    (parse_filling (name_place + name_length_in s) type_place s))

-- "kind 2: name length (1), name filled with zeros to 64": up to the type
unfoldable pub parse_up_to_type : List ℕ → Parsed
parse_up_to_type s = and_then Err (parse_opening entry_kind max_name_length s) (λ n. parse_name_in s)

-- "the value's own as for a local value of its stated length", and its filling
unfoldable pub parse_value_in : List ℕ → Parsed
parse_value_in s =
    demand_bytes (value_place + value_length_in s) s (Err (fault_at incomplete value_place))
    (and_then Err (moved_by value_place (parse_lone (type_in s) (part value_place (value_length_in s) s))) (λ n.
    parse_filling (value_place + value_length_in s) entry_record_size s))

-- "type (1), number (2), value length (2), value filled with zeros to 256": from the type to the record's end, counted from the record's start
unfoldable pub parse_from_type : List ℕ → Parsed
parse_from_type s =
    demand_bytes number_place s (Err (fault_at incomplete type_place))
    (demand (known_type (type_in s)) (Err (fault_at unknown_type type_place))
    (demand_bytes value_length_place s (Err (fault_at incomplete number_place))
    (demand_bytes value_place s (Err (fault_at incomplete value_length_place))
    (demand (leb (value_length_in s) max_value_size) (Err (fault_at too_long value_length_place))
    (parse_value_in s)))))

unfoldable pub parse_record : List ℕ → Parsed
parse_record s = and_then Err (parse_up_to_type s) (λ n. parse_from_type s)

-- ---- the whole

-- a refusal, or the entries of all records
abbrev pub Reading : Type 0
Reading = Result (List Entry) Fault

-- so many records more from a place on, behind those of the entries es: "13 once an entry's record is read; last 10 for bytes left"
unfoldable pub read_records : ℕ → List Entry → (place : ℕ) → List ℕ → Reading
read_records zero es place s = demand (leb (length s) 0) (Err (fault_at too_long place)) (Ok es)
read_records (suc count) es place s =
    and_then Err (moved_by place (parse_record s)) (λ n.
    pick (name_held (record_entry s).name es) (Err (fault_at name_taken place))
    (read_records count (es ++ (record_entry s ∷ [])) (place + n) (drop n s)))

-- the entry count, and where it stands
abbrev pub count_in : List ℕ → ℕ
count_in s = get_or s kind_size 0

-- "Kind 1: entry count (1 byte)"; "10 for a count .. above 64", which is the limit of a table
unfoldable pub parse_count : (limit : ℕ) → List ℕ → Parsed
parse_count limit s = parse_opening count_kind limit s

unfoldable pub read_saved : (limit : ℕ) → List ℕ → Reading
read_saved limit s = and_then Err (parse_count limit s) (λ n. read_records (count_in s) [] n (drop n s))
