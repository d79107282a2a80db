-- The records of a saved form by their places, as inner functions work on them. No promise of a public call names them.
use Rattle.field.specs.Field.{Parsed}
use Rattle.std.specs.Prelude.{ℕ, ◌≤◌, ◌<◌, List, length, drop, Err, Ok}
use Rattle.value.specs.Value.{max_value_size}
use Rattle.message.specs.Layout.{Entry, max_name_length}
use Rattle.table.specs.Table.{max_entries}
use Rattle.saved.specs.Form.{entry_record_size, saved_size}
use Rattle.saved.specs.Reading.{Reading, name_length_in, value_length_in, record_entry}

-- the entry in record i
unfoldable pub saved_entry : List ℕ → ℕ → Entry
saved_entry s i = record_entry (drop (saved_size i) s)

-- a record is there, and its lengths are within the limits
pub record Storable (s : List ℕ) : Type 0 where
  pub whole : entry_record_size ≤ length s
  pub name_small : name_length_in s ≤ max_name_length
  pub value_small : value_length_in s ≤ max_value_size

-- so many records are there
abbrev pub RecordsBelow : ℕ → List ℕ → Type 0
RecordsBelow count s = (i : ℕ) → i < count → Storable (drop (saved_size i) s)

-- record i of a table's is there
abbrev pub RecordAt : ℕ → List ℕ → Type 0
RecordAt i s = (i < max_entries) × Storable (drop (saved_size i) s)

-- a reading's refusal, or how many entries were read
abbrev pub outcome : Reading → Parsed
outcome (Err fault) = Err fault
outcome (Ok es) = Ok (length es)
