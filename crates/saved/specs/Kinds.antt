-- The kinds of records as an enum, by their bytes.
use Rattle.std.specs.Prelude.{ℕ}
use Rattle.saved.specs.Form.{count_kind, entry_kind}
use Rattle.saved.specs.declared.RecordKind.{RecordKind}
use Rattle.saved.specs.declared.RecordKind.TheVariants as K

abbrev pub record_kind_byte : RecordKind → ℕ
record_kind_byte K.Count = count_kind
record_kind_byte K.Entry = entry_kind
