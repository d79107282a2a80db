-- Laws of the saved form: its fields one behind the other, and one entry more.
use mathlib.Core.Path.{◌≡◌, sym}
use mathlib.Core.List.{List, [], ◌∷◌, ◌++◌, append_assoc, append-nil}
use Prim.Native.Nat.{ℕ, ◌+◌, ◌≤◌}
use native.Mathlib.Numerals.{add-one}
use native.Mathlib.Omega.{arith}
use lib.ListN.{length, length-append, length-replicate}
use Rattle.field.specs.Octets.{encode16}
use Rattle.value.specs.Value.{max_value_size}
use Rattle.message.specs.Layout.{Entry, max_name_length}
use Rattle.table.specs.Table.{tabulate}
use Rattle.saved.specs.Form.{entry_kind, filled, entry_record, entry_records}

pub length_filled : (size : ℕ) (s : List ℕ) → length s ≤ size → length (filled size s) ≡ size
unfolding filled
length_filled size s h = simp (length-append, length-replicate) (omega arith)

-- an entry's record, its fields stored one behind the other
pub record_parts : (e : Entry)
    → ((((((entry_kind ∷ []) ++ (length e.name ∷ [])) ++ filled max_name_length e.name) ++ (e.type ∷ [])) ++ encode16 e.number) ++ encode16 (length e.value))
    ++ filled max_value_size e.value ≡ entry_record e
unfolding entry_record
record_parts e = simp append_assoc

records_last : (es : List Entry) (e : Entry) → entry_records (es ++ (e ∷ [])) ≡ entry_records es ++ entry_record e
unfolding entry_records
records_last [] e = append-nil (entry_record e)
records_last (x ∷ es) e = rw (records_last es e) (sym (append_assoc (entry_record x) (entry_records es) (entry_record e)))

-- the records of a function's first entries, and of one more
pub records_more : (n : ℕ) (f : ℕ → Entry) → entry_records (tabulate (n + 1) f) ≡ entry_records (tabulate n f) ++ entry_record (f n)
unfolding tabulate
records_more n f = rw add-one (records_last (tabulate n f) (f n))
