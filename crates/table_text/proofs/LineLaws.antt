-- Laws of the lines of a table.
use mathlib.Core.Path.{◌≡◌}
use mathlib.Core.List.{[], ◌++◌}
use Prim.Native.Nat.{ℕ, ◌+◌, ◌≤◌, ◌<◌}
use native.Mathlib.Numerals.{add-one}
use native.Mathlib.Omega.{arith}
use lib.ListN.{drop, drop_of_length-le}
use lib.Seq.{drop-cons}
use Rattle.table.specs.Table.{TableMemory, entry_of, entries_of, default_entry}
pub use Rattle.table.proofs.SearchLaws.{has_name, has_value}
use Rattle.table.proofs.TabulateLaws.{length_entries, entry_get}
use Rattle.table_text.specs.Text.{entry_text, entries_text}

-- an entry's line, and what stands behind it
pub entries_next : (m : TableMemory) (id : ℕ) → id < m.count
    → entries_text id (drop id (entries_of m)) ≡ entry_text id (entry_of m id) ++ entries_text (id + 1) (drop (id + 1) (entries_of m))
unfolding entries_text
entries_next m id h = rw (drop-cons (entries_of m) id default_entry (omega (arith, length_entries m)), entry_get m id default_entry h, add-one)

-- no entry is left
pub entries_end : (m : TableMemory) (id : ℕ) → m.count ≤ id → entries_text id (drop id (entries_of m)) ≡ []
unfolding entries_text
entries_end m id h = rw (drop_of_length-le (entries_of m) {i = id} (omega (arith, length_entries m)))

pub ruleset entries = (entries_next, entries_end, has_name, has_value)
