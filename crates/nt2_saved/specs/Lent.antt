-- Saving on memory as C lends it, over the numbers of the heads. What a load promises there is in `nt2`.
use Rattle.std.specs.Prelude.{List, ℕ}
use Rattle.table.specs.Table.{max_entries}
use Rattle.saved.specs.Calls.{SaveResult, save}
use Rattle.nt2.specs.Lent.{HeadsTable, table_of}

abbrev pub heads_save : HeadsTable → (out : List ℕ) → SaveResult
heads_save t out = save max_entries (table_of t) out
