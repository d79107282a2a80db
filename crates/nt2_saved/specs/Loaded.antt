-- What the exported calls make of a table together, over heads: "Loading what was saved gives the same entries".
use Rattle.std.specs.Prelude.{ℕ, List, ◌≡◌, take}
use Rattle.field.specs.Answer.{done}
use Rattle.answer.specs.declared.Answer.{Answer}
use Rattle.saved.specs.Calls.{save_result}
use Rattle.convergence.specs.Demand.{SameEntries}
use Rattle.nt2.specs.Lent.{HeadsTable, HeadsServer, table_of, Started, heads_loaded, heads_load}
use Rattle.nt2_saved.specs.Lent.{heads_save}

abbrev pub ExportedLoadsWhatWasSaved : Type 0
ExportedLoadsWhatWasSaved =
    -- `nt2_save` of a table answered 0
    (t : HeadsTable) (out written : List ℕ) (r : Answer) → save_result r written ≡ heads_save t out → r.number ≡ done
    -- and on other memory, with any contents, `nt2_fresh` answered 0
    → (mem start : HeadsServer) (f : Answer) → Started mem f start → f.number ≡ done
    -- then `nt2_load` of the bytes that were sent is done, and the table holds what was saved
    → (l : Answer) (after : HeadsTable) → heads_loaded l after ≡ heads_load start (take r.sent written)
    → (l.number ≡ done) × SameEntries (table_of after) (table_of t)
