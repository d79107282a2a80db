-- Loading what was saved, over heads.
use mathlib.Core.Path.{◌≡◌, sym, ap, subst}
use lib.ListN.{take}
use Rattle.table.specs.Table.{max_entries, entries_of}
use Rattle.saved.specs.Form.{saved_size}
use Rattle.saved.specs.Calls.{SaveResult, save_result, LoadResult, load_result, load}
use Rattle.saved.specs.Loaded.{Saved, Gives}
use Rattle.saved.proofs.LoadedLaws.{save_gives_form}
use Rattle.protocol.specs.Step.{ServerMemory}
use Rattle.convergence.proofs.BeginLaws.{loads_after_fresh_start}
use Rattle.convergence.proofs.Theorem.{same_entries}
use Rattle.nt2.specs.Lent.{WithPast, server_of, table_of}
use Rattle.nt2_saved.specs.Loaded.{ExportedLoadsWhatWasSaved}

pub exported_loads_what_was_saved : ExportedLoadsWhatWasSaved
exported_loads_what_was_saved t out written r saved ok mem start f started ok' l after loaded =
    let m = table_of t in
    let kept : Saved max_entries m out (save_result r written) =
    subst (λ (x : SaveResult). x.answer.number ≡ 0 → Saved max_entries m out x) (sym saved) (save_gives_form max_entries m out) ok in
    let fresh = loads_after_fresh_start max_entries m kept.table_sound (server_of mem) (rw started.0 at ok') in
    let given : Gives (entries_of m) (saved_size m.count) (load max_entries (server_of start).table (server_of start).marks (take r.sent written)) =
    subst (λ (x : ServerMemory). Gives (entries_of m) (saved_size m.count) (load max_entries x.table x.marks (take r.sent written))) (sym started.1)
    (rw kept.form fresh) in
    let done : Gives (entries_of m) (saved_size m.count) (load_result l (table_of after)) =
    subst (Gives (entries_of m) (saved_size m.count)) (sym (ap (λ (x : WithPast LoadResult). x.result) loaded)) given in
    (done.is_done, same_entries (table_of after) m done.entries)
