use Rattle.std.proofs.Common.{[]}
use Rattle.table.specs.Table.{entries_of, max_entries}
use Rattle.soundness.proofs.SoundLaws.{marks_facts}
use Rattle.protocol.specs.Lent.{beside_marks}
use Rattle.judge.specs.Decision.{mark_call}
use Rattle.effect.proofs.EffectLaws.{mark_made, mark_refused}
use Rattle.effect.proofs.change_mark.Goals as goal

pub change_mark-requires : goal.change_mark-requires
change_mark-requires c = (marks_facts c.args.marks.now c.requires).0

pub returns-in-Ok : goal.returns-in-Ok
returns-in-Ok c =
    λ table h.
    mark_made (beside_marks table c.args.marks.now) _ (record { table = h; marks = c.requires }) (mark_call c.args.change c.args.c)
    (c.in-Ok.ensures max_entries (entries_of table) table [])

pub returns-in-Err : goal.returns-in-Err
returns-in-Err c =
    λ table h.
    mark_refused (beside_marks table c.args.marks.now) _ (record { table = h; marks = c.requires }) (mark_call c.args.change c.args.c)
    c.in-Err.fault c.refusal.result c.refusal.ensures (c.in-Err.ensures max_entries (entries_of table) table [])
