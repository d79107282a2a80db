-- `change_mark` is the step of its call: soundness decides, then the mark changes as the verdict has it.
use Rattle.std.proofs.Common.{◌≡◌, ◌∙◌, ◌&&◌, true, [], rules}
use Rattle.table.specs.Memory.{memory_of}
use Rattle.table.specs.Table.{entries_of, max_entries}
use Rattle.soundness.specs.Sound.{sound_table, sound_marks}
use Rattle.server.proofs.StepLaws.{judged_mark}
use Rattle.server.proofs.change_mark.Goals as goal

pub returns-in-Ok : goal.returns-in-Ok
returns-in-Ok c =
    let table = memory_of c.args.table in
    let both : (sound_table max_entries table && sound_marks c.args.marks.now) ≡ true = search rules in
    rw c.done.ensures (c.in-Ok.ensures max_entries (entries_of table) table [] ∙ judged_mark table c.args.marks.now c.args.change c.args.c both)

pub returns-in-Err : goal.returns-in-Err
returns-in-Err c =
    let table = memory_of c.args.table in
    let both : (sound_table max_entries table && sound_marks c.args.marks.now) ≡ true = search rules in
    rw c.refused.ensures (c.in-Err.ensures max_entries (entries_of table) table [] ∙ judged_mark table c.args.marks.now c.args.change c.args.c both)
