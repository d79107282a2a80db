-- `why_ignored`: the search's answer for an assignment's name.
use mathlib.Core.Path.{◌∙◌}
use native.Mathlib.Omega.{arith}
use Rattle.field.proofs.OctetsLaws.{rest_all}
use Rattle.message.specs.Layout.{assignment_name_start}
use Rattle.table.specs.Memory.{memory_of}
use Rattle.table.specs.Table.{max_entries}
use Rattle.soundness.proofs.ReadableLaws.{sound_count}
use Rattle.why.proofs.IgnoredLaws.{searched_fits, name_said}
use Rattle.why.proofs.why_ignored.Goals as goal

pub overflow_cast-result : goal.overflow_cast-result
overflow_cast-result c =
    let table = memory_of c.args.table.table in
    let found = rw (c.len.ensures, c.find_name.ensures) at c.unwrap_or-id.ensures in
    omega (arith, searched_fits table _ c.unwrap_or-id.result found, sound_count max_entries table c.args.table.sound)

pub returns-then-kind-from-2 : goal.returns-then-kind-from-2
returns-then-kind-from-2 c =
    rw (c.unwrap_or-id.ensures, c.len.ensures, c.find_name.ensures, rest_all assignment_name_start c.args.m.now, c.from-first.ensures, c.u16_at.ensures)
    (name_said (memory_of c.args.table.table) c.args.m.now (c.if-kind-from-2.true ∙ c.from-2.ensures))
