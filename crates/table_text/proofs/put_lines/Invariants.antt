use Rattle.std.proofs.Common.{drop}
use Rattle.digits.proofs.PutLaws.{Leads}
use Rattle.table.specs.Table.{entries_of}
use Rattle.table.specs.Memory.{memory_of}
use Rattle.table_text.specs.Text.{entries_text}
use Rattle.table_text.proofs.put_lines.Given as goal

abbrev pub invariant-loop-id : goal.invariant-loop-id
invariant-loop-id l =
    let es = entries_of (memory_of l.table) in
    Leads l.initial.text l.text (entries_text 0 es) (entries_text l.id (drop l.id es))
