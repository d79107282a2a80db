use Rattle.std.proofs.Common.{rules}
use Rattle.table.specs.Table.{entry_at, entries_of}
use Rattle.table.proofs.SearchLaws.{named_at}
use Rattle.table.proofs.find_name.Goals as goal

pub returns-then-is_name : goal.returns-then-is_name
unfolding entries_of
returns-then-is_name c =
    let a = c.args in
    named_at a.name.now (entry_at a.heads.now a.bytes.now) a.count c.loop-i.i (search rules) c.loop-i.invariant (search rules)
