use Rattle.std.proofs.Common.{◌≡◌, ◌+◌, length}
use Rattle.table.specs.Table.{entry_at}
use Rattle.hello.proofs.HelloLaws.{assignments_below}
use Rattle.hello.proofs.hello_length.Given as goal

abbrev pub invariant-loop-i : goal.invariant-loop-i
invariant-loop-i l = l.sum ≡ length (assignments_below l.i (entry_at l.table.heads.now l.table.bytes.now)) + 1
