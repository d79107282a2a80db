use Rattle.std.proofs.Common.{◌≡◌, length}
use Rattle.field.proofs.OverwriteLaws.{Stored}
use Rattle.table.specs.Table.{entry_at}
use Rattle.hello.proofs.HelloLaws.{assignments_below}
use Rattle.hello.proofs.write_hello.Given as goal

abbrev pub invariant-loop-id : goal.invariant-loop-id
invariant-loop-id l =
    (length l.out ≡ length l.initial.out) × Stored l.initial.out (assignments_below l.id (entry_at l.table.heads.now l.table.bytes.now)) l.out l.end
