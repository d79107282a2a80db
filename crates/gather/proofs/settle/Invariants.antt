use Rattle.std.proofs.Common.{◌-◌, length}
use Rattle.table.specs.Table.{max_entries}
use Rattle.protocol.specs.Memory.{server_of, SameMemory}
use Rattle.gather.proofs.SettleLaws.{Reached}
use Rattle.gather.proofs.settle.Given as goal

abbrev pub invariant-loop-at : goal.invariant-loop-at
invariant-loop-at l =
    SameMemory l.initial.memory l.memory × Reached max_entries l.c l.held (server_of l.initial.memory) (server_of l.memory) l.at

abbrev pub decreases-loop-at : goal.decreases-loop-at
decreases-loop-at l = length l.held - l.at
