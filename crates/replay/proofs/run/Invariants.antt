use Rattle.std.proofs.Common.{◌-◌, length}
use Rattle.protocol.specs.Memory.{server_of, SameMemory}
use Rattle.slots.specs.Slots.{state_of}
use Rattle.replay.proofs.RunLaws.{Reached}
use Rattle.replay.proofs.run.Given as goal

abbrev pub invariant-loop-at : goal.invariant-loop-at
invariant-loop-at l =
    SameMemory l.initial.memory l.memory × Reached (state_of (server_of l.initial.memory) l.initial.slots) l.recorded (server_of l.memory) l.slots l.at l.records

abbrev pub decreases-loop-at : goal.decreases-loop-at
decreases-loop-at l = length l.recorded - l.at
