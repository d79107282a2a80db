-- What was read so far is a record that is run, and memory is sound for the next one.
use Rattle.field.specs.Answer.{done}
use Rattle.table.specs.Table.{max_entries}
use Rattle.protocol.specs.Kept.{SoundMemory}
use Rattle.protocol.specs.Memory.{server_of, SameMemory}
use Rattle.slots.specs.Slots.{state_of}
use Rattle.replay_main.specs.Shown.{Runs}
use Rattle.replay_main.proofs.run_input.Given as goal

abbrev pub invariant-loop : goal.invariant-loop
invariant-loop g l = record {
  same : SameMemory l.initial.memory l.memory;
  runs : Runs (state_of (server_of l.initial.memory) l.initial.slots) done (state_of (server_of l.memory) l.slots);
  sound : SoundMemory max_entries (server_of l.memory);
}
