-- The bytes that the connections hold, as the code has them: a slot for each.
use Rattle.std.specs.Prelude.{List, map}
use Rattle.protocol.specs.Step.{ServerMemory}
use Rattle.line_record.specs.Replay.{RunState, run_state}
use Rattle.gather.specs.Slot.{held_in}
use Rattle.gather.specs.declared.slot.Slot.{Slot}

-- memory and slots as a state of the run
abbrev pub state_of : ServerMemory → List Slot → RunState
state_of mem slots = run_state mem (map held_in slots)
