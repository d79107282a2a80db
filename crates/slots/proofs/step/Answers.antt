-- `step` is the record, of its kind.
use Rattle.std.proofs.Common.{ap, arith, map, []}
use Rattle.protocol.specs.Memory.{server_of}
use Rattle.protocol.specs.Effect.{Effect}
use Rattle.line_record.specs.Record.{opens, leaves, came}
use Rattle.line_record.specs.Replay.{RunState, step_record}
use Rattle.gather.specs.Slot.{held_in}
use Rattle.slots.proofs.StepLaws.{step_sound, came_state}
use Rattle.slots.proofs.step.Goals as goal

pub returns-in-Opens-clause-state : goal.returns-in-Opens-clause-state
unfolding step_record
returns-in-Opens-clause-state c =
    let mem = server_of c.args.memory.now in
    rw (c.in-Opens.is, ap (λ (r : Effect). r.memory) (c.change_mark.ensures mem.table c.requires.sound.table))

pub returns-in-Opens-clause-sound : goal.returns-in-Opens-clause-sound
unfolding step_record
returns-in-Opens-clause-sound c =
    let mem = server_of c.args.memory.now in
    rw (ap (λ (r : Effect). r.memory) (c.change_mark.ensures mem.table c.requires.sound.table)) (step_sound mem [] c.requires.sound (opens c.in-Opens.c))

pub returns-in-Leaves-clause-sound : goal.returns-in-Leaves-clause-sound
returns-in-Leaves-clause-sound c =
    let mem = server_of c.args.memory.now in
    rw (ap (λ (s : RunState). s.memory) c.connection_left.ensures.state) (step_sound mem (map held_in c.args.slots.now) c.requires.sound (leaves c.in-Leaves.c))

pub returns-in-Came-clause-state : goal.returns-in-Came-clause-state
returns-in-Came-clause-state c =
    let mem = server_of c.args.memory.now in
    rw c.in-Came.is
    (came_state mem _ c.in-Came.c c.args.slots.now c.index-slots-c.result c.gather.new.slot c.in-Came.arrived.now (omega (arith, c.told-slots, (rw c.in-Came.is at c.requires.fits).0)) c.gather.ensures.kept)

pub returns-in-Came-clause-sound : goal.returns-in-Came-clause-sound
returns-in-Came-clause-sound c =
    let mem = server_of c.args.memory.now in
    let state =
    came_state mem _ c.in-Came.c c.args.slots.now c.index-slots-c.result c.gather.new.slot c.in-Came.arrived.now (omega (arith, c.told-slots, (rw c.in-Came.is at c.requires.fits).0)) c.gather.ensures.kept in
    rw (ap (λ (s : RunState). s.memory) state) (step_sound mem (map held_in c.args.slots.now) c.requires.sound (came c.in-Came.c c.in-Came.arrived.now))
