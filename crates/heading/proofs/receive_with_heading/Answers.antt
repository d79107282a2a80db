-- `receive_with_heading`: the call in the output behind the heading, then the heading where it is done.
use native.Mathlib.Omega.{arith}
use Rattle.table.specs.Table.{max_entries}
use Rattle.protocol.specs.Lent.{answered}
use Rattle.protocol.specs.Memory.{server_of}
use Rattle.heading.proofs.HeadingLaws.{without_heading, heading_room, sent_fits, with_heading_lem}
use Rattle.heading.proofs.receive_with_heading.Goals as goal

pub returns-then-a-ne-DONE-clause-step : goal.returns-then-a-ne-DONE-clause-step
returns-then-a-ne-DONE-clause-step c =
    without_heading max_entries (server_of c.args.memory.now) c.args.c c.args.input.now c.args.out.now _ (omega (arith, c.min-from.ensures))
    (answered c.receive_when_sound-a.result (server_of c.receive_when_sound-a.new.memory) c.receive_when_sound-a.new.out) c.receive_when_sound-a.ensures.step c.if-a-ne-DONE.true

pub put_heading-requires : goal.put_heading-requires
put_heading-requires c =
    heading_room max_entries (server_of c.args.memory.now) c.args.c c.args.input.now c.args.out.now _ (omega (arith, c.min-from.ensures))
    (answered c.receive_when_sound-a.result (server_of c.receive_when_sound-a.new.memory) c.receive_when_sound-a.new.out) c.receive_when_sound-a.ensures.step c.if-a-ne-DONE.false (omega arith)

pub overflow_add-result : goal.overflow_add-result
overflow_add-result c =
    let fits =
    sent_fits max_entries (server_of c.args.memory.now) c.args.c c.args.input.now c.args.out.now _ (omega (arith, c.min-from.ensures))
    (answered c.receive_when_sound-a.result (server_of c.receive_when_sound-a.new.memory) c.receive_when_sound-a.new.out) c.receive_when_sound-a.ensures.step c.if-a-ne-DONE.false in
    omega (arith, fits, c.well_formed)

pub returns-clause-step : goal.returns-clause-step
returns-clause-step c =
    rw c.put_heading.ensures
    (with_heading_lem max_entries (server_of c.args.memory.now) c.args.c c.args.input.now c.args.out.now _ (omega (arith, c.min-from.ensures))
    (answered c.receive_when_sound-a.result (server_of c.receive_when_sound-a.new.memory) c.receive_when_sound-a.new.out) c.receive_when_sound-a.ensures.step c.if-a-ne-DONE.false)
