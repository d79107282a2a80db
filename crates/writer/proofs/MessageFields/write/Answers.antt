-- `write` answers and leaves what `write_with_place` says: what the fields need is told, and the laws of needing settle the ways out.
use Prim.Native.Nat.{◌≤◌, ◌<◌}
use native.Mathlib.Omega.{arith}
use lib.ListN.{length}
use Rattle.writer.proofs.WriterLaws.{needs_more, needs_room, ready_sent}
use Rattle.writer.proofs.MessageFields.write.Goals as goal

pub returns-then-out-size : goal.returns-then-out-size
returns-then-out-size c =
    let short : length c.args.out.now < c.in-Ok.size = omega (arith, c.if-out-size.true) in
    rw c.no_room.ensures (needs_more _ c.args.out.now c.in-Ok.size c.in-Ok.ensures short)

pub put-sent-requires : goal.put-sent-requires
put-sent-requires c =
    let fits : c.in-Ok.size ≤ length c.args.out.now = omega (arith, c.if-out-size.false) in
    needs_room _ c.args.out.now c.in-Ok.size c.in-Ok.ensures fits

pub returns-else-out-size : goal.returns-else-out-size
returns-else-out-size c =
    let fits : c.in-Ok.size ≤ length c.args.out.now = omega (arith, c.if-out-size.false) in
    let room = needs_room _ c.args.out.now c.in-Ok.size c.in-Ok.ensures fits in
    rw c.done.ensures (ready_sent _ c.args.out.now room c.put-sent.result c.put-sent.new.out c.put-sent.ensures.sent c.put-sent.ensures.output)
