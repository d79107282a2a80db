use Rattle.std.proofs.Common.{◌<◌, length, ap, length-drop, arith, rules}
use Rattle.field.specs.Place.{WithPlace}
use Rattle.protocol.specs.Step.{CallResult}
use Rattle.digits.proofs.PutLaws.{leads_next}
use Rattle.listing.proofs.MessagesLaws.{messages_next, takes_left}
use Rattle.listing.proofs.put_messages.Goals as goal

pub loop-left-preserved : goal.loop-left-preserved
loop-left-preserved c =
    let step = ap (λ (r : WithPlace CallResult). r.result) c.receive-a.ensures.step in
    let some : 0 < length c.loop-left.left.now = search rules in
    let next = messages_next c.loop-left.offset _ c.loop-left.out c.loop-left.left.now _ step some c.if-a-eq0.false in
    record {
      place = rw c.rest-left.ensures (simp length-drop (omega (arith, takes_left c.loop-left.offset _ c.loop-left.out c.loop-left.left.now _ step some)));
      leads = rw c.rest-left.ensures (leads_next (rw next at c.loop-left.invariant.leads) c.put_line.ensures);
    }
