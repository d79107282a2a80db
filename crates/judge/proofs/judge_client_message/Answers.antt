-- `judge_client_message` decides as the definition does: connection number, closed, and then the message.
use Rattle.std.proofs.Common.{get_or, arith}
use borrow.Author.Tests.{lt-ltb, le-ltb, eq-eqb, ne_eqb}
use Rattle.field.specs.Choice.{pick}
use Rattle.soundness.specs.Sound.{closed}
use Rattle.protocol.specs.Judge.{judge}
use Rattle.judge.proofs.DecisionLaws.{decides_refusal}
use Rattle.judge.proofs.judge_client_message.Goals as goal

pub returns-then-c-ge-CONNECTIONS : goal.returns-then-c-ge-CONNECTIONS
unfolding judge pick
returns-then-c-ge-CONNECTIONS c = rw (c.new.ensures, le-ltb _ _ c.if-c-ge-CONNECTIONS.true) (decides_refusal _ _ _ _)

pub returns-then-mark-eq-CLOSED : goal.returns-then-mark-eq-CLOSED
unfolding judge pick
returns-then-mark-eq-CLOSED c =
    rw (c.new-then-mark-eq-CLOSED.ensures, lt-ltb _ _ c.if-c-ge-CONNECTIONS.false, eq-eqb (get_or c.args.marks.now c.args.c 0) closed (omega arith)) (decides_refusal _ _ _ _)

pub returns : goal.returns
unfolding judge pick
returns c =
    rw (lt-ltb _ _ c.if-c-ge-CONNECTIONS.false, ne_eqb (get_or c.args.marks.now c.args.c 0) closed (omega arith)) (c.judge_message.ensures _ c.if-c-ge-CONNECTIONS.false)
