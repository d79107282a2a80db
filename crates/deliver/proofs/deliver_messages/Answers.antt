-- `deliver_messages`: after each message, the messages so far with those behind them are the whole delivery (`Reached`).
use mathlib.Core.Path.{sym, ◌∙◌}
use native.Mathlib.Omega.{arith}
use Rattle.std.proofs.Common.{rules}
use Rattle.protocol.specs.Memory.{server_of}
use Rattle.protocol.specs.Lent.{answered}
use Rattle.delivery.proofs.DeliveryLaws.{reached_most, reached_spent}
use Rattle.deliver.proofs.MessagesLaws.{all_taken, more_left, back_length, refused_next, reached_next}
use Rattle.deliver.proofs.deliver_messages.Goals as goal

pub returns-then-taken-input-clause-done : goal.returns-then-taken-input-clause-done
returns-then-taken-input-clause-done c = reached_spent c.loop-messages.invariant.reached (omega (arith, c.if-taken-input.true))

pub returns-then-not-goes_on-clause-done : goal.returns-then-not-goes_on-clause-done
returns-then-not-goes_on-clause-done c =
    let r = answered c.receive_with_heading-a.result (server_of c.receive_with_heading-a.new.memory) c.receive_with_heading-a.new.out in
    refused_next c.loop-messages.invariant.reached c.loop-messages-test.true c.if-taken-input.false r c.receive_with_heading-a.ensures.step (sym c.goes_on.ensures ∙ c.if-not-goes_on.true)

pub overflow_add-taken : goal.overflow_add-taken
overflow_add-taken c =
    let r = answered c.receive_with_heading-a.result (server_of c.receive_with_heading-a.new.memory) c.receive_with_heading-a.new.out in
    let on = reached_next c.loop-messages.invariant.reached c.loop-messages-test.true c.if-taken-input.false r c.receive_with_heading-a.ensures.step (sym c.goes_on.ensures ∙ c.if-not-goes_on.false) in
    omega (arith, on.takes, c.well_formed)

pub overflow_add-written : goal.overflow_add-written
overflow_add-written c =
    let r = answered c.receive_with_heading-a.result (server_of c.receive_with_heading-a.new.memory) c.receive_with_heading-a.new.out in
    let on = reached_next c.loop-messages.invariant.reached c.loop-messages-test.true c.if-taken-input.false r c.receive_with_heading-a.ensures.step (sym c.goes_on.ensures ∙ c.if-not-goes_on.false) in
    let whole = back_length c.loop-messages.invariant.reached c.loop-messages-test.true c.if-taken-input.false r c.receive_with_heading-a.ensures.step in
    omega (arith, on.writes, whole, c.loop-messages.invariant.whole, c.well_formed)

pub loop-messages-preserved : goal.loop-messages-preserved
loop-messages-preserved c =
    let r = answered c.receive_with_heading-a.result (server_of c.receive_with_heading-a.new.memory) c.receive_with_heading-a.new.out in
    let whole = back_length c.loop-messages.invariant.reached c.loop-messages-test.true c.if-taken-input.false r c.receive_with_heading-a.ensures.step in
    record {
      same = search rules;
      whole = whole ∙ c.loop-messages.invariant.whole;
      reached = reached_next c.loop-messages.invariant.reached c.loop-messages-test.true c.if-taken-input.false r c.receive_with_heading-a.ensures.step (sym c.goes_on.ensures ∙ c.if-not-goes_on.false);
    }

pub returns-then-taken-input-2-clause-done : goal.returns-then-taken-input-2-clause-done
returns-then-taken-input-2-clause-done c =
    rw (all_taken c.loop-messages.invariant.reached c.loop-messages-test.false) at (reached_spent c.loop-messages.invariant.reached (omega (arith, c.if-taken-input-2.true)))

pub returns-else-taken-input-2-clause-done : goal.returns-else-taken-input-2-clause-done
returns-else-taken-input-2-clause-done c =
    let all = all_taken c.loop-messages.invariant.reached c.loop-messages-test.false in
    let more = more_left c.loop-messages.invariant.reached c.if-taken-input-2.false in
    rw all at (reached_most c.loop-messages.invariant.reached more all)
