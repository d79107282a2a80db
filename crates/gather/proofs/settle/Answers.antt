-- `settle` makes the definition's calls: what is left at each turn comes to what all bytes come to.
use Rattle.std.proofs.Common.{sym, ap, arith, rules}
use Rattle.field.specs.Refusal.{refusal_number}
use Rattle.field.proofs.OctetsLaws.{rest_all}
use Rattle.plant.proofs.PlantLaws.{refusal_stops}
use Rattle.gather.proofs.SettleLaws.{cut_only, taken_whole, taken_goes_on, reached_start, kept_spent, sound_after, marks_after, kept_cut, kept_refused, kept_closed, takes, reached_on}
use Rattle.gather.proofs.settle.Goals as goal

pub loop-at-init : goal.loop-at-init
loop-at-init c = (search rules, reached_start _ _ _ _ c.requires)

pub is_closed-requires : goal.is_closed-requires
is_closed-requires c =
    let made = rw (rest_all c.loop-at.at c.args.held.now) at c.in-Ok.ensures.effect in
    marks_after c.loop-at.invariant.1 c.loop-at-test.true _ made

pub returns-then-is_closed-clause-kept : goal.returns-then-is_closed-clause-kept
returns-then-is_closed-clause-kept c =
    let made = rw (rest_all c.loop-at.at c.args.held.now) at c.in-Ok.ensures.effect in
    let outcome = c.in-Ok.taken.outcome in
    kept_closed c.loop-at.invariant.1 c.loop-at-test.true _ made (taken_whole outcome) (taken_goes_on outcome) (sym c.if-is_closed.ensures)

pub overflow_add-at : goal.overflow_add-at
overflow_add-at c =
    let made = rw (rest_all c.loop-at.at c.args.held.now) at c.in-Ok.ensures.effect in
    let outcome = c.in-Ok.taken.outcome in
    omega (arith, (takes c.loop-at.invariant.1 c.loop-at-test.true _ made (taken_whole outcome) (taken_goes_on outcome)).1, c.well_formed)

pub loop-at-smaller : goal.loop-at-smaller
loop-at-smaller c =
    let made = rw (rest_all c.loop-at.at c.args.held.now) at c.in-Ok.ensures.effect in
    let outcome = c.in-Ok.taken.outcome in
    let t = takes c.loop-at.invariant.1 c.loop-at-test.true _ made (taken_whole outcome) (taken_goes_on outcome) in
    omega (arith, t.0, t.1)

pub loop-at-preserved : goal.loop-at-preserved
loop-at-preserved c =
    let made = rw (rest_all c.loop-at.at c.args.held.now) at c.in-Ok.ensures.effect in
    let outcome = c.in-Ok.taken.outcome in
    let same = c.loop-at.invariant.0 in
    (search rules, reached_on c.loop-at.invariant.1 c.loop-at-test.true _ made (taken_whole outcome) (taken_goes_on outcome) (sym c.if-is_closed.ensures))

pub returns-in-Incomplete-clause-kept : goal.returns-in-Incomplete-clause-kept
returns-in-Incomplete-clause-kept c =
    let made = rw (rest_all c.loop-at.at c.args.held.now) at c.in-Err.ensures.effect in
    kept_cut c.loop-at.invariant.1 c.loop-at-test.true _ made (ap refusal_number c.in-Incomplete.is)

pub leave_after-requires : goal.leave_after-requires
leave_after-requires c =
    let made = rw (rest_all c.loop-at.at c.args.held.now) at c.in-Err.ensures.effect in
    sound_after c.loop-at.invariant.1 c.loop-at-test.true _ made

pub returns-in_default-clause-kept : goal.returns-in_default-clause-kept
returns-in_default-clause-kept c =
    let made = rw (rest_all c.loop-at.at c.args.held.now) at c.in-Err.ensures.effect in
    let refusal = c.in-Err.refusal in
    kept_refused c.loop-at.invariant.1 c.loop-at-test.true _ made (λ e. c.in_default.not-Incomplete (cut_only refusal e)) (refusal_stops refusal) _ c.leave_after.ensures.left

pub returns-clause-kept : goal.returns-clause-kept
returns-clause-kept c = kept_spent c.loop-at.invariant.1 c.loop-at-test.false
