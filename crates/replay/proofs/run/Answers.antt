-- `run` is the run of its definition: in the loop the records that are left come to what all come to.
use Rattle.std.proofs.Common.{refl, rules, arith, Ok, Err}
use Rattle.field.proofs.OctetsLaws.{rest_all}
use Rattle.protocol.specs.Memory.{server_of}
use Rattle.plant.proofs.PlantLaws.{refusal_stops}
use Rattle.replay.proofs.RunLaws.{reached_start, ran_refused, ran_spent, takes_some, reached_on}
use Rattle.replay.proofs.run.Goals as goal

pub loop-at-init : goal.loop-at-init
loop-at-init c = (search rules, reached_start c.args.recorded.now (server_of c.args.memory.now) c.args.slots.now c.requires)

pub loop-at-smaller : goal.loop-at-smaller
loop-at-smaller c =
    let progress = rw (rest_all c.loop-at.at c.args.recorded.now) at c.in-Ok.ensures.answer in
    omega (arith, takes_some c.loop-at.invariant.1 c.loop-at-test.true (Ok c.in-Ok.size) _ _ progress refl, c.loop-at-test.true)

pub loop-at-preserved : goal.loop-at-preserved
loop-at-preserved c =
    let progress = rw (rest_all c.loop-at.at c.args.recorded.now) at c.in-Ok.ensures.answer in
    let within = rw (rest_all c.loop-at.at c.args.recorded.now) at c.in-Ok.ensures.within in
    let same = c.loop-at.invariant.0 in
    (search rules, reached_on c.loop-at.invariant.1 c.loop-at-test.true (Ok c.in-Ok.size) _ _ progress refl within c.in-Ok.ensures.sound)

pub returns-in-Err-clause-ran : goal.returns-in-Err-clause-ran
returns-in-Err-clause-ran c =
    let progress = rw (rest_all c.loop-at.at c.args.recorded.now) at c.in-Err.ensures.answer in
    let refusal = c.in-Err.refusal in
    rw c.from.ensures
    (ran_refused c.loop-at.invariant.1 c.loop-at-test.true (Err refusal) _ _ progress (λ e. let k = rw e at (refusal_stops refusal) in cc))

pub returns-clause-ran : goal.returns-clause-ran
returns-clause-ran c = ran_spent c.loop-at.invariant.1 c.loop-at-test.false
