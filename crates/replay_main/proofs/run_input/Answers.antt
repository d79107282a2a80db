use Rattle.std.proofs.Common.{arith, rules, length-take}
use Rattle.replay_main.proofs.ShownLaws.{runs_nothing, piece_refused, piece_done}
use Rattle.replay_main.proofs.run_input.Goals as goal

pub loop-init : goal.loop-init
loop-init g c = record { same = search rules; runs = runs_nothing _; sound = c.requires }

pub returns-in-Err-clause-runs : goal.returns-in-Err-clause-runs
returns-in-Err-clause-runs g c =
    rw c.from.ensures (piece_refused c.loop.invariant.runs _ _ c.in-Err.refusal c.in-Err.ensures.answer (simp length-take (omega arith)))

pub loop-preserved : goal.loop-preserved
loop-preserved g c =
    let same = c.loop.invariant.same in
    record { same = search rules; runs = piece_done c.loop.invariant.runs _ _ c.in_default.field-0 c.in_default.ensures.answer; sound = c.in_default.ensures.sound }
