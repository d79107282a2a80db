use Rattle.std.proofs.Common.{rules, arith, inr}
use Rattle.heads.proofs.change.Goals as goal

pub returns : goal.returns
returns g c = inr (record { enough = c.in-Some.ensures.some.0; flat = c.call-answer.new.arg2; called = search rules; numbers = omega arith; changed = search rules; unchanged = search rules; past = c.store.ensures.past })
