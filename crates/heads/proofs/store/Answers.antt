use Rattle.std.proofs.Common.{arith}
use Rattle.heads.proofs.HeadLaws.{past_end}
use Rattle.heads.proofs.store.Goals as goal

pub returns-clause-past : goal.returns-clause-past
returns-clause-past c = past_end _ _ _ _ c.loop-i.invariant (omega arith) (omega arith) (omega arith)
