use Rattle.std.proofs.Common.{arith}
use Rattle.heads.proofs.HeadLaws.{loaded_end}
use Rattle.heads.proofs.load.Goals as goal

pub returns-clause-some : goal.returns-clause-some
returns-clause-some c = (omega arith, loaded_end _ _ _ _ c.loop-i.invariant (omega arith) (omega arith) (omega arith) (omega arith))
