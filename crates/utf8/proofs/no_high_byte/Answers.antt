use Rattle.std.proofs.Common.{arith, take_all}
use Rattle.std.proofs.lemmas.Bool.{OnTrue_from}
use Rattle.utf8.proofs.no_high_byte.Goals as goal

pub returns : goal.returns
returns c = OnTrue_from _ _ (λ e. rw (take_all c.loop-b.b-index c.args.s.now (omega arith)) at (c.loop-b.invariant e))
