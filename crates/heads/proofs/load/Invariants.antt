use Rattle.std.proofs.Common.{◌≡◌, replicate}
use Rattle.heads.specs.Heads.{loaded}
use Rattle.heads.proofs.load.Given as goal

abbrev pub invariant-loop-i : goal.invariant-loop-i
invariant-loop-i l = l.flat ≡ loaded l.i l.heads (replicate 256 0)
