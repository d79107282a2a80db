use Rattle.std.proofs.Common.{◌≡◌}
use Rattle.heads.specs.Heads.{stored}
use Rattle.heads.proofs.store.Given as goal

abbrev pub invariant-loop-i : goal.invariant-loop-i
invariant-loop-i l = l.heads ≡ stored l.i l.flat l.initial.heads
