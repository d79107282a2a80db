use Rattle.std.proofs.Common.{◌≡◌}
use Rattle.soundness.specs.Fingerprint.{weighed}
use Rattle.soundness.proofs.fingerprint.Given as goal

abbrev pub invariant-loop-k : goal.invariant-loop-k
invariant-loop-k l = l.sum ≡ weighed l.k l.name
