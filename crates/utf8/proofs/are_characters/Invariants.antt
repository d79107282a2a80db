use Rattle.std.proofs.Common.{◌≡◌, length}
use Rattle.utf8.specs.Utf8.{Boundary, utf8_from, is_utf8}
use Rattle.utf8.proofs.are_characters.Given as goal

abbrev pub invariant-loop-rest : goal.invariant-loop-rest
invariant-loop-rest l = utf8_from Boundary l.rest ≡ is_utf8 l.s

abbrev pub decreases-loop-rest : goal.decreases-loop-rest
decreases-loop-rest l = length l.rest
