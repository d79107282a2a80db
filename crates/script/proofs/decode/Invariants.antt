-- What is left of the line falls with each piece.
use Rattle.std.proofs.Common.{length, ◌≤◌}
use Rattle.script.proofs.decode.Given as goal

abbrev pub invariant-loop-piece : goal.invariant-loop-piece
invariant-loop-piece l = l.end ≤ length l.out

abbrev pub decreases-loop-piece : goal.decreases-loop-piece
decreases-loop-piece l = length l.rest
