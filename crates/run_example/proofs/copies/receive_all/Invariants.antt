-- What is left falls with each message, by at least 1.
use Rattle.std.proofs.Common.{length}
use Rattle.run_example.proofs.copies.receive_all.Given as goal

abbrev pub decreases-loop-rest : goal.decreases-loop-rest
decreases-loop-rest g l = length l.rest
