-- The standard's two cases are the comparison by distance.
use Rattle.std.proofs.Common.{arith}
use Rattle.std.proofs.lemmas.Bool.Decides.{nat_tests}
use Rattle.sequence.specs.SequenceNumber.{passed_by}
use Rattle.sequence.specs.Rfc1982.{greater_than, TwoCases}

pub two_cases : TwoCases
unfolding greater_than passed_by
two_cases stored received s r = grind (arith, nat_tests)
