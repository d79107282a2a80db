use Rattle.std.proofs.Common.{take}
use Rattle.digits.specs.Put.{Puts}
use Rattle.digits.proofs.Text.bytes.Given as goal

abbrev pub invariant-loop-b : goal.invariant-loop-b
invariant-loop-b l = Puts l.fn.self l.self (take l.b-index l.s)
