use Rattle.std.proofs.Common.{◌≡◌, true, take}
use Rattle.std.specs.Str.{IsAscii}
use Rattle.utf8.proofs.no_high_byte.Given as goal

abbrev pub invariant-loop-b : goal.invariant-loop-b
invariant-loop-b l = l.none ≡ true → IsAscii (take l.b-index l.s)
