use mathlib.Core.Path.{◌≡◌}
use mathlib.Core.Bool.{◌&&◌}
use lib.Dec.{eqb}
use lib.ListN.{drop}
use Rattle.saved.specs.Reading.{all_zero}
use Rattle.saved_reader.proofs.is_zero.Given as goal

-- the bytes seen and those left come to the whole
abbrev pub invariant-loop-b : goal.invariant-loop-b
invariant-loop-b l = (eqb l.most 0 && all_zero (drop l.b-index l.s)) ≡ all_zero l.s
