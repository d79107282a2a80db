-- The reading of all bytes into a copy can end in one way only.
use mathlib.Core.Path.{refl}
use native.Mathlib.Omega.{arith}
use Rattle.convergence.specs.Demand.{none_left, one_read}
use Rattle.convergence.specs.Beside.{OneEnd}

pub one_end : OneEnd
one_end limit m x y bytes none_left none_left = refl
one_end limit m x y bytes none_left (one_read h a r) = absurd (omega arith)
one_end limit m x y bytes (one_read h a r) none_left = absurd (omega arith)
one_end limit m x y bytes (one_read h a r) (one_read h' a' r') = one_end limit _ x y _ r r'
