-- Laws of filling.
use mathlib.Core.Path.{◌≡◌, refl, ap}
use mathlib.Core.Bool.{true, and-eq-true_iff}
use mathlib.Core.List.{List, [], ◌∷◌}
use Prim.Native.Nat.{ℕ, zero, suc}
use lib.Dec.{eqb}
use lib.ListN.{length, replicate}
use borrow.Author.Tests.{eqb-true, eq-eqb}
use Rattle.saved.specs.Reading.{all_zero}

pub all_zero_lem : (n : ℕ) → all_zero (replicate n 0) ≡ true
unfolding all_zero
all_zero_lem zero = refl
all_zero_lem (suc n) = rw (eq-eqb 0 0 refl) (all_zero_lem n)

pub zeros : (s : List ℕ) → all_zero s ≡ true → s ≡ replicate (length s) 0
unfolding all_zero
zeros [] h = refl
zeros (x ∷ xs) h =
    let both = (and-eq-true_iff (eqb x 0) (all_zero xs)).0 h in
    rw (eqb-true x 0 both.0) (ap (λ (l : List ℕ). 0 ∷ l) (zeros xs both.1))
