-- Laws of `all_below`.
use Rattle.std.proofs.Common.{◌≡◌, ℕ, zero, suc, ◌+◌, ◌<◌, Bool, true, false, refl, not-suc-le-zero, add-one, arith}
use mathlib.Core.Bool.{and-false, and-eq-true_iff}
use native.Mathlib.Decide.{dec_lt}
use Rattle.soundness.specs.Sound.{all_below}

pub all_none : (p : ℕ → Bool) → all_below 0 p ≡ true
unfolding all_below
all_none p = refl

pub all_more : (n : ℕ) (p : ℕ → Bool) → all_below n p ≡ true → p n ≡ true → all_below (n + 1) p ≡ true
unfolding all_below
all_more n p h g = rw (add-one, h) g

-- true gives the test at each number, and the test at each number gives true
pub all_at : (n : ℕ) (p : ℕ → Bool) → all_below n p ≡ true → (i : ℕ) → i < n → p i ≡ true
unfolding all_below
all_at zero p h i l = absurd (not-suc-le-zero l)
all_at (suc n) p h i l = elim (dec_lt i n) [
  | yes lt ↦ all_at n p ((and-eq-true_iff (all_below n p) (p n)).0 h).0 i lt
  | no ge ↦ (let e : i ≡ n = omega (arith, ge) in rw e ((and-eq-true_iff (all_below n p) (p n)).0 h).1)
]

pub at_all : (n : ℕ) (p : ℕ → Bool) → ((i : ℕ) → i < n → p i ≡ true) → all_below n p ≡ true
unfolding all_below
at_all zero p h = refl
at_all (suc n) p h = rw (at_all n p (λ i l. h i (omega arith))) (h n (omega arith))

pub all_false : (n : ℕ) (p : ℕ → Bool) (i : ℕ) → i < n → p i ≡ false → all_below n p ≡ false
unfolding all_below
all_false zero p i l h = absurd (not-suc-le-zero l)
all_false (suc n) p i l h = elim (dec_lt i n) [
  | yes lt ↦ rw (all_false n p i lt h)
  | no ge ↦ (let e : i ≡ n = omega (arith, ge) in rw (← e, h) (and-false (all_below i p)))
]
