-- Laws of filling, as a loop looks at it.
use Rattle.std.proofs.Common.{◌≡◌, ℕ, zero, suc, ◌+◌, ◌<◌, max, List, length, get_or, drop, ap, drop-cons, add-one, arith}
use mathlib.Core.Bool.{◌&&◌, and_assoc, and-true}
use borrow.Author.Tests.{ne_eqb}
use lib.Dec.{eqb}
use lib.Seq.{drop-length}
use Rattle.saved.specs.Reading.{all_zero}

-- the larger of two bytes is 0 where both are
larger_zero : (a b : ℕ) → eqb (max a b) 0 ≡ (eqb a 0 && eqb b 0)
larger_zero zero b = let e : max 0 b ≡ b = omega arith in ap (λ (m : ℕ). eqb m 0) e
larger_zero (suc a) b = rw (ne_eqb (max (suc a) b) 0 (λ e. omega (arith, e)), ne_eqb (suc a) 0 (λ e. omega (arith, e)))

-- what was seen and what is left come to the whole, with one byte more seen
pub zero_step : (most : ℕ) (s : List ℕ) (i : ℕ) → i < length s → (eqb most 0 && all_zero (drop i s)) ≡ all_zero s
    → (eqb (max most (get_or s i 0)) 0 && all_zero (drop (i + 1) s)) ≡ all_zero s
unfolding all_zero
zero_step most s i h e =
    rw (larger_zero most (get_or s i 0), and_assoc (eqb most 0) (eqb (get_or s i 0) 0) (all_zero (drop (i + 1) s)), add-one)
    (rw (drop-cons s i 0 h) at e)

pub zero_end : (most : ℕ) (s : List ℕ) (i : ℕ) → i ≡ length s → (eqb most 0 && all_zero (drop i s)) ≡ all_zero s → eqb most 0 ≡ all_zero s
unfolding all_zero
zero_end most s i h e = rw (h, drop-length s, and-true (eqb most 0)) at e
