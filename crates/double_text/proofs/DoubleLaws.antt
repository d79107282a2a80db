-- Laws of Doubles as text.
use mathlib.Core.Path.{◌≡◌, refl}
use mathlib.Core.List.{List, [], ◌∷◌, ◌++◌}
use Prim.Native.Nat.{ℕ, zero, suc, ◌+◌, ◌-◌, ◌*◌, ◌/◌, ◌%◌, ◌^◌, ◌≤◌, ◌<◌}
use native.Mathlib.Nat.{pow-suc, one-le-pow, pow-le-pow_right, div-lt_iff_lt-mul}
use native.Mathlib.Omega.{arith}
use borrow.Author.Tests.{eq-eqb, ne_eqb}
use lib.ListN.{get_or}
use lib.Seq.{get_or-drop, drop-drop}
use Rattle.field.proofs.ChoiceLaws.{pick_true, pick_false}
use Rattle.double_text.specs.Double.{most_places, joined_to, fraction_of, binary_digits}

-- the fraction, byte by byte
pub fraction_bytes : (s : List ℕ)
    → fraction_of s
    ≡ (((((get_or s 1 0 % 16 * 256 + get_or s 2 0) * 256 + get_or s 3 0) * 256 + get_or s 4 0) * 256 + get_or s 5 0) * 256 + get_or s 6 0) * 256 + get_or s 7 0
unfolding joined_to
fraction_bytes s = simp (drop-drop, get_or-drop) refl

-- ---- digits behind the point

-- the most that a Double in decimal is over
pub power_most : (k : ℕ) → k ≤ most_places → 2 ^ k ≤ 2305843009213693952
power_most k h = pow-le-pow_right {n = 2} (omega arith) h

pub power_some : (k : ℕ) → 0 < 2 ^ k
power_some k = one-le-pow k 2 (omega arith)

-- a number that is not 0 has a place
half : (k r : ℕ) → r < 2 ^ k → (r ≡ 0 → ⊥) → 2 ^ k ≡ 2 ^ (k - 1) * 2
half zero r l some = absurd (some (omega arith))
half (suc k) r l some = let e : suc k - 1 ≡ k = omega arith in rw e (pow-suc 2 k)

pub digit_small : (k r : ℕ) → r < 2 ^ k → (r ≡ 0 → ⊥) → r * 5 / 2 ^ (k - 1) < 10
digit_small k r l some = (div-lt_iff_lt-mul (power_some (k - 1))).1 (omega (arith, half k r l some))

pub digits_next : (k r : ℕ) → r < 2 ^ k → (r ≡ 0 → ⊥) → binary_digits k r ≡ ((48 + r * 5 / 2 ^ (k - 1)) ∷ []) ++ binary_digits (k - 1) (r * 5 % 2 ^ (k - 1))
unfolding binary_digits
digits_next zero r l some = absurd (some (omega arith))
digits_next (suc k) r l some = let e : suc k - 1 ≡ k = omega arith in rw e (pick_false _ _ (ne_eqb r 0 some))

pub digits_end : (k r : ℕ) → r ≡ 0 → binary_digits k r ≡ []
unfolding binary_digits
digits_end zero r e = refl
digits_end (suc k) r e = pick_true _ _ (eq-eqb r 0 e)

pub ruleset binary = (power_most, power_some, digit_small, digits_next, digits_end)
