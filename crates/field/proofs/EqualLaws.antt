-- Laws of `bytes_equal`.
use mathlib.Core.Path.{◌≡◌, refl, sym, ap}
use mathlib.Core.Bool.{Bool, true, false, ◌&&◌, and-eq-true_iff, false≢true}
use mathlib.Core.List.{List, [], ◌∷◌}
use Prim.Native.Nat.{ℕ}
use lib.Dec.{eqb}
use lib.ListN.{length}
use lib.Pointwise.{pointwise}
use borrow.Author.Tests.{eqb-true, eq-eqb}
use Rattle.std.proofs.lemmas.Bool.{false_from_ne_true}
use Rattle.field.specs.Octets.{bytes_equal}

-- ---- two lists of bytes

pub bytes_equal_true : (a b : List ℕ) → bytes_equal a b ≡ true → a ≡ b
unfolding bytes_equal
bytes_equal_true [] [] h = refl
bytes_equal_true [] (y ∷ ys) h = absurd (false≢true h)
bytes_equal_true (x ∷ xs) [] h = absurd (false≢true h)
bytes_equal_true (x ∷ xs) (y ∷ ys) h =
    let both = (and-eq-true_iff (eqb x y) (bytes_equal xs ys)).0 h in
    rw (eqb-true x y both.0, bytes_equal_true xs ys both.1)

pub bytes_equal_refl : (a : List ℕ) → bytes_equal a a ≡ true
unfolding bytes_equal
bytes_equal_refl [] = refl
bytes_equal_refl (x ∷ xs) = rw (eq-eqb x x refl) (bytes_equal_refl xs)

pub equal_bytes : (a b : List ℕ) → a ≡ b → bytes_equal a b ≡ true
equal_bytes a b e = rw e (bytes_equal_refl b)

pub bytes_equal_false : (a b : List ℕ) → (a ≡ b → ⊥) → bytes_equal a b ≡ false
bytes_equal_false a b h = false_from_ne_true (bytes_equal a b) (λ e. h (bytes_equal_true a b e))

pub bytes_equal_sym : (a b : List ℕ) → bytes_equal a b ≡ bytes_equal b a
bytes_equal_sym a b = go (bytes_equal a b) (bytes_equal b a) (λ h. equal_bytes b a (sym (bytes_equal_true a b h))) (λ h. equal_bytes a b (sym (bytes_equal_true b a h)))
  where
    go : (s t : Bool) → (s ≡ true → t ≡ true) → (t ≡ true → s ≡ true) → s ≡ t
    go true t f g = sym (f refl)
    go false true f g = g refl
    go false false f g = refl

pub bytes_equal_length : (a b : List ℕ) → (length a ≡ length b → ⊥) → bytes_equal a b ≡ false
bytes_equal_length a b h = bytes_equal_false a b (λ e. h (ap length e))

-- ---- the library's comparison

pub pointwise_bytes : (a b : List ℕ) → pointwise eqb a b ≡ bytes_equal a b
unfolding bytes_equal
pointwise_bytes [] [] = refl
pointwise_bytes [] (y ∷ ys) = refl
pointwise_bytes (x ∷ xs) [] = refl
pointwise_bytes (x ∷ xs) (y ∷ ys) = ap (λ (t : Bool). eqb x y && t) (pointwise_bytes xs ys)
