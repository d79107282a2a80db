-- Laws of numbers of two bytes, and of lists whose first bytes are equal.
use mathlib.Core.Path.{◌≡◌, refl, sym, ap, ◌∙◌}
use mathlib.Core.List.{List, [], ◌∷◌, ◌++◌}
use Prim.Native.Nat.{ℕ, zero, suc, ◌+◌, ◌-◌, ◌*◌, ◌≤◌, ◌<◌}
use native.Mathlib.Nat.{add-zero, zero-add, suc-add, div-add-mod'}
use native.Mathlib.Omega.{arith}
use lib.ListN.{length, take, drop, get_or, length-take, length-drop}
use lib.Seq.{take-nil, get_or-drop, get_or-take, take-take, take_all}
use Rattle.field.specs.Octets.{decode16, encode16}

pub length_encode16 : (n : ℕ) → length (encode16 n) ≡ 2
unfolding encode16
length_encode16 n = refl

-- reading back
pub decode_encode : (n : ℕ) (rest : List ℕ) → decode16 (encode16 n ++ rest) ≡ n
unfolding decode16 encode16
decode_encode n rest = div-add-mod' n 256

pub decode_at : (s : List ℕ) (at : ℕ) → decode16 (drop at s) ≡ get_or s at 0 * 256 + get_or s (at + 1) 0
unfolding decode16
decode_at s at = rw (get_or-drop at s 0 0, get_or-drop at s 1 0, add-zero at)

pub take_drop : (n m : ℕ) (l : List ℕ) → take m (drop n l) ≡ drop n (take (n + m) l)
take_drop zero m l = ap (λ (k : ℕ). take k l) (sym (zero-add m))
take_drop (suc n) m [] = take-nil m ∙ sym (ap (drop (suc n)) (take-nil (suc n + m)))
take_drop (suc n) m (x ∷ xs) = take_drop n m xs ∙ ap (λ (k : ℕ). drop (suc n) (take k (x ∷ xs))) (sym (suc-add n m))

-- `&s[at..]` reads so
pub rest_all : (at : ℕ) (s : List ℕ) → take (length s - at) (drop at s) ≡ drop at s
rest_all at s = take_all (length s - at) (drop at s) (omega (arith, length-drop at s))

-- ---- two lists whose first n bytes are equal

module _ (n : ℕ) (s t : List ℕ) (e : take n t ≡ take n s) where
  pub same_length : n ≤ length s → n ≤ length t
  same_length h = omega (arith, length-take n t, length-take n s, ap length e)

  pub same_get_or : (i : ℕ) → i < n → get_or t i 0 ≡ get_or s i 0
  same_get_or i h = sym (get_or-take n t i 0 h) ∙ ap (λ (l : List ℕ). get_or l i 0) e ∙ get_or-take n s i 0 h

  pub same_front : (m : ℕ) → m ≤ n → take m t ≡ take m s
  same_front m h = sym (take-take m n t h) ∙ ap (take m) e ∙ take-take m n s h

  pub same_decode : 2 ≤ n → decode16 t ≡ decode16 s
  unfolding decode16
  same_decode h = rw (same_get_or 0 (omega arith), same_get_or 1 (omega arith))

pub same_rest : (a b : ℕ) (s t : List ℕ) → take (a + b) t ≡ take (a + b) s → take b (drop a t) ≡ take b (drop a s)
same_rest a b s t e = take_drop a b t ∙ ap (drop a) e ∙ sym (take_drop a b s)
