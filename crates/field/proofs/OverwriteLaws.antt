-- Laws of `overwrite_at`.
use mathlib.Core.Path.{◌≡◌, refl, sym, ap, ◌∙◌}
use mathlib.Core.Logic.{◌≢◌}
use mathlib.Core.List.{List, [], ◌∷◌, ◌++◌, append_assoc}
use Prim.Native.Nat.{ℕ, zero, suc, ◌+◌, ◌≤◌, ◌<◌}
use native.Mathlib.Nat.{add-zero, add-suc, suc-add}
use native.Mathlib.Numerals.{add-one}
use native.Mathlib.Omega.{arith}
use lib.ListN.{length, take, drop, set, get_or, length-append, length-set, length-take, length-drop, take-append-drop}
use lib.Seq.{take-suc, take-set-le, drop-set-add, drop-set-lt, take-suc-set, set-append_left, drop-drop, length-take-le, get_or-set_same, get_or-set_other}
use Rattle.field.specs.Octets.{overwrite_at}

pub length_overwrite : (xs : List ℕ) (at : ℕ) (ys : List ℕ) → length (overwrite_at xs at ys) ≡ length xs
unfolding overwrite_at
length_overwrite xs at [] = refl
length_overwrite xs at (y ∷ ys) = length_overwrite (set xs at y) (at + 1) ys ∙ length-set xs at y

-- what it means where there is room: the bytes before, the bytes stored, the bytes after
pub overwrite_eq : (xs : List ℕ) (at : ℕ) (ys : List ℕ) → at + length ys ≤ length xs
    → overwrite_at xs at ys ≡ take at xs ++ (ys ++ drop (at + length ys) xs)
unfolding overwrite_at
overwrite_eq xs at [] h = sym (rw add-zero (take-append-drop at xs))
overwrite_eq xs at (y ∷ ys) h =
    overwrite_eq (set xs at y) (at + 1) ys (simp length-set (omega arith))
    ∙ rw (add-one, take-suc-set xs at y (omega arith), append_assoc, drop-set-lt (suc at + length ys) xs at y (omega arith), suc-add, ← add-suc)

-- a store at the end of a store is one store
pub overwrite_append : (xs : List ℕ) (at : ℕ) (ys zs : List ℕ) (e : ℕ) → e ≡ at + length ys
    → overwrite_at (overwrite_at xs at ys) e zs ≡ overwrite_at xs at (ys ++ zs)
unfolding overwrite_at
overwrite_append xs at [] zs e h = ap (λ (k : ℕ). overwrite_at xs k zs) (omega arith)
overwrite_append xs at (y ∷ ys) zs e h = overwrite_append (set xs at y) (at + 1) ys zs e (omega arith)

-- one more byte of a copy
pub overwrite_more : (xs : List ℕ) (at : ℕ) (s : List ℕ) (j : ℕ) → j < length s
    → set (overwrite_at xs at (take j s)) (at + j) (get_or s j 0) ≡ overwrite_at xs at (take (j + 1) s)
unfolding overwrite_at
overwrite_more xs at s j h =
    let more : take (j + 1) s ≡ take j s ++ (get_or s j 0 ∷ []) = rw add-one (take-suc s j 0 h) in
    overwrite_append xs at (take j s) (get_or s j 0 ∷ []) (at + j) (omega (arith, length-take-le j s (omega arith))) ∙ ap (overwrite_at xs at) (sym more)

-- ---- one place of what is stored

-- p is none of the n places from `from` on
abbrev pub Outside : ℕ → ℕ → ℕ → Type 0
Outside from n p = (k : ℕ) → k < n → p ≢ from + k

pub overwrite_outside : (xs : List ℕ) (at : ℕ) (ys : List ℕ) (p : ℕ) → Outside at (length ys) p → get_or (overwrite_at xs at ys) p 0 ≡ get_or xs p 0
unfolding overwrite_at
overwrite_outside xs at [] p h = refl
overwrite_outside xs at (y ∷ ys) p h =
    overwrite_outside (set xs at y) (at + 1) ys p (λ k l. omega (arith, h (suc k) (omega arith)))
    ∙ get_or-set_other xs at p y 0 (omega (arith, h 0 (omega arith)))

pub overwrite_inside : (xs : List ℕ) (at : ℕ) (ys : List ℕ) (j : ℕ) → at + length ys ≤ length xs → j < length ys
    → get_or (overwrite_at xs at ys) (at + j) 0 ≡ get_or ys j 0
unfolding overwrite_at
overwrite_inside xs at [] j fits h = absurd (omega arith)
overwrite_inside xs at (y ∷ ys) zero fits h =
    rw add-zero (overwrite_outside (set xs at y) (at + 1) ys at (λ k l. omega arith) ∙ get_or-set_same xs at y 0 (omega arith))
overwrite_inside xs at (y ∷ ys) (suc j) fits h =
    let e : at + suc j ≡ at + 1 + j = omega arith in
    rw e (overwrite_inside (set xs at y) (at + 1) ys j (simp length-set (omega arith)) (omega arith))

-- ---- a store into a part that was lent, seen in the whole

overwrite_rest : (xs : List ℕ) (e at : ℕ) (ys : List ℕ) → e ≤ length xs → take e xs ++ overwrite_at (drop e xs) at ys ≡ overwrite_at xs (e + at) ys
unfolding overwrite_at
overwrite_rest xs e at [] h = take-append-drop e xs
overwrite_rest xs e at (y ∷ ys) h =
    let t : take e xs ≡ take e (set xs (e + at) y) = sym (take-set-le e xs (e + at) y (omega arith)) in
    let d : set (drop e xs) at y ≡ drop e (set xs (e + at) y) = sym (drop-set-add e xs at y) in
    let k : e + at + 1 ≡ e + (at + 1) = omega arith in
    rw (t, d, k) (overwrite_rest (set xs (e + at) y) e (at + 1) ys (simp length-set h))

overwrite_left : (p q : List ℕ) (at : ℕ) (ys : List ℕ) → at + length ys ≤ length p → overwrite_at p at ys ++ q ≡ overwrite_at (p ++ q) at ys
unfolding overwrite_at
overwrite_left p q at [] h = refl
overwrite_left p q at (y ∷ ys) h =
    rw (set-append_left p q at y (omega arith)) (overwrite_left (set p at y) q (at + 1) ys (simp length-set (omega arith)))

-- the left side is what `&mut xs[a..a + k]` leaves when it comes back
pub overwrite_part : (xs : List ℕ) (a k at : ℕ) (ys : List ℕ) → at + length ys ≤ k → a + (at + length ys) ≤ length xs
    → take a xs ++ (overwrite_at (take k (drop a xs)) at ys ++ drop k (drop a xs)) ≡ overwrite_at xs (a + at) ys
overwrite_part xs a k at ys h g =
    let f : at + length ys ≤ length (take k (drop a xs)) = simp (length-take, length-drop) (omega arith) in
    rw (overwrite_left (take k (drop a xs)) (drop k (drop a xs)) at ys f, take-append-drop k (drop a xs)) (overwrite_rest xs a at ys (omega arith))

-- the left side is what `&mut xs[a..b]` leaves, once ys was copied into it
pub overwrite_mid : (xs ys : List ℕ) (a k : ℕ) → k ≡ length ys → a + length ys ≤ length xs
    → take a xs ++ (ys ++ drop k (drop a xs)) ≡ overwrite_at xs a ys
overwrite_mid xs ys a k e h =
    let d : drop k (drop a xs) ≡ drop (a + length ys) xs = rw e (drop-drop (length ys) a xs ∙ ap (λ (n : ℕ). drop n xs) (omega arith)) in
    rw d (sym (overwrite_eq xs a ys h))

-- ---- stores one behind the other

-- bytes are stored in out from 0 on, which gives now, and end is where they end
pub record Stored (out bytes now : List ℕ) (end : ℕ) : Type 0 where
  pub so_far : now ≡ overwrite_at out 0 bytes
  pub reached : end ≡ length bytes

pub stored : (out now bytes : List ℕ) (end : ℕ) → now ≡ overwrite_at out 0 bytes → end ≡ length bytes → Stored out bytes now end
stored out now bytes end h u = record { so_far = h; reached = u }

pub store_next : {out bytes now : List ℕ} (now' more : List ℕ) {end : ℕ} (end' : ℕ) → Stored out bytes now end → now' ≡ overwrite_at now end more
    → end' ≡ end + length more → Stored out (bytes ++ more) now' end'
store_next {out} {bytes} {now} now' more {end} end' s h u =
    record {
      so_far = h ∙ rw s.so_far (overwrite_append out 0 bytes more end (omega arith));
      reached = simp length-append (omega arith);
    }
