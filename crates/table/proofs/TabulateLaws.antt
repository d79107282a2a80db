-- Laws of `tabulate`, and of the entries of a table.
use mathlib.Core.Path.{◌≡◌, refl, sym, ap, ◌∙◌}
use mathlib.Core.Logic.{◌≢◌}
use mathlib.Core.List.{[], ◌∷◌, ◌++◌}
use Prim.Native.Nat.{ℕ, zero, suc, ◌≤◌, ◌<◌}
use native.Mathlib.Decide.{dec_le, ℕ_discrete}
use native.Mathlib.Nat.{lt_of_not-le}
use native.Mathlib.Omega.{arith}
use lib.ListN.{length, get_or, set, length-append, length-set, get_or-append}
use lib.Seq.{get_or_at, get_or-set_same, get_or-set_other, ext_get_or}
use Rattle.message.specs.Layout.{Entry}
use Rattle.table.specs.Table.{TableMemory, entry_at, entries_of, tabulate}

pub length_tabulate : (n : ℕ) (f : ℕ → Entry) → length (tabulate n f) ≡ n
unfolding tabulate
length_tabulate zero f = refl
length_tabulate (suc n) f = length-append (tabulate n f) (f n ∷ []) ∙ omega (arith, length_tabulate n f)

-- a value, read with any default
pub get_d_tabulate : (n : ℕ) (f : ℕ → Entry) (i : ℕ) (d : Entry) → i < n → get_or (tabulate n f) i d ≡ f i
unfolding tabulate
get_d_tabulate zero f i d h = absurd (omega arith)
get_d_tabulate (suc n) f i d h = go (dec_le (suc i) n) (get_d_tabulate n f i d)
  where
    go : Dec (suc i ≤ n) → (i < n → get_or (tabulate n f) i d ≡ f i) → get_or (tabulate n f ++ (f n ∷ [])) i d ≡ f i
    go (yes l) ih = get_or-append (tabulate n f) (f n ∷ []) d i (omega (arith, length_tabulate n f)) ∙ ih l
    go (no l) ih =
        let e : i ≡ n = omega (arith, lt_of_not-le l) in
        let ln : length (tabulate n f) ≡ i = length_tabulate n f ∙ sym e in
        get_or_at (tabulate n f) (f n) [] d i ln ∙ ap f (sym e)

pub tabulate_same : (n : ℕ) (f g : ℕ → Entry) → ((i : ℕ) → i < n → f i ≡ g i) → tabulate n f ≡ tabulate n g
unfolding tabulate
tabulate_same zero f g h = refl
tabulate_same (suc n) f g h = rw (tabulate_same n f g (λ i l. h i (omega arith)), h n (omega arith))

-- one value differs
pub tabulate_set : (n : ℕ) (f g : ℕ → Entry) (k : ℕ) → ((i : ℕ) → i < n → i ≢ k → g i ≡ f i) → tabulate n g ≡ set (tabulate n f) k (g k)
tabulate_set n f g k h =
    ext_get_or (g k) (tabulate n g) (set (tabulate n f) k (g k)) (length_tabulate n g ∙ sym (length-set (tabulate n f) k (g k) ∙ length_tabulate n f)) (λ i l.
    let b : i < n = omega (arith, length_tabulate n g) in go i b (ℕ_discrete i k))
  where
    go : (i : ℕ) → i < n → Dec (i ≡ k) → get_or (tabulate n g) i (g k) ≡ get_or (set (tabulate n f) k (g k)) i (g k)
    go i b (yes e) =
        get_d_tabulate n g i (g k) b ∙ ap g e ∙ sym (rw e (get_or-set_same (tabulate n f) k (g k) (g k) (omega (arith, length_tabulate n f))))
    go i b (no e) =
        get_d_tabulate n g i (g k) b ∙ h i b e ∙ sym (get_or-set_other (tabulate n f) k i (g k) (g k) e ∙ get_d_tabulate n f i (g k) b)

-- ---- the entries of a table

pub length_entries : (m : TableMemory) → length (entries_of m) ≡ m.count
unfolding entries_of
length_entries m = length_tabulate m.count (entry_at m.heads m.bytes)

pub entry_get : (m : TableMemory) (i : ℕ) (d : Entry) → i < m.count → get_or (entries_of m) i d ≡ entry_at m.heads m.bytes i
unfolding entries_of
entry_get m i d h = get_d_tabulate m.count (entry_at m.heads m.bytes) i d h

-- its type and number, as its head has them
pub type_get : (m : TableMemory) (i : ℕ) (d : Entry) → i < m.count → (get_or (entries_of m) i d).type ≡ (entry_at m.heads m.bytes i).type
unfolding entry_at
type_get m i d h = ap (λ (e : Entry). e.type) (entry_get m i d h)
