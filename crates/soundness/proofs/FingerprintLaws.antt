-- Laws of fingerprints, of their owners, and of names that are held before.
use Rattle.std.proofs.Common.{◌≡◌, ℕ, zero, suc, ◌+◌, ◌*◌, ◌%◌, ◌^◌, ◌<◌, ◌≤◌, Bool, true, false, not, eqb, List, length, get_or, set, sym, refl, ap, ◌∙◌, inl, inr, ⊎_elim, mul-le-mul_right, mod-lt, mul-le-mul_left, add-one, arith, get_or-set_other, get_or-set_same, below_more, ne_eqb, eqb-true}
use Rattle.std.specs.Prelude.{IsTrue, ◌↔◌}
use mathlib.Core.Logic.{◌≢◌}
use mathlib.Core.Bool.{false≢true}
use borrow.Author.Tests.{eqb-false}
use Rattle.field.specs.Choice.{pick}
use Rattle.field.proofs.EqualLaws.{bytes_equal_false, equal_bytes}
use Rattle.message.specs.Layout.{Entry}
use Rattle.table.specs.Names.{name_held, names_differ}
use Rattle.table.specs.Table.{tabulate}
use Rattle.table.proofs.SearchLaws.{held_below, absent_below, differ_held}
use Rattle.soundness.specs.Fingerprint.{fingerprints, several, weight_at, weighed, fingerprint_of, Covers, Owned}

-- ---- the number

pub weight_fits : (b k : ℕ) → b ≤ 255 → b * weight_at k < 2 ^ 16
weight_fits b k h =
    omega (arith, mul-le-mul_left b (weight_small k), mul-le-mul_right 256 h)
  where
    weight_small : (k : ℕ) → weight_at k ≤ 256
    weight_small k = omega (arith, mod-lt (k * 161) {m = 256} (omega arith))

pub weighed_next : (k : ℕ) (name : List ℕ) → (weighed k name + get_or name k 0 * weight_at k) % 2 ^ 16 ≡ weighed (k + 1) name
unfolding weighed
weighed_next k name = rw add-one

pub weighed_small : (k : ℕ) (name : List ℕ) → weighed k name < 2 ^ 16
unfolding weighed
weighed_small zero name = omega arith
weighed_small (suc k) name = mod-lt (weighed k name + get_or name k 0 * weight_at k) {m = 2 ^ 16} (omega arith)

pub fingerprint_small : (name : List ℕ) → fingerprint_of name < fingerprints
unfolding fingerprint_of
fingerprint_small name = mod-lt (weighed (length name) name) {m = 1024} (omega arith)

-- ---- owners

pub covers : (owners : List ℕ) (f : ℕ → Entry) (i : ℕ) → ((j : ℕ) → j < i → Owned owners f j) → Covers i f (get_or owners (fingerprint_of (f i).name) 0)
covers owners f i all j l e = rw (ap fingerprint_of e) at (all j l)

-- once entry i owns its fingerprint too, so do those before it
pub owned_more : (owners : List ℕ) (f : ℕ → Entry) (i : ℕ) → fingerprints ≤ length owners → ((j : ℕ) → j < i → Owned owners f j)
    → (j : ℕ) → j < i + 1
    → Owned (set owners (fingerprint_of (f i).name) (pick (eqb (get_or owners (fingerprint_of (f i).name) 0) 0) (i + 1) several)) f j
unfolding pick
owned_more owners f i room all = below_more _ i before here
  where
    at' : ℕ
    at' = fingerprint_of (f i).name

    new : ℕ
    new = pick (eqb (get_or owners at' 0) 0) (i + 1) several

    stored : get_or (set owners at' new) at' 0 ≡ new
    stored = get_or-set_same owners at' new 0 (omega (arith, fingerprint_small (f i).name))

    here : Owned (set owners at' new) f i
    here = go (eqb (get_or owners at' 0) 0) refl
      where
        go : (t : Bool) → eqb (get_or owners at' 0) 0 ≡ t → Owned (set owners at' new) f i
        go true q = inl (stored ∙ rw q)
        go false q = inr (stored ∙ rw q)

    before : (j : ℕ) → j < i → Owned (set owners at' new) f j
    before j l = go (eqb (fingerprint_of (f j).name) at') refl
      where
        taken : fingerprint_of (f j).name ≡ at' → get_or owners at' 0 ≡ 0 → ⊥
        taken e z = ⊎_elim (λ h. omega (arith, z, rw e at h)) (λ h. omega (arith, z, rw e at h)) (all j l)

        go : (t : Bool) → eqb (fingerprint_of (f j).name) at' ≡ t → Owned (set owners at' new) f j
        go true q =
            let e = eqb-true (fingerprint_of (f j).name) at' q in
            inr (rw e (stored ∙ rw (ne_eqb (get_or owners at' 0) 0 (taken e))))
        go false q = rw (get_or-set_other owners at' (fingerprint_of (f j).name) new 0 (eqb-false (fingerprint_of (f j).name) at' q)) (all j l)

-- ---- names held before

-- entry j, before entry i, has its name; or none before it has
module _ (f : ℕ → Entry) (i : ℕ) where
  pub name_met : (j : ℕ) → j < i → (f j).name ≡ (f i).name → true ≡ name_held (f i).name (tabulate i f)
  name_met j l e = sym (held_below (f i).name f i j l (equal_bytes (f j).name (f i).name e))

  pub name_new : ((j : ℕ) → j < i → (f j).name ≢ (f i).name) → false ≡ name_held (f i).name (tabulate i f)
  name_new h = sym (absent_below (f i).name f i (λ j l. bytes_equal_false (f j).name (f i).name (h j l)))

  -- by the owner of its fingerprint: none before it can have the name, or one alone can, which is looked at
  pub held_by_none : (owner : ℕ) → Covers i f owner → owner ≡ 0 → false ≡ name_held (f i).name (tabulate i f)
  held_by_none owner r e = name_new (λ j l q. ⊎_elim (λ h. omega (arith, h)) (λ h. omega (arith, h)) (r j l q))

  pub held_by_one : (owner o : ℕ) (same : Bool) → Covers i f owner → i < several → o < i → owner ≡ o + 1 → IsTrue same ↔ ((f o).name ≡ (f i).name)
      → same ≡ name_held (f i).name (tabulate i f)
  held_by_one owner o true r small l e h = name_met o l (h.0 refl)
  held_by_one owner o false r small l e h =
      name_new (λ j m p.
      let s : j ≡ o = ⊎_elim (λ h. omega (arith, h)) (λ h. absurd (omega (arith, h))) (r j m p) in
      false≢true (h.1 (rw s at p)))

-- a name that is not new: the names do not all differ
pub differ_old : (n : ℕ) (f : ℕ → Entry) (i : ℕ) → i < n → false ≡ not (name_held (f i).name (tabulate i f)) → false ≡ names_differ (tabulate n f)
differ_old n f i l h = go (name_held (f i).name (tabulate i f)) refl h
  where
    go : (held : Bool) → name_held (f i).name (tabulate i f) ≡ held → false ≡ not held → false ≡ names_differ (tabulate n f)
    go true e q = sym (differ_held n f i l e)
    go false e q = absurd (false≢true q)
