-- Laws of the search over names. A place in a list of entries is read with any default.
use mathlib.Core.Path.{◌≡◌, refl, sym, ap, ◌∙◌}
use mathlib.Core.Bool.{Bool, true, false, not, ◌&&◌, ◌||◌, and-false, or-false, or_assoc, and-eq-true_iff, true≢false}
use mathlib.Core.List.{List, [], ◌∷◌, ◌++◌}
use Prim.Native.Nat.{ℕ, zero, suc, ◌≤◌, ◌<◌}
use native.Mathlib.Nat.{not-suc-le-zero}
use native.Mathlib.Omega.{arith}
use lib.Dec.{ltb, leb-suc-suc}
use lib.ListN.{length, get_or}
use borrow.Author.Tests.{lt-ltb, le-ltb, not-true}
use Rattle.field.specs.Choice.{pick}
use Rattle.message.specs.Layout.{Entry}
use Rattle.field.specs.Octets.{bytes_equal}
use Rattle.field.proofs.ChoiceLaws.{by_test}
use Rattle.field.proofs.EqualLaws.{bytes_equal_sym, equal_bytes, bytes_equal_false}
use Rattle.table.specs.Names.{holder, name_held, names_differ}

-- ---- the first entry with a name

pub holder_found : (name : List ℕ) (es : List Entry) (d : Entry) → holder name es < length es → bytes_equal (get_or es (holder name es) d).name name ≡ true
unfolding holder pick
holder_found name [] d h = absurd (not-suc-le-zero h)
holder_found name (e ∷ es) d h = go (bytes_equal e.name name) refl h (holder_found name es d)
  where
    go : (t : Bool) → bytes_equal e.name name ≡ t → pick t 0 (suc (holder name es)) < suc (length es)
        → (holder name es < length es → bytes_equal (get_or es (holder name es) d).name name ≡ true)
        → bytes_equal (get_or (e ∷ es) (pick t 0 (suc (holder name es))) d).name name ≡ true
    go true q l ih = q
    go false q l ih = ih (omega arith)

-- none of the entries has it
pub holder_absent : (name : List ℕ) (es : List Entry) (d : Entry) → ((i : ℕ) → i < length es → bytes_equal (get_or es i d).name name ≡ false)
    → holder name es ≡ length es
unfolding holder pick
holder_absent name [] d h = refl
holder_absent name (e ∷ es) d h = rw (h 0 (omega arith)) (ap suc (holder_absent name es d (λ i l. h (suc i) (omega arith))))

-- it is past them at most
pub holder_most : (name : List ℕ) (es : List Entry) → holder name es ≤ length es
unfolding holder
holder_most name [] = omega arith
holder_most name (e ∷ es) = by_test (λ (n : ℕ). n ≤ suc (length es)) (bytes_equal e.name name) _ _ (λ _. omega arith) (λ _. omega (arith, holder_most name es))

-- it is entry id's, and none before it has it
pub holder_first : (name : List ℕ) (es : List Entry) (d : Entry) (id : ℕ) → id < length es
    → ((i : ℕ) → i < id → bytes_equal (get_or es i d).name name ≡ false) → bytes_equal (get_or es id d).name name ≡ true → holder name es ≡ id
unfolding holder pick
holder_first name [] d id l h t = absurd (not-suc-le-zero l)
holder_first name (e ∷ es) d zero l h t = rw t
holder_first name (e ∷ es) d (suc id) l h t =
    rw (h 0 (omega arith)) (ap suc (holder_first name es d id (omega arith) (λ i m. h (suc i) (omega arith)) t))

-- ---- whether an entry has a name

pub held_nil : (name : List ℕ) → name_held name [] ≡ false
unfolding name_held holder
held_nil name = refl

pub held_cons : (name : List ℕ) (e : Entry) (es : List Entry) → name_held name (e ∷ es) ≡ (bytes_equal e.name name || name_held name es)
unfolding name_held holder pick
held_cons name e es = go (bytes_equal e.name name)
  where
    go : (t : Bool) → ltb (pick t 0 (suc (holder name es))) (suc (length es)) ≡ (t || ltb (holder name es) (length es))
    go true = lt-ltb 0 (suc (length es)) (omega arith)
    go false = leb-suc-suc (suc (holder name es)) (length es)

pub held_append : (name : List ℕ) (xs ys : List Entry) → name_held name (xs ++ ys) ≡ (name_held name xs || name_held name ys)
held_append name [] ys = rw (held_nil name)
held_append name (x ∷ xs) ys =
    rw (held_cons name x (xs ++ ys), held_cons name x xs, held_append name xs ys) (sym (or_assoc (bytes_equal x.name name) (name_held name xs) (name_held name ys)))

-- one entry more at the end
pub held_last : (name : List ℕ) (es : List Entry) (e : Entry) → name_held name (es ++ (e ∷ [])) ≡ (name_held name es || bytes_equal e.name name)
held_last name es e =
    held_append name es (e ∷ []) ∙ rw (held_cons name e [], held_nil name, or-false (bytes_equal e.name name))

pub held_at : (name : List ℕ) (es : List Entry) (d : Entry) (i : ℕ) → name_held name es ≡ false → i < length es → bytes_equal (get_or es i d).name name ≡ false
held_at name [] d i h l = absurd (not-suc-le-zero l)
held_at name (e ∷ es) d i h l = go i l (or_eq_false (bytes_equal e.name name) (name_held name es) (sym (held_cons name e es) ∙ h)) (held_at name es d)
  where
    or_eq_false : (a b : Bool) → (a || b) ≡ false → (a ≡ false) × (b ≡ false)
    or_eq_false true b q = absurd (true≢false q)
    or_eq_false false b q = (refl, q)

    go : (i : ℕ) → i < suc (length es) → (bytes_equal e.name name ≡ false) × (name_held name es ≡ false)
        → ((i : ℕ) → name_held name es ≡ false → i < length es → bytes_equal (get_or es i d).name name ≡ false)
        → bytes_equal (get_or (e ∷ es) i d).name name ≡ false
    go zero l q ih = q.0
    go (suc i) l q ih = ih i q.1 (omega arith)

pub held_absent : (name : List ℕ) (es : List Entry) (d : Entry) → ((i : ℕ) → i < length es → bytes_equal (get_or es i d).name name ≡ false)
    → name_held name es ≡ false
unfolding name_held
held_absent name es d h = le-ltb (holder name es) (length es) (omega (arith, holder_absent name es d h))

-- ---- names that all differ

pub differ_last : (es : List Entry) (e : Entry) → names_differ (es ++ (e ∷ [])) ≡ (names_differ es && not (name_held e.name es))
unfolding names_differ
differ_last [] e = rw (held_nil e.name)
differ_last (x ∷ es) e =
    rw (held_last x.name es e, differ_last es e, held_cons e.name x es, bytes_equal_sym x.name e.name)
    (swap (name_held x.name es) (bytes_equal e.name x.name) (names_differ es) (name_held e.name es))
  where
    swap : (h b d g : Bool) → (not (h || b) && (d && not g)) ≡ (not h && d && not (b || g))
    swap true b d g = refl
    swap false true d g = sym (and-false d)
    swap false false d g = refl

-- any two entries of such a list have different names
pub differ_at : (es : List Entry) (d : Entry) → names_differ es ≡ true → (i j : ℕ) → i < j → j < length es → (get_or es i d).name ≡ (get_or es j d).name → ⊥
unfolding names_differ
differ_at [] d h i j l m q = absurd (not-suc-le-zero m)
differ_at (e ∷ es) d h i zero l m q = absurd (not-suc-le-zero l)
differ_at (e ∷ es) d h zero (suc j) l m q =
    let new = not-true (name_held e.name es) ((and-eq-true_iff (not (name_held e.name es)) (names_differ es)).0 h).0 in
    true≢false (sym (equal_bytes (get_or es j d).name e.name (sym q)) ∙ held_at e.name es d j new (omega arith))
differ_at (e ∷ es) d h (suc i) (suc j) l m q =
    differ_at es d ((and-eq-true_iff (not (name_held e.name es)) (names_differ es)).0 h).1 i j (omega arith) (omega arith) q

-- and the way back
pub at_differ : (es : List Entry) (d : Entry) → ((i j : ℕ) → i < j → j < length es → (get_or es i d).name ≡ (get_or es j d).name → ⊥) → names_differ es ≡ true
unfolding names_differ
at_differ [] d h = refl
at_differ (e ∷ es) d h =
    let new = held_absent e.name es d (λ j l. bytes_equal_false (get_or es j d).name e.name (λ q. h 0 (suc j) (omega arith) (omega arith) (sym q))) in
    rw new (at_differ es d (λ i j l m. h (suc i) (suc j) (omega arith) (omega arith)))
