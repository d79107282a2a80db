-- Entries stored one behind the other.
use mathlib.Core.Path.{◌≡◌, refl, sym, ap, ◌∙◌}
use mathlib.Core.Bool.{true}
use mathlib.Core.Logic.{⊎_elim}
use mathlib.Core.List.{List, [], ◌∷◌, ◌++◌, append_assoc, append-nil}
use Prim.Native.Nat.{ℕ, ◌+◌, ◌*◌, ◌≤◌, ◌<◌}
use native.Mathlib.Omega.{arith}
use lib.ListN.{length, length-append}
use lib.Seq.{get_or_at}
use Rattle.message.specs.Layout.{Entry}
use Rattle.table.specs.Table.{TableMemory, head_size, name_start, value_start, entries_of, default_entry, store_entry}
use Rattle.table.specs.Stored.{Within, SameBut}
use Rattle.table.proofs.StoreLaws.{entry_stored}
use Rattle.soundness.specs.Sound.{sound_table}
use Rattle.soundness.proofs.StoredLaws.{stored_new, new_sound}
use Rattle.saved.specs.Calls.{store_all}
use Rattle.saved.specs.Loaded.{Covered}
use Rattle.saved.proofs.ReadingLaws.{Fresh}

-- a sound table stays sound, and holds them behind its own
pub stored_all : (limit : ℕ) (es : List Entry) (m : TableMemory) → sound_table limit m ≡ true → Fresh (entries_of m) es → length (entries_of m) + length es ≤ limit
    → (sound_table limit (store_all m es) ≡ true) × (entries_of (store_all m es) ≡ entries_of m ++ es)
unfolding store_all
stored_all limit [] m s f l = (s, sym (append-nil (entries_of m)))
stored_all limit (e ∷ es) m s (Fresh.more w h f) l =
    let room : length (entries_of m) < limit = omega arith in
    let new = stored_new limit m s e w h room in
    let more : Fresh (entries_of (store_entry m e)) es = rw new f in
    let fits : length (entries_of (store_entry m e)) + length es ≤ limit = rw new (omega (arith, length-append (entries_of m) (e ∷ []))) in
    let all = stored_all limit es (store_entry m e) (new_sound limit m s e w h room) more fits in
    (all.0, all.1 ∙ ap (λ (l : List Entry). l ++ es) new ∙ append_assoc (entries_of m) (e ∷ []) es)

pub count_all : (es : List Entry) (m : TableMemory) → (store_all m es).count ≡ m.count + length es
unfolding store_all store_entry
count_all [] m = omega arith
count_all (e ∷ es) m = count_all es (store_entry m e) ∙ omega arith

-- ---- what stays

-- place p is covered by one of these entries, stored from an ID on
data CoveredFrom : (id : ℕ) → List Entry → (p : ℕ) → Type 0 where
  name_here : {id p : ℕ} {e : Entry} {es : List Entry} → Within (name_start id) (length e.name) p → CoveredFrom id (e ∷ es) p
  value_here : {id p : ℕ} {e : Entry} {es : List Entry} → Within (value_start id) (length e.value) p → CoveredFrom id (e ∷ es) p
  later : {id p : ℕ} {e : Entry} {es : List Entry} → CoveredFrom (id + 1) es p → CoveredFrom id (e ∷ es) p

kept_all : (es : List Entry) (m : TableMemory) → SameBut (λ p. p < head_size * (m.count + length es)) (CoveredFrom m.count es) m (store_all m es)
unfolding store_all
kept_all [] m = record { same_heads = refl; same_bytes = refl; heads_kept = λ p h. refl; bytes_kept = λ p h. refl }
kept_all (e ∷ es) m =
    let one = entry_stored m e in
    let next = store_entry m e in
    let others = kept_all es next in
    let counted : next.count ≡ m.count + 1 = unfold store_entry in refl in
    record {
      same_heads = others.same_heads ∙ one.same_heads;
      same_bytes = others.same_bytes ∙ one.same_bytes;
      heads_kept = λ p h. others.heads_kept p (λ l. h (omega (arith, l, counted))) ∙ one.heads_kept p (λ w. h (omega (arith, w.1)));
      bytes_kept = λ p h.
          others.bytes_kept p (λ c. h (CoveredFrom.later (rw counted at c)))
          ∙ one.bytes_kept p (λ w. ⊎_elim (λ n. h (CoveredFrom.name_here n)) (λ v. h (CoveredFrom.value_here v)) w);
    }

covered_of : (xs es : List Entry) (p : ℕ) → CoveredFrom (length xs) es p → Covered (xs ++ es) p
covered_of xs [] p c = elim c [ ]
covered_of xs (e ∷ es) p (CoveredFrom.name_here w) =
    Covered.by_name (length xs) (omega (arith, length-append xs (e ∷ es))) (rw (get_or_at xs e es default_entry (length xs) refl) w)
covered_of xs (e ∷ es) p (CoveredFrom.value_here w) =
    Covered.by_value (length xs) (omega (arith, length-append xs (e ∷ es))) (rw (get_or_at xs e es default_entry (length xs) refl) w)
covered_of xs (e ∷ es) p (CoveredFrom.later c) =
    let long : length xs + 1 ≡ length (xs ++ (e ∷ [])) = omega (arith, length-append xs (e ∷ [])) in
    rw (append_assoc xs (e ∷ []) es) at (covered_of (xs ++ (e ∷ [])) es p (rw long at c))

-- from an empty table on
pub kept_from_empty : (es : List Entry) (m : TableMemory) → m.count ≡ 0 → SameBut (λ p. p < head_size * length es) (Covered es) m (store_all m es)
kept_from_empty es m empty =
    let all = kept_all es m in
    record {
      same_heads = all.same_heads;
      same_bytes = all.same_bytes;
      heads_kept = λ p h. all.heads_kept p (λ l. h (omega (arith, l, empty)));
      bytes_kept = λ p h. all.bytes_kept p (λ c. h (covered_of [] es p (rw empty at c)));
    }
