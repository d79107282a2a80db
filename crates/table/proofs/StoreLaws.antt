-- What storing does to the entries that a table holds, and what it leaves unchanged.
use mathlib.Core.Path.{◌≡◌, ap₂, ◌∙◌}
use mathlib.Core.Logic.{◌≢◌, inl, inr}
use mathlib.Core.List.{List, [], ◌∷◌, ◌++◌}
use Prim.Native.Nat.{ℕ, ◌+◌, ◌*◌, ◌≤◌, ◌<◌}
use native.Mathlib.Decide.{ℕ_discrete}
use native.Mathlib.Nat.{add-zero, add_assoc}
use native.Mathlib.Numerals.{add-one}
use native.Mathlib.Omega.{arith}
use lib.ListN.{length, take, drop, get_or, set, length-set, length-take, length-drop}
use lib.Seq.{drop_at, take-append_seam, length-take-le, get_or-take, get_or-drop, get_or-set_same, get_or-set_other, ext_get_or}
use Rattle.field.specs.Octets.{overwrite_at}
use Rattle.field.proofs.OverwriteLaws.{length_overwrite, overwrite_eq, overwrite_outside, overwrite_inside}
use Rattle.message.specs.Layout.{Entry, max_name_length}
use Rattle.value.specs.Value.{max_value_size}
use Rattle.table.specs.Table.{entry_size, head_size, name_length_field, value_length_field, type_field, number_field, TableMemory, name_start, value_start, Holds, head_field, part, entry_at, entry_of, with_update}
use Rattle.table.specs.Table.{tabulate, entries_of, default_entry, heads_with_entry, bytes_with_entry, heads_with_value, bytes_with_value, store_entry, store_value}
use Rattle.table.specs.Stored.{Within, SameBut, ValueStored, EntryStored}
use Rattle.table.proofs.TabulateLaws.{get_d_tabulate, tabulate_same, tabulate_set}

-- ---- entries as a list

-- entry i with another number and value
unfoldable pub with_number_and_value : List Entry → ℕ → ℕ → List ℕ → List Entry
with_number_and_value es i number value =
    set es i (with_update (get_or es i default_entry) number value)

-- ---- parts of memory

part_stored : (xs : List ℕ) (at : ℕ) (ys : List ℕ) → at + length ys ≤ length xs → part at (length ys) (overwrite_at xs at ys) ≡ ys
part_stored xs at ys fits =
    rw (overwrite_eq xs at ys fits, drop_at (take at xs) (ys ++ drop (at + length ys) xs) at (length-take-le at xs (omega arith)))
    (take-append_seam ys (drop (at + length ys) xs))

-- the same bytes there make the same part
same_part : (xs ys : List ℕ) (from n : ℕ) → length ys ≡ length xs → ((p : ℕ) → from ≤ p → p < from + n → get_or ys p 0 ≡ get_or xs p 0)
    → part from n ys ≡ part from n xs
same_part xs ys from n e h =
    ext_get_or 0 (part from n ys) (part from n xs) (simp (length-take, length-drop, e)) (λ k l.
    let b : k < n = omega (arith, simp (length-take, length-drop) at l) in
    rw (get_or-take n (drop from ys) k 0 b, get_or-take n (drop from xs) k 0 b, get_or-drop from ys k 0, get_or-drop from xs k 0)
    (h (from + k) (omega arith) (omega arith)))

-- a name is kept where its entry's value is stored
name_kept : (xs : List ℕ) (i n : ℕ) (v : List ℕ) → n ≤ max_name_length → part (name_start i) n (overwrite_at xs (value_start i) v) ≡ part (name_start i) n xs
name_kept xs i n v h =
    same_part xs (overwrite_at xs (value_start i) v) (name_start i) n (length_overwrite xs (value_start i) v) (λ p a b.
    overwrite_outside xs (value_start i) v p (λ k l. omega arith))

-- ---- memory in which one entry is stored

-- memory for limit entries, and lengths that fit
pub record Fit (limit : ℕ) (m : TableMemory) : Type 0 where
  pub holds : Holds limit m.heads m.bytes
  pub names_fit : (i : ℕ) → i < m.count → head_field m.heads i name_length_field ≤ max_name_length
  pub values_fit : (i : ℕ) → i < m.count → head_field m.heads i value_length_field ≤ max_value_size

-- nothing differs but the head and the bytes of entry i
abbrev SameButEntry : (i : ℕ) (m m' : TableMemory) → Type 0
SameButEntry i = SameBut (Within (head_size * i) head_size) (Within (name_start i) entry_size)

entry_path : (a b : Entry) → a.name ≡ b.name → a.type ≡ b.type → a.number ≡ b.number → a.value ≡ b.value → a ≡ b
entry_path a b p q r s = λ i. record { name = p i; type = q i; number = r i; value = s i }

module _ {limit : ℕ} {m : TableMemory} (f : Fit limit m) (m' : TableMemory) (i : ℕ) (b : SameButEntry i m m') where
  head_kept : (k j : ℕ) → k ≢ i → j < head_size → head_field m'.heads k j ≡ head_field m.heads k j
  head_kept k j ne h = b.heads_kept (head_size * k + j) (λ w. omega (arith, w.0, w.1))

  other_entry : (k : ℕ) → k < m.count → k ≢ i → entry_of m' k ≡ entry_of m k
  unfolding entry_at
  other_entry k l ne =
      entry_path (entry_of m' k) (entry_of m k)
      (rw (head_kept k name_length_field ne (omega arith))
      (kept (name_start k) (head_field m.heads k name_length_field) (omega arith) (omega (arith, f.names_fit k l))))
      (head_kept k type_field ne (omega arith))
      (head_kept k number_field ne (omega arith))
      (rw (head_kept k value_length_field ne (omega arith))
      (kept (value_start k) (head_field m.heads k value_length_field) (omega arith) (omega (arith, f.values_fit k l))))
    where
      kept : (from n : ℕ) → name_start k ≤ from → from + n ≤ name_start k + entry_size → part from n m'.bytes ≡ part from n m.bytes
      kept from n low high = same_part m.bytes m'.bytes from n b.same_bytes (λ p g h. b.bytes_kept p (λ w. omega (arith, w.0, w.1)))

  fit_same_but : ((k : ℕ) → k < m'.count → k ≢ i → k < m.count) → head_field m'.heads i name_length_field ≤ max_name_length
      → head_field m'.heads i value_length_field ≤ max_value_size → Fit limit m'
  fit_same_but old n v =
      record {
        holds = record { heads_hold = omega arith; bytes_hold = omega arith };
        names_fit = λ k l. go name_length_field max_name_length (omega arith) n f.names_fit k l (ℕ_discrete k i);
        values_fit = λ k l. go value_length_field max_value_size (omega arith) v f.values_fit k l (ℕ_discrete k i);
      }
    where
      go : (j most : ℕ) → j < head_size → head_field m'.heads i j ≤ most → ((k : ℕ) → k < m.count → head_field m.heads k j ≤ most)
          → (k : ℕ) → k < m'.count → Dec (k ≡ i) → head_field m'.heads k j ≤ most
      go j most w own all k l (yes e) = rw e own
      go j most w own all k l (no ne) = rw (head_kept k j ne w) (all k (old k l ne))

-- ---- what storing leaves unchanged

kept_outside : (xs : List ℕ) (at : ℕ) (ys : List ℕ) (p : ℕ) → ¬ Within at (length ys) p → get_or (overwrite_at xs at ys) p 0 ≡ get_or xs p 0
kept_outside xs at ys p h = overwrite_outside xs at ys p (λ k l e. h (omega arith, omega arith))

pub value_stored : ValueStored
unfolding store_value heads_with_value bytes_with_value
value_stored m i q v =
    record {
      same_heads = simp length-set;
      same_bytes = length_overwrite m.bytes (value_start i) v;
      heads_kept = λ p h.
          get_or-set_other (set m.heads (4 * i + 1) (length v)) (4 * i + 3) p q 0 (λ e. h (inr e))
          ∙ get_or-set_other m.heads (4 * i + 1) p (length v) 0 (λ e. h (inl e));
      bytes_kept = kept_outside m.bytes (value_start i) v;
    }

-- the four numbers of an entry's head
head_of : Entry → List ℕ
head_of e = length e.name ∷ length e.value ∷ e.type ∷ e.number ∷ []

new_heads_eq : (m : TableMemory) (e : Entry) → (store_entry m e).heads ≡ overwrite_at m.heads (head_size * m.count) (head_of e)
unfolding store_entry heads_with_entry overwrite_at head_of
new_heads_eq m e = simp (add-zero, add_assoc)

new_heads_kept : (m : TableMemory) (e : Entry) (p : ℕ) → ¬ Within (head_size * m.count) head_size p → get_or (store_entry m e).heads p 0 ≡ get_or m.heads p 0
unfolding head_of
new_heads_kept m e p h = rw (new_heads_eq m e) (kept_outside m.heads (head_size * m.count) (head_of e) p h)

pub entry_stored : EntryStored
unfolding store_entry heads_with_entry bytes_with_entry
entry_stored m e =
    record {
      same_heads = simp length-set;
      same_bytes = simp length_overwrite;
      heads_kept = new_heads_kept m e;
      bytes_kept = λ p h.
          kept_outside (overwrite_at m.bytes (name_start m.count) e.name) (value_start m.count) e.value p (λ w. h (inr w))
          ∙ kept_outside m.bytes (name_start m.count) e.name p (λ w. h (inl w));
    }

-- more may differ
widen : {numbers numbers' octets octets' : ℕ → Type 0} {m m' : TableMemory} → ((p : ℕ) → numbers p → numbers' p) → ((p : ℕ) → octets p → octets' p)
    → SameBut numbers octets m m' → SameBut numbers' octets' m m'
widen f g b =
    record {
      same_heads = b.same_heads;
      same_bytes = b.same_bytes;
      heads_kept = λ p h. b.heads_kept p (λ w. h (f p w));
      bytes_kept = λ p h. b.bytes_kept p (λ w. h (g p w));
    }

-- ---- the entries that a table holds afterwards

module _ {limit : ℕ} {m : TableMemory} (f : Fit limit m) where
  module _ (i q : ℕ) (v : List ℕ) (li : i < m.count) (lc : m.count ≤ limit) (lv : length v ≤ max_value_size) where
    value_same_but : SameButEntry i m (store_value m i q v)
    value_same_but =
        widen (λ p w. elim w [ inl e ↦ (omega arith, omega arith) | inr e ↦ (omega arith, omega arith) ])
        (λ p w. (omega (arith, w.0), omega (arith, w.1))) (value_stored m i q v)

    -- the name's length and the type
    value_same_head : (j : ℕ) → j ≢ value_length_field → j ≢ number_field → head_field (store_value m i q v).heads i j ≡ head_field m.heads i j
    value_same_head j a b =
        (value_stored m i q v).heads_kept (head_size * i + j) (λ w. elim w [ inl e ↦ a (omega arith) | inr e ↦ b (omega arith) ])

    value_length_lem : head_field (store_value m i q v).heads i value_length_field ≡ length v
    unfolding store_value heads_with_value
    value_length_lem =
        get_or-set_other (set m.heads (4 * i + 1) (length v)) (4 * i + 3) (4 * i + 1) q 0 (omega arith)
        ∙ get_or-set_same m.heads (4 * i + 1) (length v) 0 (omega arith)

    value_number : head_field (store_value m i q v).heads i number_field ≡ q
    unfolding store_value heads_with_value
    value_number = get_or-set_same (set m.heads (4 * i + 1) (length v)) (4 * i + 3) q 0 (simp length-set (omega arith))

    value_name : part (name_start i) (head_field m.heads i name_length_field) (store_value m i q v).bytes ≡ part (name_start i) (head_field m.heads i name_length_field) m.bytes
    unfolding store_value bytes_with_value
    value_name = name_kept m.bytes i (head_field m.heads i name_length_field) v (f.names_fit i li)

    value_part : part (value_start i) (length v) (store_value m i q v).bytes ≡ v
    unfolding store_value bytes_with_value
    value_part = part_stored m.bytes (value_start i) v (omega arith)

    value_entry : entry_of (store_value m i q v) i ≡ with_update (entry_of m i) q v
    unfolding entry_at
    value_entry =
        entry_path (entry_of (store_value m i q v) i) (with_update (entry_of m i) q v)
        (rw (value_same_head name_length_field (omega arith) (omega arith)) value_name)
        (value_same_head type_field (omega arith) (omega arith))
        value_number
        (rw value_length_lem value_part)

    pub entries_value : entries_of (store_value m i q v) ≡ with_number_and_value (entries_of m) i q v
    unfolding entries_of store_value with_number_and_value
    entries_value =
        tabulate_set m.count (entry_of m) (entry_of (store_value m i q v)) i (other_entry f (store_value m i q v) i value_same_but)
        ∙ rw (value_entry, get_d_tabulate m.count (entry_of m) i default_entry li)

    pub fit_value : Fit limit (store_value m i q v)
    unfolding store_value
    fit_value =
        fit_same_but f (store_value m i q v) i value_same_but (λ k l ne. l)
        (rw (value_same_head name_length_field (omega arith) (omega arith)) (f.names_fit i li))
        (rw value_length_lem lv)

  module _ (e : Entry) (lc : m.count < limit) (ln : length e.name ≤ max_name_length) (lv : length e.value ≤ max_value_size) where
    new_same_but : SameButEntry m.count m (store_entry m e)
    new_same_but =
        widen (λ p w. w) (λ p w. elim w [
          | inl n ↦ (omega (arith, n.0), omega (arith, n.1))
          | inr v ↦ (omega (arith, v.0), omega (arith, v.1))
        ]) (entry_stored m e)

    new_head : (j : ℕ) → j < head_size → head_field (store_entry m e).heads m.count j ≡ get_or (head_of e) j 0
    unfolding head_of
    new_head j h = rw (new_heads_eq m e) (overwrite_inside m.heads (head_size * m.count) (head_of e) j (omega arith) h)

    new_name : part (name_start m.count) (length e.name) (store_entry m e).bytes ≡ e.name
    unfolding store_entry bytes_with_entry
    new_name =
        name_kept (overwrite_at m.bytes (name_start m.count) e.name) m.count (length e.name) e.value ln
        ∙ part_stored m.bytes (name_start m.count) e.name (omega arith)

    new_value : part (value_start m.count) (length e.value) (store_entry m e).bytes ≡ e.value
    unfolding store_entry bytes_with_entry
    new_value =
        part_stored (overwrite_at m.bytes (name_start m.count) e.name) (value_start m.count) e.value
        (simp length_overwrite (omega arith))

    new_entry_lem : entry_of (store_entry m e) m.count ≡ e
    unfolding entry_at head_of
    new_entry_lem =
        entry_path (entry_of (store_entry m e) m.count) e
        (rw (new_head name_length_field (omega arith)) new_name)
        (new_head type_field (omega arith))
        (new_head number_field (omega arith))
        (rw (new_head value_length_field (omega arith)) new_value)

    pub entries_new : entries_of (store_entry m e) ≡ entries_of m ++ (e ∷ [])
    unfolding entries_of store_entry tabulate
    entries_new =
        rw (add-one m.count) (ap₂ (λ (l : List Entry) (x : Entry). l ++ (x ∷ []))
        (tabulate_same m.count (entry_of (store_entry m e)) (entry_of m) (λ k l.
        other_entry f (store_entry m e) m.count new_same_but k l (omega arith)))
        new_entry_lem)

    pub fit_new : Fit limit (store_entry m e)
    unfolding store_entry head_of
    fit_new =
        fit_same_but f (store_entry m e) m.count new_same_but (λ k l ne. omega arith)
        (rw (new_head name_length_field (omega arith)) ln) (rw (new_head value_length_field (omega arith)) lv)
