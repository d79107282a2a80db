-- Laws of the records of a saved form, by their places.
use Rattle.std.specs.Prelude.{Err, Ok}
use mathlib.Core.Path.{◌≡◌, refl, sym, ap, ◌∙◌}
use mathlib.Core.Bool.{true, false, not}
use mathlib.Core.List.{List, [], ◌∷◌, ◌++◌}
use Prim.Native.Nat.{ℕ, zero, suc, ◌+◌, ◌-◌, ◌^◌, ◌≤◌, ◌<◌}
use native.Mathlib.Nat.{add-zero}
use native.Mathlib.Numerals.{add-one}
use native.Mathlib.Omega.{arith}
use lib.ListN.{length, take, drop, length-take, length-drop}
use lib.Seq.{drop-drop}
use borrow.Author.Count.{below_more}
use borrow.Author.Tests.{le-leb, lt-leb}
use Rattle.std.proofs.lemmas.Bool.{not-false, not-true}
use Rattle.field.specs.Answer.{too_long, name_taken}
use Rattle.field.specs.Choice.{pick}
use Rattle.field.specs.Field.{fault_at, fault_of, moved_by, and_then, Parsed}
use Rattle.field.specs.declared.Fault.{Fault}
use Rattle.field.proofs.ChoiceLaws.{by_test}
use Rattle.field.proofs.OctetsLaws.{rest_all}
use Rattle.value.specs.Value.{max_value_size}
use Rattle.message.specs.Layout.{Entry, max_name_length}
use Rattle.table.specs.Names.{name_held}
use Rattle.table.specs.Table.{tabulate, max_entries}
use Rattle.table.proofs.TabulateLaws.{length_tabulate}
use Rattle.saved.specs.Form.{count_kind, name_place, value_place, count_record_size, entry_record_size, saved_size}
use Rattle.saved.specs.Reading.{Reading, name_length_in, value_length_in, record_entry, parse_record, count_in, parse_count, read_records, read_saved}
use Rattle.saved.proofs.RecordLaws.{opening_facts, RecordIs, record_is}
use Rattle.load.specs.Records.{saved_entry, Storable, RecordAt, RecordsBelow, outcome}

-- ---- a record at a place

-- the records that are there end within the bytes
pub reached : (i : ℕ) (s : List ℕ) → count_record_size ≤ length s → RecordsBelow i s → saved_size i ≤ length s
reached zero s h r = h
reached (suc i) s h r = omega (arith, (r i (omega arith)).whole, length-drop (saved_size i) s)

-- a record's name and value are no longer than they may be
pub name_small : (s : List ℕ) → Storable s → length (record_entry s).name ≤ max_name_length
unfolding record_entry
name_small s r = omega (arith, r.name_small, length-take (name_length_in s) (drop name_place s))

pub value_small : (s : List ℕ) → Storable s → length (record_entry s).value ≤ max_value_size
unfolding record_entry
value_small s r = omega (arith, r.value_small, length-take (value_length_in s) (drop value_place s))

-- ---- a record that was read

taken_storable : (s : List ℕ) (n : ℕ) → parse_record s ≡ Ok n → Storable s × (n ≡ entry_record_size)
taken_storable s n e = go n (rw e at (record_is s))
  where
    go : (m : ℕ) → RecordIs s (Ok m) → Storable s × (m ≡ entry_record_size)
    go m (RecordIs.taken f g) = (record { whole = g.whole; name_small = f.name_small; value_small = g.value_small }, refl)

place_in_record : (s : List ℕ) → (fault_of (parse_record s)).place ≤ entry_record_size
place_in_record s = go (parse_record s) (record_is s)
  where
    go : (r : Parsed) → RecordIs s r → (fault_of r).place ≤ entry_record_size
    go (Err fault) (RecordIs.refused h l) = l
    go (Ok n) (RecordIs.taken f g) = omega arith

abbrev size_of : Parsed → ℕ
size_of (Err fault) = 0
size_of (Ok n) = n + 1

-- one record more
module _ (es : List Entry) (p : ℕ) (s : List ℕ) where
  records_stop : (k : ℕ) (fault : Fault) → 0 < k → parse_record s ≡ Err fault → moved_by p (Err fault) ≡ outcome (read_records k es p s)
  unfolding read_records
  records_stop zero fault h e = absurd (omega arith)
  records_stop (suc k) fault h e = rw e

  records_held : (k n : ℕ) → 0 < k → parse_record s ≡ Ok n → name_held (record_entry s).name es ≡ true → Err (fault_at name_taken p) ≡ outcome (read_records k es p s)
  unfolding read_records pick
  records_held zero n h e t = absurd (omega arith)
  records_held (suc k) n h e t = rw (e, t)

  records_next : (k n : ℕ) → 0 < k → parse_record s ≡ Ok n → name_held (record_entry s).name es ≡ false
      → read_records k es p s ≡ read_records (k - 1) (es ++ (record_entry s ∷ [])) (p + n) (drop n s)
  unfolding read_records pick
  records_next zero n h e t = absurd (omega arith)
  records_next (suc k) n h e t = let j : suc k - 1 ≡ k = omega arith in rw (e, t, j)

-- ---- the loop that reads the records

-- what is left of them is read as they all are
abbrev pub Left : (s : List ℕ) (count i : ℕ) → Type 0
Left s count i =
    read_records (count - i) (tabulate i (saved_entry s)) (saved_size i) (drop (saved_size i) s) ≡ read_records count [] count_record_size (drop count_record_size s)

pub left_all : (s : List ℕ) (count : ℕ) → Left s count 0
unfolding tabulate
left_all s count = let e : count - 0 ≡ count = omega arith in rw e

-- record i, as it is read at its place
abbrev pub read_at : (s : List ℕ) (i : ℕ) → Parsed
read_at s i = moved_by (saved_size i) (parse_record (drop (saved_size i) s))

pub place_small : (s : List ℕ) (i at : ℕ) → at ≡ saved_size i → i < max_entries → at + (fault_of (parse_record (take (length s - at) (drop at s)))).place < 2 ^ 64
place_small s i at e l = omega (arith, e, l, place_in_record (take (length s - at) (drop at s)))

pub looked : (s : List ℕ) (i at : ℕ) (one moved : Parsed) → at ≡ saved_size i → one ≡ parse_record (take (length s - at) (drop at s)) → moved ≡ moved_by at one → moved ≡ read_at s i
looked s i at one moved e h g = g ∙ ap (moved_by at) (h ∙ ap parse_record (rest_all at s)) ∙ ap (λ (k : ℕ). moved_by k (parse_record (drop k s))) e

module _ (s : List ℕ) (count i : ℕ) (below : i < count) (left : Left s count i) where
  pub turn_stop : (fault : Fault) → read_at s i ≡ Err fault → Err fault ≡ outcome (read_records count [] count_record_size (drop count_record_size s))
  turn_stop fault e = go (parse_record (drop (saved_size i) s)) refl e
    where
      go : (p : Parsed) → parse_record (drop (saved_size i) s) ≡ p → moved_by (saved_size i) p ≡ Err fault
          → Err fault ≡ outcome (read_records count [] count_record_size (drop count_record_size s))
      go (Err f) q h =
          sym h ∙ records_stop (tabulate i (saved_entry s)) (saved_size i) (drop (saved_size i) s) (count - i) f (omega (arith, below)) q ∙ ap outcome left
      go (Ok n) q h = absurd (omega (arith, ap size_of h))

  module _ (n : ℕ) (e : read_at s i ≡ Ok n) where
    parsed : parse_record (drop (saved_size i) s) ≡ Ok n
    parsed = go (parse_record (drop (saved_size i) s)) e
      where
        go : (p : Parsed) → moved_by (saved_size i) p ≡ Ok n → p ≡ Ok n
        go (Err f) h = absurd (omega (arith, ap size_of h))
        go (Ok m) h = h

    pub turn_records : RecordsBelow i s → RecordsBelow (i + 1) s
    turn_records all = below_more (λ (k : ℕ). Storable (drop (saved_size k) s)) i all (taken_storable (drop (saved_size i) s) n parsed).0

    -- so the names of it and of those before it can be looked at
    pub turn_there : count ≤ max_entries → RecordsBelow i s → (j : ℕ) → j ≤ i → RecordAt j s
    turn_there few all j l = (omega (arith, below, few), turn_records all j (omega arith))

    pub turn_held : false ≡ not (name_held (saved_entry s i).name (tabulate i (saved_entry s)))
        → Err (fault_at name_taken (saved_size i)) ≡ outcome (read_records count [] count_record_size (drop count_record_size s))
    unfolding saved_entry
    turn_held h =
        records_held (tabulate i (saved_entry s)) (saved_size i) (drop (saved_size i) s) (count - i) n (omega (arith, below)) parsed (not-false _ (sym h)) ∙ ap outcome left

    pub turn_next : true ≡ not (name_held (saved_entry s i).name (tabulate i (saved_entry s))) → Left s count (i + 1)
    unfolding tabulate saved_entry
    turn_next h =
        let next = records_next (tabulate i (saved_entry s)) (saved_size i) (drop (saved_size i) s) (count - i) n (omega (arith, below)) parsed (not-true _ (sym h)) in
        let size : n ≡ entry_record_size = (taken_storable (drop (saved_size i) s) n parsed).1 in
        let place : saved_size i + n ≡ saved_size (i + 1) = omega (arith, size) in
        let k : count - i - 1 ≡ count - (i + 1) = omega (arith, below) in
        let step = rw (k, drop-drop n (saved_size i) s, place) at next in
        let more : tabulate (i + 1) (saved_entry s) ≡ tabulate i (saved_entry s) ++ (saved_entry s i ∷ []) = rw add-one in
        rw more (sym step ∙ left)

-- its end: bytes are left, or none
module _ (s : List ℕ) (count end : ℕ) (here : end ≡ saved_size count) (left : Left s count count) where
  last : read_records 0 (tabulate count (saved_entry s)) end (drop end s) ≡ read_records count [] count_record_size (drop count_record_size s)
  last = let k : count - count ≡ 0 = omega arith in rw here (rw k at left)

  pub end_left : end < length s → Err (fault_at too_long end) ≡ outcome (read_records count [] count_record_size (drop count_record_size s))
  end_left h = stop (drop end s) (omega (arith, length-drop end s)) ∙ ap outcome last
    where
      stop : (t : List ℕ) → 0 < length t → Err (fault_at too_long end) ≡ outcome (read_records 0 (tabulate count (saved_entry s)) end t)
      stop t h = unfold read_records in unfold pick in rw (lt-leb (length t) 0 h)

  pub end_taken : length s ≤ end → Ok count ≡ outcome (read_records count [] count_record_size (drop count_record_size s))
  end_taken h = rw (length_tabulate count (saved_entry s)) at (stop (drop end s) (omega (arith, length-drop end s)) ∙ ap outcome last)
    where
      stop : (t : List ℕ) → length t ≤ 0 → Ok (length (tabulate count (saved_entry s))) ≡ outcome (read_records 0 (tabulate count (saved_entry s)) end t)
      stop t h = unfold read_records in unfold pick in rw (le-leb (length t) 0 h)

-- ---- what is read, by places

data Placed (s : List ℕ) : ℕ → Reading → Type 0 where
  rejected : {total : ℕ} {fault : Fault} → Placed s total (Err fault)
  placed : {total : ℕ} {es : List Entry} → es ≡ tabulate total (saved_entry s) → RecordsBelow total s → Placed s total (Ok es)

all_placed : (k i at : ℕ) (s : List ℕ) → at ≡ saved_size i → RecordsBelow i s → Placed s (i + k) (read_records k (tabulate i (saved_entry s)) at (drop at s))
unfolding read_records
all_placed zero i at s here r = rw (add-zero i) (by_test (Placed s i) _ _ _ (λ _. Placed.placed refl r) (λ _. Placed.rejected))
all_placed (suc k) i at s here r = go (parse_record (drop at s)) refl (λ n e q. all_placed k (i + 1) (at + n) s e q)
  where
    next : (n : ℕ) → parse_record (drop at s) ≡ Ok n
        → ((e : at + n ≡ saved_size (i + 1)) → RecordsBelow (i + 1) s → Placed s (i + 1 + k) (read_records k (tabulate (i + 1) (saved_entry s)) (at + n) (drop (at + n) s)))
        → Placed s (i + suc k) (read_records k (tabulate i (saved_entry s) ++ (record_entry (drop at s) ∷ [])) (at + n) (drop n (drop at s)))
    next n q ih =
        let t : Storable (drop (saved_size i) s) × (n ≡ entry_record_size) = rw here at (taken_storable (drop at s) n q) in
        let here' : at + n ≡ saved_size (i + 1) = omega (arith, t.1, here) in
        let total : i + suc k ≡ i + 1 + k = omega arith in
        let entry : record_entry (drop at s) ≡ saved_entry s i = unfold saved_entry in ap (λ (j : ℕ). record_entry (drop j s)) here in
        let more : tabulate (i + 1) (saved_entry s) ≡ tabulate i (saved_entry s) ++ (saved_entry s i ∷ []) = unfold tabulate in rw add-one in
        rw (total, entry, ← more, drop-drop n at s) (ih here' (below_more (λ (j : ℕ). Storable (drop (saved_size j) s)) i r t.0))

    go : (p : Parsed) → parse_record (drop at s) ≡ p
        → ((n : ℕ) (e : at + n ≡ saved_size (i + 1)) → RecordsBelow (i + 1) s → Placed s (i + 1 + k) (read_records k (tabulate (i + 1) (saved_entry s)) (at + n) (drop (at + n) s)))
        → Placed s (i + suc k) (and_then Err (moved_by at p) (λ n.
        pick (name_held (record_entry (drop at s)).name (tabulate i (saved_entry s))) (Err (fault_at name_taken at)) (read_records k (tabulate i (saved_entry s) ++ (record_entry (drop at s) ∷ [])) (at + n) (drop n (drop at s)))))
    go (Err fault) q ih = Placed.rejected
    go (Ok n) q ih = by_test (Placed s (i + suc k)) _ _ _ (λ _. Placed.rejected) (λ _. next n q (ih n))

-- ---- the whole

pub count_taken : (limit : ℕ) (s : List ℕ) (n : ℕ) → parse_count limit s ≡ Ok n → (n ≡ count_record_size) × (count_in s ≤ limit) × (count_record_size ≤ length s)
unfolding parse_count
count_taken limit s n e = opening_facts count_kind limit s n e

pub form_stop : (limit : ℕ) (s : List ℕ) (fault : Fault) → parse_count limit s ≡ Err fault → Err fault ≡ outcome (read_saved limit s)
unfolding read_saved
form_stop limit s fault e = rw e

pub form_counted : (limit : ℕ) (s : List ℕ) (n : ℕ) → parse_count limit s ≡ Ok n → read_saved limit s ≡ read_records (count_in s) [] count_record_size (drop count_record_size s)
unfolding read_saved
form_counted limit s n e = rw (e, (count_taken limit s n e).0)

-- so many entries, as the places of their records give them
pub form_read : (limit : ℕ) (s : List ℕ) (n : ℕ) → outcome (read_saved limit s) ≡ Ok n → (read_saved limit s ≡ Ok (tabulate n (saved_entry s))) × RecordsBelow n s × (n ≤ limit)
unfolding tabulate
form_read limit s n h =
    let c = counted (parse_count limit s) refl in
    let all = placed_read (0 + count_in s) (read_records (count_in s) [] count_record_size (drop count_record_size s))
    (all_placed (count_in s) 0 count_record_size s refl (λ k l. absurd (omega arith))) (ap outcome (sym c.0) ∙ h) in
    (c.0 ∙ all.0, all.1, omega (arith, all.2, c.1))
  where
    counted : (p : Parsed) → parse_count limit s ≡ p → (read_saved limit s ≡ read_records (count_in s) [] count_record_size (drop count_record_size s)) × (count_in s ≤ limit)
    counted (Err fault) e = absurd (omega (arith, ap size_of (form_stop limit s fault e ∙ h)))
    counted (Ok m) e = (form_counted limit s m e, (count_taken limit s m e).1)

    placed_read : (total : ℕ) (r : Reading) → Placed s total r → outcome r ≡ Ok n → (r ≡ Ok (tabulate n (saved_entry s))) × RecordsBelow n s × (total ≡ n)
    placed_read total (Err fault) Placed.rejected q = absurd (omega (arith, ap size_of q))
    placed_read total (Ok es) (Placed.placed e r) q =
        let long : total ≡ n = omega (arith, ap size_of q, ap length e, length_tabulate total (saved_entry s)) in
        (rw (e, long), rw (← long) r, long)
