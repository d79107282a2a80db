-- What is read is what was saved, and what was saved is read back.
use Rattle.std.specs.Prelude.{Err, Ok}
use mathlib.Core.Path.{◌≡◌, refl, sym, ap, ◌∙◌}
use mathlib.Core.Bool.{true, false, not, and-eq-true_iff}
use mathlib.Core.List.{List, [], ◌∷◌, ◌++◌, append_assoc, append-nil}
use Prim.Native.Nat.{ℕ, zero, suc, ◌+◌, ◌*◌, ◌≤◌}
use native.Mathlib.Omega.{arith}
use lib.ListN.{length, drop, get_or, length-append, get_or-append}
use lib.Seq.{get_or-drop, get_or_at}
use borrow.Author.Tests.{leb-true, not-true}
use Rattle.field.specs.Answer.{too_long, name_taken}
use Rattle.field.specs.Choice.{pick}
use Rattle.field.specs.Field.{fault_at, moved_by, and_then, Parsed}
use Rattle.field.specs.declared.Fault.{Fault}
use Rattle.field.proofs.ChoiceLaws.{by_test}
use Rattle.value.proofs.ValueLaws.{value_small}
use Rattle.message.specs.Layout.{Entry, WellFormed}
use Rattle.message.specs.Reader.{Bytes}
use Rattle.table.specs.Names.{name_held, names_differ}
use Rattle.table.specs.Table.{default_entry}
use Rattle.table.proofs.NamesLaws.{differ_last, differ_at, at_differ}
use Rattle.soundness.proofs.StoredLaws.{AllWellFormed}
use Rattle.saved.specs.Form.{count_kind, count_record_size, entry_record_size, saved_size, count_record, entry_record, entry_records, saved_form}
use Rattle.saved.specs.Reading.{Reading, record_entry, parse_opening, parse_record, count_in, parse_count, read_records, read_saved}
use Rattle.saved.proofs.RecordLaws.{OpeningIs, opening_is, RecordIs, record_is, record_of_entry, entry_obeys}
use Rattle.saved.proofs.BackLaws.{opening_taken, length_record, record_taken, record_rest, record_entry_lem}

-- entries that obey the rules, each with a name that none before it has, behind those of xs
pub data Fresh : List Entry → List Entry → Type 0 where
  none : {xs : List Entry} → Fresh xs []
  more : {xs : List Entry} {e : Entry} {es : List Entry} → WellFormed e → name_held e.name xs ≡ false → Fresh (xs ++ (e ∷ [])) es → Fresh xs (e ∷ es)

-- ---- the records

-- what is read behind the entries xs: so many entries, and the bytes are their records
data RecordsAre (count : ℕ) (xs : List Entry) (s : List ℕ) : Reading → Type 0 where
  rejected : {fault : Fault} → 1 ≤ fault.number → RecordsAre count xs s (Err fault)
  entries : {all : List Entry} (es : List Entry) → all ≡ xs ++ es → length es ≡ count → Fresh xs es → (Bytes s → s ≡ entry_records es) → RecordsAre count xs s (Ok all)

empty : (s : List ℕ) → length s ≤ 0 → s ≡ []
empty [] h = refl
empty (x ∷ xs) h = absurd (omega arith)

bytes_drop : (n : ℕ) (s : List ℕ) → Bytes s → Bytes (drop n s)
bytes_drop n s o i = rw (get_or-drop n s i 0) (o (n + i))

read_next : (count : ℕ) (xs : List Entry) (s : List ℕ) (e : Entry) → (Bytes s → s ≡ entry_record e ++ drop entry_record_size s) → WellFormed e
    → name_held e.name xs ≡ false → (r : Reading) → RecordsAre count (xs ++ (e ∷ [])) (drop entry_record_size s) r → RecordsAre (suc count) xs s r
unfolding entry_records
read_next count xs s e c w h (Err fault) (RecordsAre.rejected l) = RecordsAre.rejected l
read_next count xs s e c w h (Ok all) (RecordsAre.entries es a l f q) =
    RecordsAre.entries (e ∷ es) (a ∙ append_assoc xs (e ∷ []) es) (ap suc l) (Fresh.more w h f)
    (λ o. c o ∙ ap (λ (t : List ℕ). entry_record e ++ t) (q (bytes_drop entry_record_size s o)))

records_are : (count : ℕ) (xs : List Entry) (place : ℕ) (s : List ℕ) → RecordsAre count xs s (read_records count xs place s)
unfolding read_records entry_records
records_are zero xs place s =
    by_test (RecordsAre 0 xs s) _ _ _ (λ h. RecordsAre.entries [] (sym (append-nil xs)) refl Fresh.none (λ _. empty s (leb-true _ _ h)))
    (λ _. RecordsAre.rejected {fault = fault_at too_long place} (omega arith))
records_are (suc count) xs place s = go (parse_record s) (record_is s) (λ e n. records_are count (xs ++ (e ∷ [])) (place + n) (drop n s))
  where
    go : (r : Parsed) → RecordIs s r
        → ((e : Entry) (n : ℕ) → RecordsAre count (xs ++ (e ∷ [])) (drop n s) (read_records count (xs ++ (e ∷ [])) (place + n) (drop n s)))
        → RecordsAre (suc count) xs s (and_then Err (moved_by place r) (λ n.
        pick (name_held (record_entry s).name xs) (Err (fault_at name_taken place)) (read_records count (xs ++ (record_entry s ∷ [])) (place + n) (drop n s))))
    go (Err fault) (RecordIs.refused h l) ih = RecordsAre.rejected {fault = fault_at fault.number (place + fault.place)} h
    go (Ok n) (RecordIs.taken f g) ih =
        by_test (RecordsAre (suc count) xs s) _ _ _ (λ _. RecordsAre.rejected {fault = fault_at name_taken place} (omega arith)) (λ new.
        read_next count xs s (record_entry s) (record_of_entry s f g) (entry_obeys s f g) new _ (ih (record_entry s) entry_record_size))

-- ---- the first record

front : (s : List ℕ) → get_or s 0 0 ≡ count_kind → count_record_size ≤ length s → s ≡ count_record (count_in s) ++ drop count_record_size s
unfolding count_record
front [] k h = absurd (omega arith)
front (x ∷ []) k h = absurd (omega arith)
front (x ∷ y ∷ s) k h = ap (λ (z : ℕ). z ∷ y ∷ s) k

-- ---- the whole

-- what is read: so many entries at most that obey the rules, with names that differ, and the bytes are their saved form
pub data SavedIs (limit : ℕ) (s : List ℕ) : Reading → Type 0 where
  rejected : {fault : Fault} → 1 ≤ fault.number → SavedIs limit s (Err fault)
  entries : {es : List Entry} → length es ≤ limit → Fresh [] es → (Bytes s → s ≡ saved_form es) → SavedIs limit s (Ok es)

pub saved_is : (limit : ℕ) (s : List ℕ) → SavedIs limit s (read_saved limit s)
unfolding read_saved parse_count
saved_is limit s = go (parse_opening count_kind limit s) (opening_is count_kind limit s)
  where
    end : count_in s ≤ limit → s ≡ count_record (count_in s) ++ drop count_record_size s
        → (r : Reading) → RecordsAre (count_in s) [] (drop count_record_size s) r → SavedIs limit s r
    end l c (Err fault) (RecordsAre.rejected h) = SavedIs.rejected h
    end l c (Ok all) (RecordsAre.entries es a m f q) =
        unfold saved_form in (
        let fresh : Fresh [] all = rw a f in
        let form : Bytes s → s ≡ count_record (length all) ++ entry_records all = λ o. c ∙ rw (a, m, q (bytes_drop count_record_size s o)) in
        let few : length all ≤ limit = rw a (omega (arith, l, m)) in
        SavedIs.entries {es = all} few fresh form)

    go : (r : Parsed) → OpeningIs count_kind limit s r → SavedIs limit s (and_then Err r (λ n. read_records (count_in s) [] n (drop n s)))
    go (Err fault) (OpeningIs.refused h l) = SavedIs.rejected h
    go (Ok n) (OpeningIs.opened kind small there) = end small (front s kind there) _ (records_are (count_in s) [] count_record_size (drop count_record_size s))

-- ---- reading back

records_back : (es xs : List Entry) (place : ℕ) → Fresh xs es → read_records (length es) xs place (entry_records es) ≡ Ok (xs ++ es)
unfolding read_records entry_records pick
records_back [] xs place f = rw (append-nil xs)
records_back (e ∷ es) xs place (Fresh.more w h f) =
    rw (record_taken e (entry_records es) w, record_rest e (entry_records es) w, record_entry_lem e (entry_records es) w, h)
    (records_back es (xs ++ (e ∷ [])) (place + entry_record_size) f ∙ ap Ok (append_assoc xs (e ∷ []) es))

pub saved_back : (limit : ℕ) (es : List Entry) → length es ≤ limit → Fresh [] es → read_saved limit (saved_form es) ≡ Ok es
unfolding read_saved parse_count saved_form count_record
saved_back limit es l f =
    let long : length (saved_form es) ≡ 2 + length (entry_records es) = omega arith in
    rw (opening_taken count_kind limit (saved_form es) refl l (omega (arith, long))) (records_back es [] count_record_size f)

length_records : (es xs : List Entry) → Fresh xs es → length (entry_records es) ≡ entry_record_size * length es
unfolding entry_records
length_records [] xs f = refl
length_records (e ∷ es) xs (Fresh.more w h f) =
    let one = length_record e w.name_fits (value_small e.type e.value (length e.value) w.value_whole) in
    omega (arith, length-append (entry_record e) (entry_records es), one, length_records es (xs ++ (e ∷ [])) f)

pub length_form : (es : List Entry) → Fresh [] es → length (saved_form es) ≡ saved_size (length es)
unfolding saved_form count_record
length_form es f = omega (arith, length_records es [] f)

-- ---- entries of a sound table are such

differ_prefix : (xs ys : List Entry) → names_differ (xs ++ ys) ≡ true → names_differ xs ≡ true
differ_prefix xs ys h =
    at_differ xs default_entry (λ i j l m q.
    differ_at (xs ++ ys) default_entry h i j l (omega (arith, length-append xs ys))
    (rw (get_or-append xs ys default_entry i (omega arith), get_or-append xs ys default_entry j m) q))

pub sound_fresh : (es xs : List Entry) → AllWellFormed (xs ++ es) → names_differ (xs ++ es) ≡ true → Fresh xs es
sound_fresh [] xs w d = Fresh.none
sound_fresh (e ∷ es) xs w d =
    let same : xs ++ (e ∷ es) ≡ (xs ++ (e ∷ [])) ++ es = sym (append_assoc xs (e ∷ []) es) in
    let w' : AllWellFormed ((xs ++ (e ∷ [])) ++ es) = rw same at w in
    let d' : names_differ ((xs ++ (e ∷ [])) ++ es) ≡ true = rw same at d in
    let own : WellFormed e = rw (get_or_at xs e es default_entry (length xs) refl) at (w (length xs) (omega (arith, length-append xs (e ∷ es)))) in
    let both = (and-eq-true_iff (names_differ xs) (not (name_held e.name xs))).0 (sym (differ_last xs e) ∙ differ_prefix (xs ++ (e ∷ [])) es d') in
    Fresh.more own (not-true (name_held e.name xs) both.1) (sound_fresh es (xs ++ (e ∷ [])) w' d')
