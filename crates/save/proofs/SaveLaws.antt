-- Laws of what saving stores.
use mathlib.Core.Path.{◌≡◌, refl, sym, ap, ◌∙◌}
use mathlib.Core.Bool.{true, false}
use mathlib.Core.List.{List, [], ◌++◌, append_assoc, append-nil}
use Prim.Native.Nat.{ℕ, ◌+◌, ◌-◌, ◌≤◌, ◌<◌}
use native.Mathlib.Omega.{arith}
use lib.ListN.{length, take, drop, set, replicate, length-append, length-drop, length-replicate, replicate-append-replicate}
use Rattle.std.proofs.lemmas.List.{drop-set-lt}
use Rattle.std.proofs.lemmas.List.Edits.{fill_more}
use lib.Seq.{drop-length, take_at, drop_at, drop-drop, drop-append-le, length-take-le}
use borrow.Author.Tests.{le-leb, lt-leb}
use Rattle.field.specs.Choice.{pick}
use Rattle.field.specs.Octets.{overwrite_at}
use Rattle.field.proofs.OverwriteLaws.{length_overwrite, overwrite_eq, overwrite_append, overwrite_mid}
use Rattle.field.specs.Answer.{output_too_short, unsound}
use Rattle.answer.specs.Answers.{bare_answer, done_answer}
use Rattle.message.specs.Layout.{Entry}
use Rattle.table.specs.Table.{TableMemory, tabulate, entries_of}
use Rattle.table.proofs.TabulateLaws.{length_tabulate}
use Rattle.soundness.specs.Sound.{sound_table}
use Rattle.saved.specs.Form.{count_record_size, entry_record_size, saved_size, filled, count_record, entry_record, entry_records, saved_form}
use Rattle.saved.specs.Calls.{save_result, save}
use Rattle.save.proofs.FormLaws.{records_more}

-- one zero more, and all of them
pub zero_next : (xs : List ℕ) (i : ℕ) → i < length xs → xs ≡ replicate i 0 ++ drop i xs → set xs i 0 ≡ replicate (i + 1) 0 ++ drop (i + 1) (set xs i 0)
zero_next xs i h e =
    rw (drop-set-lt (i + 1) xs i 0 (omega arith)) (ap (λ (l : List ℕ). set l i 0) e ∙ fill_more i 0 xs h)

pub zeros_stored : (out : List ℕ) (at n k : ℕ) (xs : List ℕ) → at + n ≤ length out → k ≡ n → length xs ≡ n → xs ≡ replicate n 0 ++ drop n xs
    → take at out ++ (xs ++ drop k (drop at out)) ≡ overwrite_at out at (replicate n 0)
zeros_stored out at n k xs fits same long e =
    let none : drop n xs ≡ [] = rw long at (drop-length xs) in
    let all : xs ≡ replicate n 0 = e ∙ rw (none, append-nil (replicate {A = ℕ} n 0)) in
    let size : length (replicate {A = ℕ} n 0) ≡ n = length-replicate {A = ℕ} n 0 in
    rw all (overwrite_mid out (replicate n 0) at k (omega (arith, size)) (omega (arith, size)))

-- bytes stored over the first of those that were stored from a place on
store_over : (xs : List ℕ) (at : ℕ) (ys zs : List ℕ) → at + length ys ≤ length xs → length zs ≤ length ys
    → overwrite_at (overwrite_at xs at ys) at zs ≡ overwrite_at xs at (zs ++ drop (length zs) ys)
store_over xs at ys zs fits short =
    let now = overwrite_at xs at ys in
    let rest = drop (at + length ys) xs in
    let all : now ≡ take at xs ++ (ys ++ rest) = overwrite_eq xs at ys fits in
    let front : length (take at xs) ≡ at = length-take-le at xs (omega arith) in
    let before : take at now ≡ take at xs = rw all (take_at (take at xs) (ys ++ rest) at front) in
    let behind : drop (at + length zs) now ≡ drop (length zs) ys ++ rest =
    sym (drop-drop (length zs) at now) ∙ rw (all, drop_at (take at xs) (ys ++ rest) at front) (drop-append-le (length zs) ys rest short) in
    let long : length (zs ++ drop (length zs) ys) ≡ length ys = omega (arith, length-append zs (drop (length zs) ys), length-drop (length zs) ys) in
    overwrite_eq now at zs (omega (arith, length_overwrite xs at ys))
    ∙ rw (before, behind, ← (append_assoc zs (drop (length zs) ys) rest))
    (sym (overwrite_eq xs at (zs ++ drop (length zs) ys) (omega (arith, long)) ∙ rw long))

fewer_zeros : (n size : ℕ) → n ≤ size → drop n (replicate {A = ℕ} size 0) ≡ replicate (size - n) 0
fewer_zeros n size h =
    let e : size ≡ n + (size - n) = omega arith in
    ap (λ (k : ℕ). drop n (replicate {A = ℕ} k 0)) e
    ∙ rw (← replicate-append-replicate {A = ℕ} n (size - n) 0) (drop_at (replicate n 0) (replicate (size - n) 0) n (length-replicate {A = ℕ} n 0))

-- bytes stored over zeros are filled with them
pub store_filled : (xs : List ℕ) (at size : ℕ) (s now now' : List ℕ) → at + size ≤ length xs → length s ≤ size → now ≡ overwrite_at xs at (replicate size 0)
    → now' ≡ overwrite_at now at s → now' ≡ overwrite_at xs at (filled size s)
unfolding filled
store_filled xs at size s now now' fits short h g =
    let n : length (replicate {A = ℕ} size 0) ≡ size = length-replicate {A = ℕ} size 0 in
    let zeros : List ℕ = replicate size 0 in
    let over : overwrite_at (overwrite_at xs at zeros) at s ≡ overwrite_at xs at (s ++ drop (length s) zeros) = store_over xs at zeros s (omega (arith, n)) (omega (arith, n)) in
    g ∙ ap (λ (l : List ℕ). overwrite_at l at s) h ∙ over ∙ ap (λ (l : List ℕ). overwrite_at xs at (s ++ l)) (fewer_zeros (length s) size short)

-- bytes stored behind those that were stored from a place on
pub store_behind : (out : List ℕ) (at : ℕ) (bytes now : List ℕ) (end : ℕ) (more now' : List ℕ) → now ≡ overwrite_at out at bytes → end ≡ at + length bytes
    → now' ≡ overwrite_at now end more → now' ≡ overwrite_at out at (bytes ++ more)
store_behind out at bytes now end more now' h e g = g ∙ rw h (overwrite_append out at bytes more end e)

-- ---- the saved form, record by record

-- the records of the first i entries are stored in out behind the first record, which gives now, and end where record i starts
pub record RecordsStored (f : ℕ → Entry) (out now : List ℕ) (i : ℕ) : Type 0 where
  pub so_far : now ≡ overwrite_at out count_record_size (entry_records (tabulate i f))
  pub reached : saved_size i ≡ count_record_size + length (entry_records (tabulate i f))

pub no_records : (f : ℕ → Entry) (out : List ℕ) → RecordsStored f out out 0
unfolding overwrite_at tabulate entry_records
no_records f out = record { so_far = refl; reached = refl }

pub next_record_lem : {f : ℕ → Entry} {out now : List ℕ} {i : ℕ} (now' : List ℕ) → RecordsStored f out now i
    → now' ≡ overwrite_at now (saved_size i) (entry_record (f i)) → length (entry_record (f i)) ≡ entry_record_size → RecordsStored f out now' (i + 1)
next_record_lem {f} {out} {now} {i} now' s h l =
    record {
      so_far = rw (records_more i f) (store_behind out count_record_size (entry_records (tabulate i f)) now (saved_size i) (entry_record (f i)) now' s.so_far s.reached h);
      reached = rw (records_more i f) (omega (arith, s.reached, length-append (entry_records (tabulate i f)) (entry_record (f i))));
    }

-- all of them, behind the first record
pub form_stored : (f : ℕ → Entry) (start out now : List ℕ) (count i : ℕ) → i ≡ count → out ≡ overwrite_at start 0 (count_record count)
    → RecordsStored f out now i → now ≡ overwrite_at start 0 (saved_form (tabulate count f))
unfolding saved_form count_record
form_stored f start out now count i e h s =
    store_behind start 0 (count_record count) out count_record_size (entry_records (tabulate i f)) now h refl s.so_far ∙ rw (e, length_tabulate count f)

-- ---- the call

-- the refusals
pub save_unsound : (limit : ℕ) (m : TableMemory) (out : List ℕ) → sound_table limit m ≡ false → save limit m out ≡ save_result (bare_answer unsound) out
unfolding save pick
save_unsound limit m out h = rw h refl

pub save_short : (limit : ℕ) (m : TableMemory) (out : List ℕ) → sound_table limit m ≡ true → length out < saved_size m.count
    → save limit m out ≡ save_result (bare_answer output_too_short) out
unfolding save pick
save_short limit m out s h = rw (s, lt-leb (saved_size m.count) (length out) h) refl

pub ruleset refusing = (save_unsound, save_short)

-- what is answered and left where the form is stored
pub form_saved : (limit : ℕ) (m : TableMemory) (out : List ℕ) (size : ℕ) (now : List ℕ) → sound_table limit m ≡ true → size ≡ saved_size m.count
    → saved_size m.count ≤ length out → now ≡ overwrite_at out 0 (saved_form (entries_of m)) → save_result (done_answer 0 0 size) now ≡ save limit m out
unfolding save pick
form_saved limit m out size now s e fits h = rw (s, le-leb (saved_size m.count) (length out) fits, e, h)
