-- What holds of saving and loading.
use Rattle.std.specs.Prelude.{Err, Ok}
use mathlib.Core.Path.{◌≡◌, refl, sym, ap, ◌∙◌}
use mathlib.Core.Bool.{true, and-eq-true_iff}
use mathlib.Core.List.{List, [], ◌++◌}
use Prim.Native.Nat.{ℕ, ◌*◌, ◌≤◌, ◌<◌}
use native.Mathlib.Nat.{zero-add}
use native.Mathlib.Omega.{arith}
use lib.ListN.{length, drop}
use lib.Seq.{take_at, drop_at}
use borrow.Author.Tests.{leb-true}
use Rattle.field.specs.Answer.{wrong_state, unsound}
use Rattle.field.specs.Choice.{pick}
use Rattle.field.specs.Octets.{overwrite_at}
use Rattle.field.proofs.ChoiceLaws.{by_test}
use Rattle.field.proofs.OverwriteLaws.{overwrite_eq}
use Rattle.answer.specs.Answers.{bare_answer, refused_answer, done_answer}
use Rattle.answer.specs.declared.Answer.{Answer}
use Rattle.message.specs.Layout.{Entry}
use Rattle.message.specs.Reader.{Bytes}
use Rattle.table.specs.Table.{TableMemory, head_size, emptied, entries_of, tabulate}
use Rattle.table.specs.Stored.{SameBut}
use Rattle.table.proofs.TabulateLaws.{length_entries}
use Rattle.soundness.specs.Sound.{sound_table, sound_marks}
use Rattle.soundness.proofs.SoundLaws.{sound_facts, holds_large}
use Rattle.soundness.proofs.StoredLaws.{entries_well_formed, entries_differ, entries_fit, empty_sound}
use Rattle.saved.specs.Form.{saved_size, saved_form}
use Rattle.saved.specs.Reading.{Reading, read_saved}
use Rattle.saved.specs.Calls.{SaveResult, save_result, save, LoadResult, load_result, all_closed, store_all, load_read, load}
use Rattle.saved.specs.Loaded.{Saved, SaveGivesForm, OneTableOfForm, Loadable, LoadsWhatWasSaved, LoadsWhereClosed, LoadsFormsOnly, OneFormOfTable, LoadedIsSound, RefusedLoadKeeps, Covered, LoadChangesEntries}
use Rattle.saved.proofs.ReadingLaws.{Fresh, SavedIs, saved_is, saved_back, length_form, sound_fresh}
use Rattle.saved.proofs.StoringLaws.{stored_all, count_all, kept_from_empty}

-- ---- the entries of a sound table

module _ (limit : ℕ) (m : TableMemory) (s : sound_table limit m ≡ true) where
  fresh_entries : Fresh [] (entries_of m)
  fresh_entries = sound_fresh (entries_of m) [] (entries_well_formed limit m s) (entries_differ limit m s)

  pub form_size : length (saved_form (entries_of m)) ≡ saved_size m.count
  form_size = length_form (entries_of m) fresh_entries ∙ ap saved_size (length_entries m)

  form_read : read_saved limit (saved_form (entries_of m)) ≡ Ok (entries_of m)
  form_read = saved_back limit (entries_of m) (entries_fit limit m s) fresh_entries

  emptied_sound : sound_table limit (emptied m) ≡ true
  emptied_sound = empty_sound limit m (holds_large limit m.heads m.bytes (sound_facts limit m s).holds)

-- ---- saving

record SaveDone (limit : ℕ) (m : TableMemory) (out : List ℕ) (r : SaveResult) : Type 0 where
  at_done : r.answer.number ≡ 0 → Saved limit m out r

-- a form that fits stands first in the output, and the rest is unchanged
written : (limit : ℕ) (m : TableMemory) → sound_table limit m ≡ true → (out form : List ℕ) → form ≡ saved_form (entries_of m) → length form ≡ saved_size m.count → length form ≤ length out
    → Saved limit m out (save_result (done_answer 0 0 (saved_size m.count)) (overwrite_at out 0 form))
written limit m s out form e n l =
    let all : overwrite_at out 0 form ≡ form ++ drop (length form) out = rw zero-add at (overwrite_eq out 0 form (omega arith)) in
    record {
      table_sound = s;
      room = omega (arith, n);
      size = refl;
      form = rw all (take_at form (drop (length form) out) (saved_size m.count) n) ∙ e;
      rest = rw all (drop_at form (drop (length form) out) (saved_size m.count) n) ∙ ap (λ (k : ℕ). drop k out) n;
    }

pub save_gives_form : SaveGivesForm
unfolding save
save_gives_form limit m out = step.at_done
  where
    step : SaveDone limit m out (save limit m out)
    step =
        by_test (SaveDone limit m out) _ _ _ (λ s.
        by_test (SaveDone limit m out) _ _ _
        (λ room. let l : saved_size m.count ≤ length out = leb-true _ _ room in
        record { at_done = λ _. written limit m s out (saved_form (entries_of m)) refl (form_size limit m s) (omega (arith, l, form_size limit m s)) })
        (λ _. record { at_done = λ e. absurd (omega arith) })) (λ _. record { at_done = λ e. absurd (omega arith) })

entries_read : Reading → List Entry
entries_read (Err fault) = []
entries_read (Ok es) = es

unread : {xs ys : List Entry} → ◌≡◌ {A = Reading} (Ok xs) (Ok ys) → xs ≡ ys
unfolding entries_read
unread q = ap entries_read q

pub one_table_of_form : OneTableOfForm
one_table_of_form limit m m' s s' e = unread (sym (form_read limit m s) ∙ ap (read_saved limit) e ∙ form_read limit m' s')

-- ---- loading

-- a load is refused and changes nothing, or it is done and stores the entries of the form
data LoadIs (limit : ℕ) (m : TableMemory) (marks saved : List ℕ) : LoadResult → Type 0 where
  rejected : {answer : Answer} → 1 ≤ answer.number → LoadIs limit m marks saved (load_result answer m)
  stored : {es : List Entry} → Loadable limit m marks → length es ≤ limit → Fresh [] es → (Bytes saved → saved ≡ saved_form es)
      → LoadIs limit m marks saved (load_result (done_answer 0 (length saved) 0) (store_all (emptied m) es))

load_is : (limit : ℕ) (m : TableMemory) (marks saved : List ℕ) → LoadIs limit m marks saved (load limit m marks saved)
unfolding load
load_is limit m marks saved =
    by_test Is _ _ _ (λ sound.
    by_test Is _ _ _ (λ closed.
    go ((and-eq-true_iff (sound_table limit m) (sound_marks marks)).0 sound) closed (read_saved limit saved) (saved_is limit saved))
    (λ _. LoadIs.rejected {answer = bare_answer wrong_state} (omega arith))) (λ _. LoadIs.rejected {answer = bare_answer unsound} (omega arith))
  where
    Is : LoadResult → Type 0
    Is = LoadIs limit m marks saved

    go : (sound_table limit m ≡ true) × (sound_marks marks ≡ true) → all_closed marks ≡ true → (r : Reading) → SavedIs limit saved r
        → LoadIs limit m marks saved (load_read m (length saved) r)
    go s c (Err fault) (SavedIs.rejected h) = LoadIs.rejected {answer = refused_answer fault} h
    go s c (Ok es) (SavedIs.entries l f q) = LoadIs.stored (record { table_sound = s.0; marks_sound = s.1; closed = c }) l f q

-- the table that a done load leaves
module _ {limit : ℕ} {m : TableMemory} {marks : List ℕ} {es : List Entry} (can : Loadable limit m marks) (l : length es ≤ limit) (f : Fresh [] es) where
  nothing : entries_of (emptied m) ≡ []
  unfolding entries_of tabulate
  nothing = refl

  both : (sound_table limit (store_all (emptied m) es) ≡ true) × (entries_of (store_all (emptied m) es) ≡ entries_of (emptied m) ++ es)
  both =
      stored_all limit es (emptied m) (emptied_sound limit m can.table_sound) (rw nothing f) (rw nothing (omega arith))

  holds_entries : entries_of (store_all (emptied m) es) ≡ es
  holds_entries = both.1 ∙ ap (λ (xs : List Entry). xs ++ es) nothing

pub loaded_is_sound : LoadedIsSound
loaded_is_sound limit m marks saved = go (load limit m marks saved) (load_is limit m marks saved)
  where
    go : (r : LoadResult) → LoadIs limit m marks saved r → r.answer.number ≡ 0 → sound_table limit r.table ≡ true
    go r (LoadIs.rejected h) e = absurd (omega (arith, h, e))
    go r (LoadIs.stored can l f q) e = (both can l f).0

pub loads_where_closed : LoadsWhereClosed
loads_where_closed limit m marks saved = go (load limit m marks saved) (load_is limit m marks saved)
  where
    go : (r : LoadResult) → LoadIs limit m marks saved r → r.answer.number ≡ 0 → Loadable limit m marks
    go r (LoadIs.rejected h) e = absurd (omega (arith, h, e))
    go r (LoadIs.stored can l f q) e = can

pub loads_forms_only : LoadsFormsOnly
loads_forms_only limit m marks saved o = go (load limit m marks saved) (load_is limit m marks saved)
  where
    go : (r : LoadResult) → LoadIs limit m marks saved r → r.answer.number ≡ 0 → saved ≡ saved_form (entries_of r.table)
    go r (LoadIs.rejected h) e = absurd (omega (arith, h, e))
    go r (LoadIs.stored can l f q) e = q o ∙ ap saved_form (sym (holds_entries can l f))

pub one_form_of_table : OneFormOfTable
one_form_of_table limit m m' marks marks' saved saved' o o' e e' same =
    loads_forms_only limit m marks saved o e ∙ ap saved_form same ∙ sym (loads_forms_only limit m' marks' saved' o' e')

pub loads_what_was_saved : LoadsWhatWasSaved
unfolding load pick
loads_what_was_saved limit m s into marks can =
    rw (can.table_sound, can.marks_sound, can.closed, form_read limit m s)
    (record { is_done = refl; took = form_size limit m s; entries = holds_entries can (entries_fit limit m s) (fresh_entries limit m s) })

pub refused_load_keeps : RefusedLoadKeeps
refused_load_keeps limit m marks saved = go (load limit m marks saved) (load_is limit m marks saved)
  where
    go : (r : LoadResult) → LoadIs limit m marks saved r → (r.answer.number ≡ 0 → ⊥) → r.table ≡ m
    go r (LoadIs.rejected h) e = refl
    go r (LoadIs.stored can l f q) e = absurd (e refl)

pub load_changes_entries : LoadChangesEntries
load_changes_entries limit m marks saved = go (load limit m marks saved) (load_is limit m marks saved)
  where
    go : (r : LoadResult) → LoadIs limit m marks saved r → SameBut (λ p. p < head_size * r.table.count) (Covered (entries_of r.table)) m r.table
    go r (LoadIs.rejected h) = record { same_heads = refl; same_bytes = refl; heads_kept = λ p h. refl; bytes_kept = λ p h. refl }
    go r (LoadIs.stored {es = es} can l f q) =
        let kept = kept_from_empty es (emptied m) refl in
        let all = store_all (emptied m) es in
        let counted : all.count ≡ length es = count_all es (emptied m) ∙ omega arith in
        record {
          same_heads = kept.same_heads;
          same_bytes = kept.same_bytes;
          heads_kept = λ p h. kept.heads_kept p (λ b. h (omega (arith, b, counted)));
          bytes_kept = λ p h. kept.bytes_kept p (λ c. h (rw (holds_entries can l f) c));
        }
