-- What saving and loading answer.
use Rattle.std.specs.Prelude.{Err, Ok}
use mathlib.Core.Path.{◌≡◌, refl}
use mathlib.Core.List.{List}
use Prim.Native.Nat.{ℕ}
use native.Mathlib.Omega.{arith}
use lib.ListN.{length}
use borrow.Author.Tests.{le-leb, lt-leb}
use Rattle.field.specs.Choice.{pick}
use Rattle.field.proofs.ChoiceLaws.{by_test}
use Rattle.answer.specs.Answers.{done_answer}
use Rattle.table.specs.Table.{TableMemory}
use Rattle.saved.specs.Form.{saved_size}
use Rattle.saved.specs.Reading.{Reading, read_saved}
use Rattle.saved.specs.Calls.{save, LoadResult, load_read, load}
use Rattle.saved.specs.Answered.{SaveAnswered, FirstRefused, LoadAnswered, LoadsWhatSaveWrote}
use Rattle.saved.proofs.ReadingLaws.{SavedIs, saved_is}
use Rattle.saved.proofs.LoadedLaws.{save_gives_form, loads_what_was_saved}

pub save_answered : SaveAnswered
unfolding save pick
save_answered limit m out =
    record {
      unsound_table = λ h. rw h refl;
      no_room = λ h l. rw (h, lt-leb (saved_size m.count) (length out) l) refl;
      has_room = λ h l. rw (h, le-leb (saved_size m.count) (length out) l) refl;
    }

pub first_refused : FirstRefused
unfolding load pick
first_refused limit m marks saved = record { unsound_memory = λ h. rw h refl; not_closed = λ h k. rw (h, k) refl }

record Answers (n : ℕ) (r : LoadResult) : Type 0 where
  at_done : r.answer.number ≡ 0 → r.answer ≡ done_answer 0 n 0
  none_taken : (r.answer.number ≡ 0 → ⊥) → r.answer.taken ≡ 0
  none_sent : r.answer.sent ≡ 0
  nobody_receives : r.answer.recipients ≡ 0

answers : (limit : ℕ) (m : TableMemory) (marks saved : List ℕ) → Answers (length saved) (load limit m marks saved)
unfolding load
answers limit m marks saved =
    by_test (Answers (length saved)) _ _ _ (λ _.
    by_test (Answers (length saved)) _ _ _ (λ _. go (read_saved limit saved) (saved_is limit saved))
    (λ _. record { at_done = λ e. absurd (omega arith); none_taken = λ _. refl; none_sent = refl; nobody_receives = refl }))
    (λ _. record { at_done = λ e. absurd (omega arith); none_taken = λ _. refl; none_sent = refl; nobody_receives = refl })
  where
    go : (r : Reading) → SavedIs limit saved r → Answers (length saved) (load_read m (length saved) r)
    go (Err fault) (SavedIs.rejected h) = record { at_done = λ e. absurd (omega (arith, h, e)); none_taken = λ _. refl; none_sent = refl; nobody_receives = refl }
    go (Ok es) (SavedIs.entries l f q) = record { at_done = λ _. refl; none_taken = λ h. absurd (h refl); none_sent = refl; nobody_receives = refl }

pub load_answered : LoadAnswered
load_answered limit m marks saved =
    let a = answers limit m marks saved in
    record { at_done = a.at_done; none_taken = a.none_taken; none_sent = a.none_sent; nobody_receives = a.nobody_receives }

pub loads_what_save_wrote : LoadsWhatSaveWrote
loads_what_save_wrote limit m out e into marks can =
    let wrote = save_gives_form limit m out e in
    rw (wrote.form, wrote.size) (loads_what_was_saved limit m wrote.table_sound into marks can)
