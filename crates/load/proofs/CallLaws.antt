-- Laws of the call that loads: what it answers and leaves, by what was found.
use Rattle.std.specs.Prelude.{Err, Ok}
use mathlib.Core.Path.{◌≡◌, sym, ap}
use mathlib.Core.Bool.{true, false}
use mathlib.Core.List.{List}
use Prim.Native.Nat.{ℕ}
use native.Mathlib.Omega.{arith}
use lib.ListN.{length}
use Rattle.field.specs.Answer.{wrong_state, unsound}
use Rattle.field.specs.Choice.{pick}
use Rattle.field.specs.Field.{fault_at, fault_of, Parsed}
use Rattle.field.specs.Place.{reported_place}
use Rattle.field.specs.declared.Fault.{Fault}
use Rattle.answer.specs.Answers.{bare_answer, refused_answer, done_answer}
use Rattle.table.specs.Table.{TableMemory, emptied, tabulate}
use Rattle.soundness.specs.Sound.{sound_table, sound_marks}
use Rattle.saved.specs.Reading.{Reading, read_saved}
use Rattle.saved.specs.Calls.{load_result, all_closed, store_all, load_read, load}
use Rattle.load.specs.Records.{saved_entry, outcome}
use Rattle.load.proofs.RecordsLaws.{form_read}

abbrev is_taken : Parsed → ℕ
is_taken (Err fault) = 0
is_taken (Ok n) = 1

read_refused : (m : TableMemory) (taken : ℕ) (fault : Fault) (r : Reading) → outcome r ≡ Err fault → load_result (refused_answer fault) m ≡ load_read m taken r
read_refused m taken fault (Err f) e = ap (λ (p : Parsed). load_result (refused_answer (fault_of p)) m) (sym e)
read_refused m taken fault (Ok es) e = absurd (omega (arith, ap is_taken e))

module _ (limit : ℕ) (m : TableMemory) (marks s : List ℕ) where
  pub load_unsound : sound_table limit m ≡ false → load_result (bare_answer unsound) m ≡ load limit m marks s
  unfolding load pick
  load_unsound h = rw h

  module _ (sound : sound_table limit m ≡ true) where
    pub load_unmarked : sound_marks marks ≡ false → load_result (bare_answer unsound) m ≡ load limit m marks s
    unfolding load pick
    load_unmarked h = rw (sound, h)

    module _ (marked : sound_marks marks ≡ true) where
      pub load_connected : all_closed marks ≡ false → load_result (refused_answer (fault_at wrong_state 0)) m ≡ load limit m marks s
      unfolding load pick reported_place
      load_connected h = rw (sound, marked, h)

      module _ (closed : all_closed marks ≡ true) where
        pub load_refused : (fault : Fault) → outcome (read_saved limit s) ≡ Err fault → load_result (refused_answer fault) m ≡ load limit m marks s
        unfolding load pick
        load_refused fault e = rw (sound, marked, closed) (read_refused m (length s) fault (read_saved limit s) e)

        pub load_stored : (n : ℕ) → outcome (read_saved limit s) ≡ Ok n → load_result (done_answer 0 (length s) 0) (store_all (emptied m) (tabulate n (saved_entry s))) ≡ load limit m marks s
        unfolding load pick
        load_stored n e = rw (sound, marked, closed, (form_read limit s n e).0)
