-- A replay that answers another number than 14 began with a fresh start that was done; with 14 nothing changes.
use mathlib.Core.Path.{◌≡◌, refl}
use mathlib.Core.Logic.{◌≢◌}
use mathlib.Core.List.{List}
use Prim.Native.Nat.{ℕ}
use lib.Dec.{eqb}
use lib.ListN.{length}
use Rattle.field.specs.Answer.{done, unsound}
use Rattle.field.specs.Choice.{pick, demand}
use Rattle.field.proofs.ChoiceLaws.{by_test}
use Rattle.protocol.specs.Step.{ServerMemory, StartResult, fresh_start}
use Rattle.line_record.specs.Replay.{Ran, run_state, stopped, run, none_held, replay, result_of}
use Rattle.line_record.specs.Calls.{ShortRefused}

-- what is run behind a fresh start
abbrev behind_start : (limit : ℕ) → (recorded : List ℕ) → StartResult → Ran
behind_start limit recorded start =
    let s = run_state start.memory none_held in
    demand (eqb start.number done) (stopped start.number s) (run (length recorded) limit s recorded)

module _ (limit : ℕ) (mem : ServerMemory) (recorded : List ℕ) where
  record Begins (start : StartResult) : Type 0 where
    refused : start.number ≢ done → result_of (behind_start limit recorded start) ≡ record { number = unsound; records = 0; memory = mem }
    started : (behind_start limit recorded start).number ≢ unsound → start.number ≡ done

  begins_done : (m : ServerMemory) → Begins (record { number = done; memory = m })
  begins_done m = record { refused = λ other. absurd (other refl); started = λ _. refl }

  begins_refused : Begins (record { number = unsound; memory = mem })
  unfolding pick
  begins_refused = record { refused = λ _. refl; started = λ large. absurd (large refl) }

  begins : Begins (fresh_start limit mem)
  unfolding fresh_start
  begins = by_test Begins _ _ _ (λ _. begins_done _) (λ _. begins_refused)

  pub replay_started : (replay limit mem recorded).number ≢ unsound → (fresh_start limit mem).number ≡ done
  unfolding replay
  replay_started large = begins.started large

pub short_refused : ShortRefused
unfolding replay
short_refused limit mem recorded short = (begins limit mem recorded).refused short
