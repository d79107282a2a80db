-- Laws of the start of a run: no connection holds anything.
use Rattle.std.proofs.Common.{◌≡◌, refl, sym, ◌∙◌, List, [], ℕ, map, length, replicate}
use borrow.Author.Tests.{eq-eqb, ne_eqb}
use Rattle.field.specs.Answer.{done}
use Rattle.field.proofs.ChoiceLaws.{pick_true, pick_false}
use Rattle.table.specs.Table.{max_entries}
use Rattle.protocol.specs.Step.{ServerMemory, fresh_start}
use Rattle.protocol.specs.Kept.{SoundMemory}
use Rattle.protocol.proofs.SoundnessLaws.{start_sound}
use Rattle.line_record.specs.Record.{recorded_connections}
use Rattle.line_record.specs.Replay.{run_state, Ran, stopped, run, none_held, replay, ReplayResult, result_of}
use Rattle.gather.specs.Slot.{held_in}
use Rattle.gather.specs.declared.slot.Slot.{Slot}
use Rattle.slots.specs.Slots.{state_of}

-- slots of which none holds anything
none_held_lem : (slot : Slot) → held_in slot ≡ [] → map held_in (replicate recorded_connections slot) ≡ none_held
none_held_lem slot e = let all : map held_in (replicate recorded_connections slot) ≡ replicate recorded_connections (held_in slot) = refl in rw (all, e) refl

-- the fresh start, as the code answers it
module _ (mem mem' : ServerMemory) (recorded : List ℕ) (number : ℕ) (e : number ≡ (fresh_start max_entries mem).number) (f : mem' ≡ (fresh_start max_entries mem).memory) where
  -- all that is run where it is done, and what is answered where it is not
  abbrev ran : Ran
  ran = run (length recorded) max_entries (run_state (fresh_start max_entries mem).memory none_held) recorded

  abbrev refused : Ran
  refused = stopped (fresh_start max_entries mem).number (run_state (fresh_start max_entries mem).memory none_held)

  pub replay_refused : (number ≡ done → ⊥) → record { number = number; records = 0; memory = mem' } ≡ result_of (replay max_entries mem recorded)
  unfolding replay
  replay_refused other = rw (pick_false ran refused (ne_eqb (fresh_start max_entries mem).number done (λ z. other (e ∙ z))), e, f)

  pub started : number ≡ done → SoundMemory max_entries mem'
  started d = rw f (start_sound max_entries mem (sym e ∙ d))

  pub replay_ran : number ≡ done → (slot : Slot) → held_in slot ≡ [] → (r : ReplayResult)
      → r ≡ result_of (run (length recorded) max_entries (state_of mem' (replicate recorded_connections slot)) recorded) → r ≡ result_of (replay max_entries mem recorded)
  unfolding replay
  replay_ran d slot empty r h =
      rw (pick_true ran refused (eq-eqb (fresh_start max_entries mem).number done (sym e ∙ d)), ← f, ← (none_held_lem slot empty)) h
