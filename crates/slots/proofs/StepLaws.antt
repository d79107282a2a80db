-- Laws of one record: the state after it, and memory that stays sound.
use Rattle.std.proofs.Common.{◌≡◌, refl, sym, ap, Bool, true, false, ◌||◌, List, [], ℕ, ◌≤◌, ◌<◌, arith, set, get_or, map, length, Result, Ok, Err}
use Rattle.std.proofs.lemmas.Bool.{or_parts}
use Rattle.std.proofs.lemmas.List.{map-set, get_or-map}
use Rattle.std.specs.Result.{is_ok}
use native.Mathlib.Decide.{dec_lt}
use lib.Dec.{eqb}
use Rattle.field.specs.Answer.{done}
use Rattle.field.specs.Choice.{pick}
use Rattle.field.specs.Refusal.{refusal_number}
use Rattle.field.specs.declared.Refusal.{Refusal}
use Rattle.table.specs.Table.{max_entries}
use Rattle.soundness.specs.Sound.{connections}
use Rattle.protocol.specs.Judge.{leave}
use Rattle.protocol.specs.Step.{ServerMemory, CallResult, call_step}
use Rattle.protocol.specs.Kept.{SoundMemory}
use Rattle.protocol.specs.Refused.{Concerns}
use Rattle.protocol.proofs.SoundnessLaws.{sound_kept}
use Rattle.protocol.proofs.RefusedLaws.{too_high_refused}
use Rattle.protocol.specs.Effect.{Effect, effect_of, without_output}
use Rattle.line_record.specs.Held.{Kept, keeping, gather}
use Rattle.line_record.specs.Record.{Record, opens, leaves, came}
use Rattle.line_record.specs.Replay.{run_state, step_record}
use Rattle.line_record.proofs.HeldLaws.{gather_sound}
use Rattle.effect.specs.Lent.{done_number, done_effect}
use Rattle.plant.proofs.PlantLaws.{refusal_stops}
use Rattle.gather.specs.Slot.{held_in}
use Rattle.gather.specs.declared.slot.Slot.{Slot}
use Rattle.slots.specs.Slots.{state_of}

-- every record keeps memory sound
pub step_sound : (mem : ServerMemory) (held : List (List ℕ)) → SoundMemory max_entries mem → (r : Record)
    → SoundMemory max_entries (step_record max_entries (run_state mem held) r).state.memory
unfolding step_record
step_sound mem held s (opens c) = sound_kept max_entries mem s _
step_sound mem held s (leaves c) = sound_kept max_entries mem s _
step_sound mem held s (came c arrived) = gather_sound max_entries mem c (get_or held c []) arrived s

-- ---- leaving

-- "connection number above 15": so a leaving that is done is one of a connection from 0 to 15
left_below : (mem : ServerMemory) (c : ℕ) → SoundMemory max_entries mem → (call_step max_entries mem (without_output (leave c))).number ≡ done → c < connections
left_below mem c sound e = elim (dec_lt c connections) [
  | yes l ↦ l
  | no l ↦ (
      let high : connections ≤ c = omega (arith, l) in
      absurd (omega (arith, e, ap (λ (r : CallResult). r.number) (too_high_refused max_entries mem sound c high (without_output (leave c)) Concerns.leaving))))
]

not_done : (r : Refusal) → eqb (refusal_number r) done ≡ false
not_done r = (or_parts _ _ (refusal_stops r)).0

module _ (mem after : ServerMemory) (c : ℕ) (slots : List Slot) where
  left_state : (r : Result (Unit {0}) Refusal) → done_effect r after ≡ effect_of (call_step max_entries mem (without_output (leave c)))
      → run_state after (pick (eqb (done_number r) done) (set (map held_in slots) c []) (map held_in slots)) ≡ (step_record max_entries (state_of mem slots) (leaves c)).state
  unfolding step_record
  left_state r made = ap (λ (x : Effect). run_state x.memory (pick (eqb x.number done) (set (map held_in slots) c []) (map held_in slots))) made

  pub left_within : (r : Result (Unit {0}) Refusal) → done_effect r after ≡ effect_of (call_step max_entries mem (without_output (leave c)))
      → SoundMemory max_entries mem → is_ok r ≡ true → c < connections
  left_within (Ok tt) made sound ok = left_below mem c sound (sym (ap (λ (x : Effect). x.number) made))
  left_within (Err refusal) made sound ok = absurd cc

  pub left_done : (r : Result (Unit {0}) Refusal) → done_effect r after ≡ effect_of (call_step max_entries mem (without_output (leave c)))
      → is_ok r ≡ true → (slot : Slot) → held_in slot ≡ [] → state_of after (set slots c slot) ≡ (step_record max_entries (state_of mem slots) (leaves c)).state
  unfolding pick
  left_done (Ok tt) made ok slot empty = rw (map-set held_in slots c slot, empty) (left_state (Ok tt) made)
  left_done (Err refusal) made ok slot empty = absurd cc

  pub left_refused : (r : Result (Unit {0}) Refusal) → done_effect r after ≡ effect_of (call_step max_entries mem (without_output (leave c)))
      → is_ok r ≡ false → state_of after slots ≡ (step_record max_entries (state_of mem slots) (leaves c)).state
  unfolding pick
  left_refused (Ok tt) made ok = absurd cc
  left_refused (Err refusal) made ok = rw (not_done refusal) at (left_state (Err refusal) made)

-- ---- bytes that came in

pub came_state : (mem after : ServerMemory) (c : ℕ) (slots : List Slot) (none slot : Slot) (arrived : List ℕ) → c < length slots
    → keeping after (held_in slot) ≡ (gather max_entries mem c (held_in (get_or slots c none)) arrived).kept
    → state_of after (set slots c slot) ≡ (step_record max_entries (state_of mem slots) (came c arrived)).state
unfolding step_record
came_state mem after c slots none slot arrived there kept =
    rw (get_or-map held_in slots c none [] there, map-set held_in slots c slot) (ap (λ (k : Kept). run_state k.memory (set (map held_in slots) c k.held)) kept)
