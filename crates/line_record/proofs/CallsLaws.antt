-- A replay is its calls: memory is what they leave, one by one.
use mathlib.Core.Path.{◌≡◌, refl, sym, ap, ◌∙◌}
use mathlib.Core.Bool.{Bool, true, false}
use mathlib.Core.List.{List, [], ◌∷◌, ◌++◌}
use Prim.Native.Nat.{ℕ, zero, suc}
use lib.Dec.{ltb}
use lib.ListN.{length, drop, get_or}
use Rattle.field.specs.Answer.{done}
use Rattle.field.specs.Choice.{pick}
use Rattle.field.proofs.ChoiceLaws.{by_test}
use Rattle.table.specs.Table.{entries_of}
use Rattle.soundness.specs.Sound.{connections}
use Rattle.protocol.specs.Step.{ServerMemory, LentCall, call_step, fresh_start}
use Rattle.protocol.specs.Run.{memory_after_run}
use Rattle.convergence.proofs.RunLaws.{run_append}
use Rattle.protocol.specs.Effect.{effect_of}
use Rattle.line_record.specs.Plant.{PlantMessage, refused_message, asks, plant_message}
use Rattle.line_record.specs.Held.{plant_effect, plant_calls, client_call, message_effect, message_calls, Settled, settled, settle, gather}
use Rattle.line_record.specs.Record.{Record, opens, leaves, came, NextRecord, refused_record, found, next_record}
use Rattle.line_record.specs.Replay.{RunState, run_state, step_record, advance_on, advance, Ran, stopped, run, none_held, replay}
use Rattle.line_record.specs.Calls.{ReplayIsCalls}

-- ---- the calls of a connection's bytes

module _ (limit : ℕ) (mem : ServerMemory) where
  plant_memory : (p : PlantMessage) → (plant_effect limit mem p).memory ≡ memory_after_run limit mem (plant_calls limit p)
  unfolding plant_effect memory_after_run
  plant_memory (refused_message number) = refl
  plant_memory (asks call size) = refl

  pub effect_memory : (c : ℕ) (m : List ℕ) → (message_effect limit mem c m).memory ≡ memory_after_run limit mem (message_calls limit mem c m)
  unfolding message_effect message_calls
  effect_memory c m = go (ltb c connections) (plant_message (entries_of mem.table) m)
    where
      go : (b : Bool) (p : PlantMessage) → (pick b (effect_of (call_step limit mem (client_call limit c m))) (plant_effect limit mem p)).memory
          ≡ memory_after_run limit mem (pick b (client_call limit c m ∷ []) (plant_calls limit p))
      go true p = unfold pick memory_after_run in refl
      go false p = unfold pick in plant_memory p

  -- memory is that after the calls
  record SettledBy (s : Settled) : Type 0 where
    by_calls : s.kept.memory ≡ memory_after_run limit mem s.calls

  no_calls : (held : List ℕ) → SettledBy (settled mem held [])
  unfolding memory_after_run
  no_calls held = record { by_calls = refl }

  -- more calls behind some
  pub more_calls : (next last : ServerMemory) (ks ls : List LentCall) → next ≡ memory_after_run limit mem ks → last ≡ memory_after_run limit next ls
      → last ≡ memory_after_run limit mem (ks ++ ls)
  more_calls next last ks ls e f = f ∙ ap (λ (x : ServerMemory). memory_after_run limit x ls) e ∙ sym (run_append limit mem ks ls)

settle_by_calls : (most limit : ℕ) (mem : ServerMemory) (c : ℕ) (held : List ℕ) → SettledBy limit mem (settle most limit mem c held)
unfolding settle
settle_by_calls zero limit mem c held = no_calls limit mem held
settle_by_calls (suc most) limit mem c held =
    by_test P _ _ _ (λ _. by_test P _ _ _ (λ _. record { by_calls = made }) (λ _. by_test P _ _ _
    (λ _. by_test P _ _ _ (λ _. record { by_calls = made })
    (λ _. record { by_calls = more_calls limit mem next _ _ _ made (settle_by_calls most limit next c (drop (message_effect limit mem c held).taken held)).by_calls }))
    (λ _. record { by_calls = more_calls limit mem next _ _ _ made refl })))
    (λ _. no_calls limit mem [])
  where
    P : Settled → Type 0
    P = SettledBy limit mem

    next : ServerMemory
    next = (message_effect limit mem c held).memory

    made : (message_effect limit mem c held).memory ≡ memory_after_run limit mem (message_calls limit mem c held)
    made = effect_memory limit mem c held

pub settle_memory : (most limit : ℕ) (mem : ServerMemory) (c : ℕ) (held : List ℕ)
    → (settle most limit mem c held).kept.memory ≡ memory_after_run limit mem (settle most limit mem c held).calls
settle_memory most limit mem c held = (settle_by_calls most limit mem c held).by_calls

pub gather_memory : (limit : ℕ) (mem : ServerMemory) (c : ℕ) (held arrived : List ℕ)
    → (gather limit mem c held arrived).kept.memory ≡ memory_after_run limit mem (gather limit mem c held arrived).calls
unfolding gather
gather_memory limit mem c held arrived =
    (by_test (SettledBy limit mem) _ _ _ (λ _. no_calls limit mem held) (λ _. settle_by_calls (length (held ++ arrived)) limit mem c (held ++ arrived))).by_calls

-- ---- the calls of records

pub step_memory : (limit : ℕ) (s : RunState) (r : Record) → (step_record limit s r).state.memory ≡ memory_after_run limit s.memory (step_record limit s r).calls
unfolding step_record memory_after_run
step_memory limit s (opens c) = refl
step_memory limit s (leaves c) = refl
step_memory limit s (came c arrived) = gather_memory limit s.memory c (get_or s.held c []) arrived

pub advance_memory : (limit : ℕ) (s : RunState) (bytes : List ℕ) → (advance limit s bytes).state.memory ≡ memory_after_run limit s.memory (advance limit s bytes).calls
advance_memory limit s bytes = go (next_record bytes)
  where
    go : (n : NextRecord) → (advance_on limit s n).state.memory ≡ memory_after_run limit s.memory (advance_on limit s n).calls
    go (refused_record number) = unfold advance_on memory_after_run in refl
    go (found r size) = unfold advance_on in step_memory limit s r

record RanBy (limit : ℕ) (mem : ServerMemory) (r : Ran) : Type 0 where
  by_calls : r.state.memory ≡ memory_after_run limit mem r.calls

stopped_by_calls : (limit number : ℕ) (s : RunState) → RanBy limit s.memory (stopped number s)
unfolding memory_after_run
stopped_by_calls limit number s = record { by_calls = refl }

run_by_calls : (most limit : ℕ) (s : RunState) (bytes : List ℕ) → RanBy limit s.memory (run most limit s bytes)
unfolding run
run_by_calls zero limit s bytes = stopped_by_calls limit done s
run_by_calls (suc most) limit s bytes =
    by_test (RanBy limit s.memory) _ _ _ (λ _. by_test (RanBy limit s.memory) _ _ _
    (λ _. record {
      by_calls =
          more_calls limit s.memory (advance limit s bytes).state.memory _ _ _ (advance_memory limit s bytes)
          (run_by_calls most limit (advance limit s bytes).state (drop (advance limit s bytes).size bytes)).by_calls;
    })
    (λ _. stopped_by_calls limit (advance limit s bytes).number s))
    (λ _. stopped_by_calls limit done s)

pub run_memory : (most limit : ℕ) (s : RunState) (bytes : List ℕ) → (run most limit s bytes).state.memory ≡ memory_after_run limit s.memory (run most limit s bytes).calls
run_memory most limit s bytes = (run_by_calls most limit s bytes).by_calls

pub replay_is_calls : ReplayIsCalls
unfolding replay
replay_is_calls limit mem recorded =
    (by_test (RanBy limit (fresh_start limit mem).memory) _ _ _ (λ _. run_by_calls (length recorded) limit s recorded) (λ _. stopped_by_calls limit (fresh_start limit mem).number s)).by_calls
  where
    s : RunState
    s = run_state (fresh_start limit mem).memory none_held
