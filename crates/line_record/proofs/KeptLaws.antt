-- What holds of the state after every record: memory is sound, each connection holds part of a message, and a closed one nothing.
use mathlib.Core.Path.{◌≡◌, refl, sym, ap, ◌∙◌}
use mathlib.Core.Logic.{◌≢◌}
use mathlib.Core.Bool.{true, false, and-eq-true_iff, true≢false}
use mathlib.Core.List.{List, [], ◌++◌}
use Prim.Native.Nat.{ℕ, zero, suc, ◌≤◌, ◌<◌}
use native.Mathlib.Decide.{dec_lt, ℕ_discrete}
use native.Mathlib.Omega.{arith}
use lib.Dec.{ltb, eqb}
use lib.ListN.{length, get_or, set, drop, length-set, length-replicate, get_or-replicate}
use lib.Seq.{get_or-set_same, get_or-set_other}
use borrow.Author.Tests.{lt-ltb, eqb-true, eqb-false}
use Rattle.field.specs.Answer.{done, incomplete}
use Rattle.field.proofs.ChoiceLaws.{by_test}
use Rattle.soundness.specs.Sound.{connections, closed, open'}
use Rattle.protocol.specs.Judge.{open_connection, leave}
use Rattle.protocol.specs.Step.{ServerMemory, LentCall, CallResult, with_mark, call_step, fresh_start}
use Rattle.protocol.specs.Kept.{SoundMemory}
use Rattle.protocol.specs.Refused.{opening, leaving}
use Rattle.protocol.proofs.AnswerLaws.{call_answered}
use Rattle.protocol.proofs.DoneLaws.{open_done, leave_done}
use Rattle.protocol.proofs.RefusedLaws.{too_high_refused, closed_refused, open_again_refused}
use Rattle.protocol.proofs.SoundnessLaws.{sound_kept, start_sound}
use Rattle.protocol.specs.Effect.{Effect, with_output, without_output}
use Rattle.line_record.specs.Plant.{PlantMessage, refused_message, asks}
use Rattle.line_record.specs.Held.{plant_effect, client_call, message_effect, Settled, is_closed, settle, gather, longest_incomplete}
use Rattle.line_record.specs.Record.{Record, opens, leaves, came, NextRecord, refused_record, found, next_record, recorded_connections}
use Rattle.line_record.specs.Replay.{RunState, run_state, step_record, advance_on, advance, Ran, run, none_held, replay}
use Rattle.line_record.specs.Calls.{StateKept, ReplayKeeps}
use Rattle.line_record.proofs.HeldLaws.{gather_short, gather_sound}
use Rattle.line_record.proofs.NextLaws.{KnownRecord, NextIs, next_is}
use Rattle.line_record.proofs.MarkLaws.{OthersStay, marked, gather_others}

-- ---- a closed connection holds nothing

record Unchanged (mem : ServerMemory) (e : Effect) : Type 0 where
  unchanged : e.number ≢ done → e.memory ≡ mem

module _ (limit : ℕ) (mem : ServerMemory) where
  plant_unchanged : (p : PlantMessage) → Unchanged mem (plant_effect limit mem p)
  unfolding plant_effect
  plant_unchanged (refused_message number) = record { unchanged = λ n. refl }
  plant_unchanged (asks call size) = record { unchanged = λ n. ((call_answered limit mem (with_output limit call)).unchanged n).0 }

  -- a message that is not done changes nothing
  pub effect_unchanged : (c : ℕ) (m : List ℕ) → (message_effect limit mem c m).number ≢ done → (message_effect limit mem c m).memory ≡ mem
  unfolding message_effect
  effect_unchanged c m =
      (by_test (Unchanged mem) _ _ _ (λ _. record { unchanged = λ n. ((call_answered limit mem (client_call limit c m)).unchanged n).0 }) (λ _. plant_unchanged _)).unchanged

module _ (marks : List ℕ) (c : ℕ) (b : c < connections) where
  closed_is : is_closed marks c ≡ true → get_or marks c 0 ≡ closed
  unfolding is_closed
  closed_is e = eqb-true _ _ ((and-eq-true_iff (ltb c connections) (eqb (get_or marks c 0) closed)).0 e).1

  pub is_closed_lem : get_or marks c 0 ≡ closed → is_closed marks c ≡ true
  unfolding is_closed
  is_closed_lem e = rw (lt-ltb c connections b, e)

  pub not_closed : is_closed marks c ≡ false → get_or marks c 0 ≢ closed
  not_closed f e = true≢false (sym (is_closed_lem e) ∙ f)

record ClosedEmpty (c : ℕ) (s : Settled) : Type 0 where
  empty : get_or s.kept.memory.marks c 0 ≡ closed → s.kept.held ≡ []

settle_closed : (most limit : ℕ) (mem : ServerMemory) (c : ℕ) (held : List ℕ) → c < connections → is_closed mem.marks c ≡ false → ClosedEmpty c (settle most limit mem c held)
unfolding settle
settle_closed zero limit mem c held b f = record { empty = λ e. absurd (not_closed mem.marks c b f e) }
settle_closed (suc most) limit mem c held b f =
    by_test P _ _ _ (λ _. by_test P _ _ _ (λ i. record { empty = λ e. absurd (not_closed mem.marks c b f (sym (same i) ∙ e)) })
    (λ _. by_test P _ _ _
    (λ _. by_test P (is_closed (message_effect limit mem c held).memory.marks c) _ _ (λ _. none)
    (λ g. record { empty = (settle_closed most limit (message_effect limit mem c held).memory c (drop (message_effect limit mem c held).taken held) b g).empty }))
    (λ _. none)))
    (λ _. none)
  where
    P : Settled → Type 0
    P = ClosedEmpty c

    none : {after : ServerMemory} {calls : List LentCall} → ClosedEmpty c (record { kept = record { memory = after; held = [] }; calls = calls })
    none = record { empty = λ e. refl }

    same : eqb (message_effect limit mem c held).number incomplete ≡ true → get_or (message_effect limit mem c held).memory.marks c 0 ≡ get_or mem.marks c 0
    same i =
        ap (λ (x : ServerMemory). get_or x.marks c 0) (effect_unchanged limit mem c held (λ d. omega (arith, d, eqb-true (message_effect limit mem c held).number incomplete i)))

gather_closed : (limit : ℕ) (mem : ServerMemory) (c : ℕ) (held arrived : List ℕ) → c < connections → (get_or mem.marks c 0 ≡ closed → held ≡ [])
    → ClosedEmpty c (gather limit mem c held arrived)
unfolding gather
gather_closed limit mem c held arrived b h =
    by_test (ClosedEmpty c) (is_closed mem.marks c) _ _ (λ _. record { empty = h }) (λ f. settle_closed (length (held ++ arrived)) limit mem c (held ++ arrived) b f)

-- ---- a record

module _ (limit : ℕ) (s : RunState) (k : StateKept limit s) where
  -- memory as it was
  still : (mem : ServerMemory) → mem ≡ s.memory → StateKept limit (run_state mem s.held)
  still mem e = rw e (record { sound = k.sound; lists = k.lists; short = k.short; closed_empty = k.closed_empty })

  opened_keeps : (c : ℕ) → Dec (c < connections) → Dec (get_or s.memory.marks c 0 ≡ closed)
      → StateKept limit (run_state (call_step limit s.memory (without_output (open_connection c))).memory s.held)
  opened_keeps c (no h) q = still _ (ap (λ (r : CallResult). r.memory) (too_high_refused limit s.memory k.sound c (omega arith) (without_output (open_connection c)) opening))
  opened_keeps c (yes b) (no n) = still _ (ap (λ (r : CallResult). r.memory) (open_again_refused limit s.memory k.sound c b n []))
  opened_keeps c (yes b) (yes e) = record {
    sound = sound_kept limit s.memory k.sound (without_output (open_connection c));
    lists = k.lists;
    short = k.short;
    closed_empty = λ d l shut. k.closed_empty d l (before d (rw (open_done limit s.memory k.sound c b e []) at shut) (ℕ_discrete d c));
  }
    where
      before : (d : ℕ) → get_or (set s.memory.marks c open') d 0 ≡ closed → Dec (d ≡ c) → get_or s.memory.marks d 0 ≡ closed
      before d shut (yes q) = rw q e
      before d shut (no n) = sym (get_or-set_other s.memory.marks c d open' 0 n) ∙ shut

  -- other bytes of one connection, where no other's mark changes
  one_changed : (mem : ServerMemory) (c : ℕ) (bytes : List ℕ) → SoundMemory limit mem → c < recorded_connections → length bytes ≤ longest_incomplete
      → OthersStay c s.memory mem → (c < connections → get_or mem.marks c 0 ≡ closed → bytes ≡ []) → StateKept limit (run_state mem (set s.held c bytes))
  one_changed mem c bytes sound b small others empty = record {
    sound = sound;
    lists = length-set s.held c bytes ∙ k.lists;
    short = λ d l. short_at d l (ℕ_discrete d c);
    closed_empty = λ d l shut. empty_at d l shut (ℕ_discrete d c);
  }
    where
      own : get_or (set s.held c bytes) c [] ≡ bytes
      own = get_or-set_same s.held c bytes [] (omega (arith, k.lists))

      short_at : (d : ℕ) → d < recorded_connections → Dec (d ≡ c) → length (get_or (set s.held c bytes) d []) ≤ longest_incomplete
      short_at d l (yes q) = rw (q, own) small
      short_at d l (no n) = rw (get_or-set_other s.held c d bytes [] n) (k.short d l)

      empty_at : (d : ℕ) → d < connections → get_or mem.marks d 0 ≡ closed → Dec (d ≡ c) → get_or (set s.held c bytes) d [] ≡ []
      empty_at d l shut (yes q) = rw (q, own) (empty (omega arith) (rw q at shut))
      empty_at d l shut (no n) = get_or-set_other s.held c d bytes [] n ∙ k.closed_empty d l (sym (others.stay d n) ∙ shut)

  came_keeps : (c : ℕ) (arrived : List ℕ) → c < recorded_connections → StateKept limit (step_record limit s (came c arrived)).state
  unfolding step_record
  came_keeps c arrived b =
      let held = get_or s.held c [] in
      one_changed (gather limit s.memory c held arrived).kept.memory c (gather limit s.memory c held arrived).kept.held (gather_sound limit s.memory c held arrived k.sound) b
      (gather_short limit s.memory c held arrived (k.short c b)) (gather_others limit s.memory c held arrived)
      (λ l. (gather_closed limit s.memory c held arrived l (k.closed_empty c l)).empty)

  -- a leaving that is done
  left_done : (c : ℕ) → Dec (c < connections) → Dec (get_or s.memory.marks c 0 ≡ closed) → (call_step limit s.memory (without_output (leave c))).number ≡ done
      → (c < connections) × ((call_step limit s.memory (without_output (leave c))).memory ≡ with_mark s.memory c closed)
  left_done c (no h) q e =
      let number = ap (λ (r : CallResult). r.number) (too_high_refused limit s.memory k.sound c (omega arith) (without_output (leave c)) leaving) in
      absurd (omega (arith, number, e))
  left_done c (yes b) (yes q) e =
      let number = ap (λ (r : CallResult). r.number) (closed_refused limit s.memory k.sound c b q [] []).left in
      absurd (omega (arith, number, e))
  left_done c (yes b) (no n) e = (b, ap (λ (r : CallResult). r.memory) (leave_done limit s.memory k.sound c b n []))

  left_keeps : (c : ℕ) → StateKept limit (step_record limit s (leaves c)).state
  unfolding step_record
  left_keeps c =
      let call = without_output (leave c) in
      by_test (λ (held : List (List ℕ)). StateKept limit (run_state (call_step limit s.memory call).memory held)) _ _ _
      (λ e.
      let d = left_done c (dec_lt c connections) (ℕ_discrete (get_or s.memory.marks c 0) closed) (eqb-true _ _ e) in
      one_changed (call_step limit s.memory call).memory c [] (sound_kept limit s.memory k.sound call) (omega (arith, d.0)) (omega arith) (rw d.1 (marked c closed s.memory)) (λ _ _. refl))
      (λ e. still (call_step limit s.memory call).memory ((call_answered limit s.memory call).unchanged (eqb-false _ _ e)).0)

pub step_keeps : (limit : ℕ) (s : RunState) (r : Record) → KnownRecord r → StateKept limit s → StateKept limit (step_record limit s r).state
step_keeps limit s (opens c) f k = unfold step_record in opened_keeps limit s k c (dec_lt c connections) (ℕ_discrete (get_or s.memory.marks c 0) closed)
step_keeps limit s (leaves c) f k = left_keeps limit s k c
step_keeps limit s (came c arrived) (KnownRecord.bytes_came b) k = came_keeps limit s k c arrived b

-- ---- records

pub advance_keeps : (limit : ℕ) (s : RunState) (bytes : List ℕ) → StateKept limit s → StateKept limit (advance limit s bytes).state
advance_keeps limit s bytes k = go (next_record bytes) (next_is bytes)
  where
    go : (n : NextRecord) → NextIs bytes n → StateKept limit (advance_on limit s n).state
    go (refused_record number) f = unfold advance_on in k
    go (found r size) (NextIs.there f l) = unfold advance_on in step_keeps limit s r f k

record RanKept (limit : ℕ) (r : Ran) : Type 0 where
  kept : StateKept limit r.state

run_kept : (most limit : ℕ) (s : RunState) (bytes : List ℕ) → StateKept limit s → RanKept limit (run most limit s bytes)
unfolding run
run_kept zero limit s bytes k = record { kept = k }
run_kept (suc most) limit s bytes k =
    by_test (RanKept limit) _ _ _ (λ _. by_test (RanKept limit) _ _ _
    (λ _. record { kept = (run_kept most limit (advance limit s bytes).state (drop (advance limit s bytes).size bytes) (advance_keeps limit s bytes k)).kept })
    (λ _. record { kept = k })) (λ _. record { kept = k })

pub run_keeps : (most limit : ℕ) (s : RunState) (bytes : List ℕ) → StateKept limit s → StateKept limit (run most limit s bytes).state
run_keeps most limit s bytes k = (run_kept most limit s bytes k).kept

pub start_kept : (limit : ℕ) (mem : ServerMemory) → (fresh_start limit mem).number ≡ done → StateKept limit (run_state (fresh_start limit mem).memory none_held)
start_kept limit mem started = record {
  sound = start_sound limit mem started;
  lists = length-replicate {A = List ℕ} recorded_connections [];
  short = λ c l. rw (get_or-replicate {A = List ℕ} recorded_connections c [] [] l) (omega arith);
  closed_empty = λ c l shut. get_or-replicate {A = List ℕ} recorded_connections c [] [] (omega arith);
}

pub replay_keeps : ReplayKeeps
unfolding replay
replay_keeps limit mem started recorded =
    (by_test (RanKept limit) _ _ _ (λ _. run_kept (length recorded) limit (run_state (fresh_start limit mem).memory none_held) recorded (start_kept limit mem started))
    (λ _. record { kept = start_kept limit mem started })).kept
