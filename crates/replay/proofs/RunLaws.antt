-- Laws of the run: a record that is done or refused, and the loop over records.
use Rattle.std.proofs.Common.{◌≡◌, refl, sym, ap, ◌∙◌, List, ℕ, suc, ◌+◌, ◌-◌, ◌≤◌, ◌<◌, arith, length, drop, length-drop, Result, Ok, Err}
use native.Mathlib.Nat.{add-zero, zero-add, add_assoc}
use lib.Seq.{drop-drop}
use Rattle.field.specs.Answer.{done}
use Rattle.field.specs.Refusal.{refusal_number}
use Rattle.field.specs.declared.Refusal.{Refusal}
use Rattle.table.specs.Table.{max_entries}
use Rattle.protocol.specs.Kept.{SoundMemory}
use Rattle.protocol.specs.Step.{ServerMemory, LentCall}
use Rattle.line_record.specs.Record.{Record, refused_record, found, next_record}
use Rattle.line_record.specs.Replay.{RunState, step_record, advance_on, advance, Ran, stopped, behind, run, ReplayResult, result_of}
use Rattle.line_record.proofs.NextLaws.{advance_done}
use Rattle.line_record.proofs.AnsweredLaws.{record_refused}
use Rattle.line_record.proofs.RunLaws.{run_spent, run_refused, run_on}
use Rattle.gather.specs.declared.slot.Slot.{Slot}
use Rattle.slots.specs.Slots.{state_of}
use Rattle.replay.specs.Lent.{progress_number, progress_size, ProgressIs}

-- ---- one record

module _ (s : RunState) (bytes : List ℕ) where
  pub progress_refused : (refusal : Refusal) → refused_record (refusal_number refusal) ≡ next_record bytes → ProgressIs (Err refusal) (advance max_entries s bytes) s
  unfolding advance_on
  progress_refused refusal e = rw (← e) (record { number = refl; size = refl; state = refl })

  pub progress_found : (r : Record) (size : ℕ) (s' : RunState) → found r size ≡ next_record bytes → s' ≡ (step_record max_entries s r).state
      → ProgressIs (Ok size) (advance max_entries s bytes) s'
  unfolding advance_on
  progress_found r size s' e f = rw (← e) (record { number = refl; size = refl; state = f })

-- one that is done takes bytes
advance_takes : (s : RunState) (bytes : List ℕ) → (advance max_entries s bytes).number ≡ done → 1 ≤ (advance max_entries s bytes).size
advance_takes s bytes e = omega (arith, (advance_done max_entries s bytes e).size_is)

-- ---- the run

-- what a run comes to, behind records that were done
abbrev after : (records : ℕ) → Ran → ReplayResult
after records r = record { number = r.number; records = records + r.records; memory = r.state.memory }

-- behind none, and behind one more
after_none : (r : Ran) → after 0 r ≡ result_of r
after_none r = ap (λ (k : ℕ). record { number = r.number; records = k; memory = r.state.memory }) (zero-add r.records)

after_one : (records : ℕ) (calls : List LentCall) (r : Ran) → after (records + 1) r ≡ after records (behind 1 calls r)
after_one records calls r = ap (λ (k : ℕ). record { number = r.number; records = k; memory = r.state.memory }) (add_assoc records 1 r.records)

-- in the loop: from here on the records that are left come to what all come to
pub record Reached (s₀ : RunState) (bytes : List ℕ) (mem : ServerMemory) (slots : List Slot) (at records : ℕ) : Type 0 where
  pub within : at ≤ length bytes
  pub few : records ≤ at
  pub ready : SoundMemory max_entries mem
  pub most : ℕ
  pub enough : length bytes ≤ most + at
  pub result : after records (run most max_entries (state_of mem slots) (drop at bytes)) ≡ result_of (run (length bytes) max_entries s₀ bytes)

pub reached_start : (bytes : List ℕ) (mem : ServerMemory) (slots : List Slot) → SoundMemory max_entries mem → Reached (state_of mem slots) bytes mem slots 0 0
reached_start bytes mem slots r = record { within = omega arith; few = omega arith; ready = r; most = length bytes; enough = omega arith; result = after_none (run (length bytes) max_entries (state_of mem slots) bytes) }

module _ {s₀ : RunState} {bytes : List ℕ} {mem : ServerMemory} {slots : List Slot} {at records : ℕ} (l : Reached s₀ bytes mem slots at records) where
  -- what is left comes to this
  comes_to_lem : (x : Ran) → run l.most max_entries (state_of mem slots) (drop at bytes) ≡ x → after records x ≡ result_of (run (length bytes) max_entries s₀ bytes)
  comes_to_lem x e = ap (after records) (sym e) ∙ l.result

  stopped_at : (number : ℕ) → run l.most max_entries (state_of mem slots) (drop at bytes) ≡ stopped number (state_of mem slots)
      → record { number = number; records = records; memory = mem } ≡ result_of (run (length bytes) max_entries s₀ bytes)
  stopped_at number e =
      ap (λ (k : ℕ). record { number = number; records = k; memory = mem }) (sym (add-zero records)) ∙ comes_to_lem (stopped number (state_of mem slots)) e

  pub ran_spent : length bytes ≤ at → record { number = done; records = records; memory = mem } ≡ result_of (run (length bytes) max_entries s₀ bytes)
  ran_spent h = stopped_at done (run_spent l.most max_entries (state_of mem slots) (drop at bytes) (simp length-drop (omega arith)))

  module _ (more : at < length bytes) (r : Result ℕ Refusal) (mem' : ServerMemory) (slots' : List Slot)
      (p : ProgressIs r (advance max_entries (state_of mem slots) (drop at bytes)) (state_of mem' slots')) where
    one : l.most ≡ suc (l.most - 1)
    one = omega (arith, l.enough)

    left : 0 < length (drop at bytes)
    left = simp length-drop (omega arith)

    from_one : (x : Ran) → run (suc (l.most - 1)) max_entries (state_of mem slots) (drop at bytes) ≡ x → run l.most max_entries (state_of mem slots) (drop at bytes) ≡ x
    from_one x e = ap (λ (k : ℕ). run k max_entries (state_of mem slots) (drop at bytes)) one ∙ e

    pub ran_refused : (progress_number r ≡ done → ⊥) → record { number = progress_number r; records = records; memory = mem' } ≡ result_of (run (length bytes) max_entries s₀ bytes)
    ran_refused ne =
        let other : (advance max_entries (state_of mem slots) (drop at bytes)).number ≡ done → ⊥ = λ e. ne (p.number ∙ e) in
        let same : mem' ≡ mem = ap (λ (s : RunState). s.memory) (p.state ∙ (record_refused max_entries (state_of mem slots) (drop at bytes) other).0) in
        rw (same, p.number) (stopped_at _ (from_one _ (run_refused (l.most - 1) max_entries (state_of mem slots) (drop at bytes) left other)))

    pub takes_some : progress_number r ≡ done → 1 ≤ progress_size r
    takes_some e = rw p.size (advance_takes (state_of mem slots) (drop at bytes) (sym p.number ∙ e))

    same_rest : run (l.most - 1) max_entries (state_of mem' slots') (drop (at + progress_size r) bytes)
        ≡ run (l.most - 1) max_entries (advance max_entries (state_of mem slots) (drop at bytes)).state
        (drop (advance max_entries (state_of mem slots) (drop at bytes)).size (drop at bytes))
    same_rest = rw (← p.state, ← p.size, drop-drop (progress_size r) at bytes)

    pub reached_on : progress_number r ≡ done → progress_size r ≤ length (drop at bytes) → SoundMemory max_entries mem' → Reached s₀ bytes mem' slots' (at + progress_size r) (records + 1)
    reached_on e there ready' =
        let a = advance max_entries (state_of mem slots) (drop at bytes) in
        let rest = run (l.most - 1) max_entries a.state (drop a.size (drop at bytes)) in
        record {
          within = omega (arith, length-drop at bytes);
          few = omega (arith, l.few, takes_some e);
          ready = ready';
          most = l.most - 1;
          enough = omega (arith, l.enough, takes_some e);
          result =
              ap (after (records + 1)) same_rest
              ∙ after_one records a.calls rest
              ∙ comes_to_lem (behind 1 a.calls rest) (from_one _ (run_on (l.most - 1) max_entries (state_of mem slots) (drop at bytes) left (sym p.number ∙ e)));
        }
