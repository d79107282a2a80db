-- Laws of a record that is run in pieces, as it is read, and of its text.
use Rattle.std.proofs.Common.{◌≡◌, ◌≢◌, refl, sym, ap, ◌∙◌, List, [], ◌++◌, ℕ, suc, ◌+◌, ◌-◌, ◌*◌, ◌≤◌, arith, length, take, drop, get_or, replicate, length-drop, Ok, Err}
use lib.Seq.{length-take-le}
use Rattle.field.specs.Answer.{done}
use Rattle.table.specs.Table.{max_entries, head_size, entry_size, entries_of}
use Rattle.soundness.specs.Sound.{connections}
use Rattle.protocol.specs.Step.{ServerMemory, StartResult, fresh_start}
use Rattle.protocol.proofs.DoneLaws.{fresh_start_done}
use Rattle.line_record.specs.Record.{record_head_size, data_size, recorded_connections}
use Rattle.line_record.specs.Replay.{RunState, Advanced, advance, Ran, stopped, behind, run, replay, result_of}
use Rattle.line_record.proofs.NextLaws.{advance_done}
use Rattle.line_record.proofs.AnsweredLaws.{record_refused}
use Rattle.line_record.proofs.RunLaws.{run_spent, run_refused, run_on, advance_looks_at, run_in_pieces}
use Rattle.field.specs.Refusal.{refusal_number}
use Rattle.field.specs.declared.Refusal.{Refusal}
use Rattle.replay.specs.Lent.{ProgressIs}
use Rattle.plant.proofs.PlantLaws.{refusal_stops}
use Rattle.gather.specs.Slot.{held_in}
use Rattle.gather.specs.declared.slot.Slot.{Slot}
use Rattle.replay.proofs.StartLaws.{replay_ran}
use Rattle.slots.specs.Slots.{state_of}
use Rattle.digits.specs.Put.{Put}
use Rattle.table_text.specs.Text.{end_text}
use Rattle.replay_main.specs.Shown.{result_text, replay_text, Runs, Shows}

pub runs_nothing : (s : RunState) → Runs s done s
runs_nothing s =
    let e = run_spent 0 max_entries s [] refl in
    record { recorded = []; number_is = ap (λ (r : Ran). r.number) e; state_is = ap (λ (r : Ran). r.state) e }

-- a piece more
module _ {s₀ s : RunState} (h : Runs s₀ done s) (p : List ℕ) (r : Ran) (e : run (length p) max_entries s p ≡ r) where
  joined : run (length (h.recorded ++ p)) max_entries s₀ (h.recorded ++ p)
      ≡ behind (run (length h.recorded) max_entries s₀ h.recorded).records (run (length h.recorded) max_entries s₀ h.recorded).calls r
  joined =
      let first = run (length h.recorded) max_entries s₀ h.recorded in
      run_in_pieces max_entries s₀ h.recorded p h.number_is
      ∙ ap (behind first.records first.calls) (ap (λ (x : RunState). run (length p) max_entries x p) h.state_is ∙ e)

  runs_more : Runs s₀ r.number r.state
  runs_more = record { recorded = h.recorded ++ p; number_is = ap (λ (x : Ran). x.number) joined; state_is = ap (λ (x : Ran). x.state) joined }

module _ {s₀ s : RunState} (h : Runs s₀ done s) (p : List ℕ) (some : 1 ≤ length p) where
  one : suc (length p - 1) ≡ length p
  one = omega arith

  runs_refused : (advance max_entries s p).number ≢ done → Runs s₀ (advance max_entries s p).number s
  runs_refused other =
      runs_more h p (stopped (advance max_entries s p).number s) (ap (λ (k : ℕ). run k max_entries s p) (sym one) ∙ run_refused (length p - 1) max_entries s p some other)

-- a piece that is exactly a record
module _ {s₀ s : RunState} (h : Runs s₀ done s) (p : List ℕ) (is_done : (advance max_entries s p).number ≡ done) where
  same : advance max_entries s (take (record_head_size + data_size (get_or p 0 0)) p) ≡ advance max_entries s p
  same = advance_looks_at max_entries s p

  long : length (take (record_head_size + data_size (get_or p 0 0)) p) ≡ record_head_size + data_size (get_or p 0 0)
  long = let a = advance_done max_entries s p is_done in length-take-le (record_head_size + data_size (get_or p 0 0)) p (omega (arith, a.size_is, a.there))

  runs_on : Runs s₀ done (advance max_entries s p).state
  runs_on =
      let q = take (record_head_size + data_size (get_or p 0 0)) p in
      let a = advance max_entries s q in
      let number : a.number ≡ done = ap (λ (x : Advanced). x.number) same ∙ is_done in
      let some : 1 ≤ length q = omega (arith, long) in
      let one : length q ≡ suc (length q - 1) = omega (arith, long) in
      let all : a.size ≡ length q = ap (λ (x : Advanced). x.size) same ∙ (advance_done max_entries s p is_done).size_is ∙ sym long in
      let none : length (drop a.size q) ≡ 0 = omega (arith, length-drop a.size q, all) in
      let rest = run_spent (length q - 1) max_entries a.state (drop a.size q) none in
      let ran = ap (λ (k : ℕ). run k max_entries s q) one ∙ run_on (length q - 1) max_entries s q some number ∙ ap (behind 1 a.calls) rest in
      rw (← (ap (λ (x : Advanced). x.state) same)) (runs_more h q (behind 1 a.calls (stopped done a.state)) ran)

-- as the code does a piece
module _ {s₀ s : RunState} (h : Runs s₀ done s) (p : List ℕ) (s' : RunState) where
  pub piece_refused : (refusal : Refusal) → ProgressIs (Err refusal) (advance max_entries s p) s' → 1 ≤ length p → Runs s₀ (refusal_number refusal) s'
  piece_refused refusal e some =
      let other : (advance max_entries s p).number ≢ done = λ d. (let k = rw (e.number ∙ d) at (refusal_stops refusal) in absurd cc) in
      rw (e.number, e.state ∙ (record_refused max_entries s p other).0) (runs_refused h p some other)

  pub piece_done : (size : ℕ) → ProgressIs (Ok size) (advance max_entries s p) s' → Runs s₀ done s'
  piece_done size e = rw e.state (runs_on h p (sym e.number))

-- ---- the text

-- memory of a table's size is large enough
pub start_done : (mem : ServerMemory) → length mem.table.heads ≡ head_size * max_entries → length mem.table.bytes ≡ entry_size * max_entries → length mem.marks ≡ connections
    → (fresh_start max_entries mem).number ≡ done
start_done mem h b m =
    ap (λ (r : StartResult). r.number) (fresh_start_done max_entries mem (record { heads_hold = omega (arith, h); bytes_hold = omega (arith, b) }) (omega (arith, m)))

module _ (mem fresh : ServerMemory) (number : ℕ) (e : number ≡ (fresh_start max_entries mem).number) (f : fresh ≡ (fresh_start max_entries mem).memory) (d : number ≡ done)
    (slot : Slot) (empty : held_in slot ≡ []) where
  pub shows : (n : ℕ) (mem' : ServerMemory) (slots : List Slot) (buffer text : List ℕ) (end : ℕ)
      → Runs (state_of fresh (replicate recorded_connections slot)) n (state_of mem' slots)
      → Put buffer 0 (end_text n (entries_of mem'.table)) text end → Shows mem buffer text end
  unfolding replay_text
  shows n mem' slots buffer text end h p =
      let r = run (length h.recorded) max_entries (state_of fresh (replicate recorded_connections slot)) h.recorded in
      let whole : result_of r ≡ result_of (replay max_entries mem h.recorded) = replay_ran mem fresh h.recorded number e f d slot empty (result_of r) refl in
      let memory : r.state.memory ≡ mem' = ap (λ (s : RunState). s.memory) h.state_is in
      let same : result_text (result_of r) ≡ end_text n (entries_of mem'.table) = rw (h.number_is, memory) in
      record { recorded = h.recorded; shown = rw (← (ap result_text whole), same) p }
