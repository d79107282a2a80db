-- Laws of a run over records: what its first record comes to, and that a record can be run in pieces.
use mathlib.Core.Path.{◌≡◌, refl, sym, ap, ◌∙◌}
use mathlib.Core.Bool.{Bool, true, false, false≢true}
use mathlib.Core.Logic.{◌≢◌}
use mathlib.Core.List.{List, [], ◌∷◌, ◌++◌, append_assoc}
use Prim.Native.Nat.{ℕ, zero, suc, ◌+◌, ◌-◌, ◌≤◌, ◌<◌}
use native.Mathlib.Decide.{dec_lt, ℕ_discrete}
use native.Mathlib.Nat.{zero-add, add_assoc}
use native.Mathlib.Omega.{arith}
use lib.ListN.{length, get_or, drop, length-append, length-drop}
use lib.Seq.{drop-append-le}
use lib.Dec.{eqb}
use borrow.Author.Tests.{le-leb, lt-leb, eq-eqb, ne_eqb}
use Rattle.field.specs.Answer.{done}
use Rattle.field.specs.Choice.{pick, demand}
use Rattle.field.proofs.ChoiceLaws.{pick_true, pick_false}
use Rattle.protocol.specs.Step.{LentCall, fresh_start}
use Rattle.line_record.specs.Record.{record_head_size, data_size}
use Rattle.line_record.specs.Replay.{RunState, run_state, Advanced, advance_on, advance, Ran, stopped, behind, run, none_held, replay}
use Rattle.line_record.specs.Calls.{RunInPieces, ReplayInPieces, AdvanceLooksAt}
use Rattle.line_record.proofs.NextLaws.{looks_at, advance_done, advance_before}

pub no_bytes : (bytes : List ℕ) → length bytes ≡ 0 → bytes ≡ []
no_bytes [] e = refl
no_bytes (x ∷ xs) e = absurd (omega arith)

-- ---- the first record

pub run_spent : (most limit : ℕ) (s : RunState) (bytes : List ℕ) → length bytes ≡ 0 → run most limit s bytes ≡ stopped done s
unfolding run
run_spent zero limit s bytes e = refl
run_spent (suc most) limit s bytes e = pick_false _ _ (lt-leb 1 (length bytes) (omega arith))

module _ (most limit : ℕ) (s : RunState) (bytes : List ℕ) (some : 1 ≤ length bytes) where
  pub run_refused : (advance limit s bytes).number ≢ done → run (suc most) limit s bytes ≡ stopped (advance limit s bytes).number s
  unfolding run
  run_refused e = pick_true _ _ (le-leb 1 (length bytes) some) ∙ pick_false _ _ (ne_eqb _ _ e)

  pub run_on : (advance limit s bytes).number ≡ done
      → run (suc most) limit s bytes ≡ behind 1 (advance limit s bytes).calls (run most limit (advance limit s bytes).state (drop (advance limit s bytes).size bytes))
  unfolding run
  run_on e = pick_true _ _ (le-leb 1 (length bytes) some) ∙ pick_true _ _ (eq-eqb _ _ e)

-- none is left, or the first is refused or done
data First (limit : ℕ) (s : RunState) (bytes : List ℕ) : Type 0 where
  spent : length bytes ≡ 0 → First limit s bytes
  refused : 1 ≤ length bytes → (advance limit s bytes).number ≢ done → First limit s bytes
  on : 1 ≤ length bytes → (advance limit s bytes).number ≡ done → First limit s bytes

first_record : (limit : ℕ) (s : RunState) (bytes : List ℕ) → First limit s bytes
first_record limit s bytes = go (dec_lt 0 (length bytes)) (ℕ_discrete (advance limit s bytes).number done)
  where
    go : Dec (0 < length bytes) → Dec ((advance limit s bytes).number ≡ done) → First limit s bytes
    go (yes l) (yes e) = on (omega arith) e
    go (yes l) (no n) = refused (omega arith) n
    go (no l) e = spent (omega arith)

-- what is left behind a record that is done
left : (limit : ℕ) (s : RunState) (bytes : List ℕ) (most : ℕ) → length bytes ≤ suc most → (advance limit s bytes).number ≡ done
    → length (drop (advance limit s bytes).size bytes) ≤ most
left limit s bytes most l e =
    let a = advance_done limit s bytes e in
    omega (arith, length-drop (advance limit s bytes).size bytes, a.size_is)

-- a byte for each record is enough
pub run_enough : (limit most more : ℕ) (s : RunState) (bytes : List ℕ) → length bytes ≤ most → length bytes ≤ more → run most limit s bytes ≡ run more limit s bytes
run_enough limit zero more s bytes a b = run_spent zero limit s bytes (omega arith) ∙ sym (run_spent more limit s bytes (omega arith))
run_enough limit (suc most) zero s bytes a b = run_spent (suc most) limit s bytes (omega arith) ∙ sym (run_spent zero limit s bytes (omega arith))
run_enough limit (suc most) (suc more) s bytes a b =
    go (first_record limit s bytes) (run_enough limit most more (advance limit s bytes).state (drop (advance limit s bytes).size bytes))
  where
    go : First limit s bytes
        → (length (drop (advance limit s bytes).size bytes) ≤ most → length (drop (advance limit s bytes).size bytes) ≤ more
        → run most limit (advance limit s bytes).state (drop (advance limit s bytes).size bytes) ≡ run more limit (advance limit s bytes).state (drop (advance limit s bytes).size bytes))
        → run (suc most) limit s bytes ≡ run (suc more) limit s bytes
    go (spent e) ih = run_spent (suc most) limit s bytes e ∙ sym (run_spent (suc more) limit s bytes e)
    go (refused some e) ih = run_refused most limit s bytes some e ∙ sym (run_refused more limit s bytes some e)
    go (on some e) ih =
        run_on most limit s bytes some e
        ∙ ap (behind 1 (advance limit s bytes).calls) (ih (left limit s bytes most a e) (left limit s bytes more b e))
        ∙ sym (run_on more limit s bytes some e)

-- ---- in pieces

pub advance_looks_at : AdvanceLooksAt
advance_looks_at limit s bytes = ap (advance_on limit s) (looks_at (record_head_size + data_size (get_or bytes 0 0)) bytes (omega arith))

behind_none : (r : Ran) → behind 0 [] r ≡ r
behind_none r = rw (zero-add r.records)

behind_behind : (m n : ℕ) (ks ls : List LentCall) (r : Ran) → behind m ks (behind n ls r) ≡ behind (m + n) (ks ++ ls) r
behind_behind m n ks ls r = rw (add_assoc m n r.records, append_assoc ks ls r.calls)

module _ (limit : ℕ) (rest : List ℕ) where
  -- a run, and then the rest from its state on
  abbrev and_rest : Ran → Ran
  and_rest r = behind r.records r.calls (run (length rest) limit r.state rest)

  from_spent : (total : ℕ) (s : RunState) (first : List ℕ) → length first ≡ 0 → length (first ++ rest) ≤ total → run total limit s (first ++ rest) ≡ and_rest (stopped done s)
  from_spent total s first e enough =
      rw (no_bytes first e) (run_enough limit total (length rest) s rest (omega (arith, length-append first rest)) (omega arith) ∙ sym (behind_none (run (length rest) limit s rest)))

  module _ (total : ℕ) (s : RunState) (first : List ℕ) (enough : length (first ++ rest) ≤ total) (some : 1 ≤ length first) (e : (advance limit s first).number ≡ done) where
    abbrev next : Advanced
    next = advance limit s first

    -- its first record, with what stands behind the piece
    step_on : run total limit s (first ++ rest) ≡ behind 1 next.calls (run (total - 1) limit next.state (drop next.size first ++ rest))
    step_on =
        let one : total ≡ suc (total - 1) = omega (arith, length-append first rest) in
        let same = advance_before limit s first rest some e in
        ap (λ (k : ℕ). run k limit s (first ++ rest)) one
        ∙ run_on (total - 1) limit s (first ++ rest) (omega (arith, length-append first rest)) (ap (λ (a : Advanced). a.number) same ∙ e)
        ∙ ap (λ (a : Advanced). behind 1 a.calls (run (total - 1) limit a.state (drop a.size (first ++ rest)))) same
        ∙ ap (λ (b : List ℕ). behind 1 next.calls (run (total - 1) limit next.state b)) (drop-append-le next.size first rest (advance_done limit s first e).there)

    left_on : length (drop next.size first ++ rest) ≤ total - 1
    left_on =
        let a = advance_done limit s first e in
        omega (arith, length-append (drop next.size first) rest, length-append first rest, length-drop next.size first, a.size_is, a.there)

  in_pieces : (most total : ℕ) (s : RunState) (first : List ℕ) → length first ≤ most → length (first ++ rest) ≤ total → (run most limit s first).number ≡ done
      → run total limit s (first ++ rest) ≡ and_rest (run most limit s first)
  in_pieces zero total s first a b e = from_spent total s first (omega arith) b ∙ ap and_rest (sym (run_spent zero limit s first (omega arith)))
  in_pieces (suc most) total s first a b e =
      go (first_record limit s first) (in_pieces most (total - 1) (advance limit s first).state (drop (advance limit s first).size first))
    where
      go : First limit s first
          → (length (drop (advance limit s first).size first) ≤ most → length (drop (advance limit s first).size first ++ rest) ≤ total - 1
          → (run most limit (advance limit s first).state (drop (advance limit s first).size first)).number ≡ done
          → run (total - 1) limit (advance limit s first).state (drop (advance limit s first).size first ++ rest)
          ≡ and_rest (run most limit (advance limit s first).state (drop (advance limit s first).size first)))
          → run total limit s (first ++ rest) ≡ and_rest (run (suc most) limit s first)
      go (spent z) ih = from_spent total s first z b ∙ ap and_rest (sym (run_spent (suc most) limit s first z))
      go (refused some n) ih = absurd (n (sym (ap (λ (r : Ran). r.number) (run_refused most limit s first some n)) ∙ e))
      go (on some d) ih =
          let r = run most limit (advance limit s first).state (drop (advance limit s first).size first) in
          let whole = run_on most limit s first some d in
          let then_done : r.number ≡ done = sym (ap (λ (r : Ran). r.number) whole) ∙ e in
          step_on total s first b some d
          ∙ ap (behind 1 (advance limit s first).calls) (ih (left limit s first most a d) (left_on total s first b some d) then_done)
          ∙ behind_behind 1 r.records (advance limit s first).calls r.calls (run (length rest) limit r.state rest)
          ∙ ap and_rest (sym whole)

pub run_in_pieces : RunInPieces
run_in_pieces limit s first rest e = in_pieces limit rest (length first) (length (first ++ rest)) s first (omega arith) (omega arith) e

pub replay_in_pieces : ReplayInPieces
unfolding replay pick
replay_in_pieces limit mem first rest = go (eqb number done) refl
  where
    number : ℕ
    number = (fresh_start limit mem).number

    s : RunState
    s = run_state (fresh_start limit mem).memory none_held

    from : Bool → List ℕ → Ran
    from started bytes = demand started (stopped number s) (run (length bytes) limit s bytes)

    go : (started : Bool) → eqb number done ≡ started → (from started first).number ≡ done
        → from started (first ++ rest) ≡ behind (from started first).records (from started first).calls (run (length rest) limit (from started first).state rest)
    go true e d = run_in_pieces limit s first rest d
    go false e d = absurd (false≢true (sym e ∙ eq-eqb number done d))
