-- The calls that a connection's bytes stand for, message by message; what a record leaves of what the others hold.
use mathlib.Core.Path.{◌≡◌, refl, sym, ◌∙◌}
use mathlib.Core.Logic.{◌≢◌, ◌⊎◌, inl, inr}
use mathlib.Core.Bool.{true, false, and-eq-true_iff, true≢false}
use mathlib.Core.List.{List, [], ◌++◌, append-nil}
use Prim.Native.Nat.{ℕ, zero, suc, ◌≤◌, ◌<◌}
use native.Mathlib.Omega.{arith}
use lib.Dec.{leb, ltb, eqb}
use lib.ListN.{length, get_or, drop, length-drop}
use lib.Seq.{get_or-set_other}
use borrow.Author.Tests.{leb-true, leb-false, ltb-true, ltb-false, eqb-true, eqb-false}
use Rattle.field.specs.Answer.{done, ignored, incomplete, RefusalNumber}
use Rattle.field.proofs.ChoiceLaws.{by_test, pick_true}
use Rattle.answer.specs.Answers.{goes_on}
use Rattle.soundness.specs.Sound.{connections, closed}
use Rattle.protocol.specs.Step.{ServerMemory, LentCall}
use Rattle.protocol.specs.Run.{memory_after_run}
use Rattle.protocol.specs.Effect.{Effect}
use Rattle.line_record.specs.Held.{message_effect, message_calls, Settled, settled, is_closed, leaving, settle, gather}
use Rattle.line_record.specs.Record.{opens, leaves, came}
use Rattle.line_record.specs.Replay.{step_record}
use Rattle.line_record.specs.Calls.{Judged, GatherJudged, ClosedDropped, OthersHeld}
use Rattle.line_record.proofs.HeldLaws.{done_or_ignored, effect_numbers, effect_takes}
use Rattle.line_record.proofs.KeptLaws.{effect_unchanged, is_closed_lem, not_closed}
use Rattle.line_record.proofs.RunLaws.{no_bytes}

-- ---- one message

-- a number that does not go on is neither 0 nor 16
not_on : (number : ℕ) → (number ≡ done) ⊎ ((number ≡ ignored) ⊎ RefusalNumber number) → goes_on number ≡ false → RefusalNumber number
not_on number (inl e) h = absurd (true≢false (sym (rw e) ∙ h))
not_on number (inr (inl e)) h = absurd (true≢false (sym (rw e) ∙ h))
not_on number (inr (inr n)) h = n

closed_told : (marks : List ℕ) (c : ℕ) → is_closed marks c ≡ true → (c < connections) × (get_or marks c 0 ≡ closed)
unfolding is_closed
closed_told marks c e =
    let both = (and-eq-true_iff (ltb c connections) (eqb (get_or marks c 0) closed)).0 e in
    (ltb-true c connections both.0, eqb-true _ _ both.1)

module _ (limit c : ℕ) (mem : ServerMemory) (bytes : List ℕ) where
  record JudgedAs (s : Settled) : Type 0 where
    judged : Judged limit c mem bytes s.calls s.kept

  abbrev one : Effect
  one = message_effect limit mem c bytes

  abbrev calls : List LentCall
  calls = message_calls limit mem c bytes

  none_judged : leb 1 (length bytes) ≡ false → JudgedAs (settled mem [] [])
  none_judged l = record { judged = rw (no_bytes bytes (omega (arith, leb-false 1 (length bytes) l))) Judged.none_left }

  module _ (some : 0 < length bytes) where
    cut_judged : (after : ServerMemory) → after ≡ mem → one.number ≡ incomplete → JudgedAs (settled after bytes calls)
    cut_judged after same e = rw same (record { judged = Judged.cut some e })

    refused_judged : (after : ServerMemory) → after ≡ mem → RefusalNumber one.number → one.number ≢ incomplete
        → JudgedAs (settled (memory_after_run limit after (leaving c)) [] (calls ++ leaving c))
    unfolding leaving
    refused_judged after same n whole =
        rw same (by_test P (ltb c connections) _ _ (λ b. unfold memory_after_run in record { judged = Judged.client_refused some (ltb-true c connections b) n whole })
        (λ b. unfold memory_after_run in rw (append-nil calls) (record { judged = Judged.plant_refused some (ltb-false c connections b) n whole })))
      where
        P : List LentCall → Type 0
        P ks = JudgedAs (settled (memory_after_run limit mem ks) [] (calls ++ ks))

    closed_judged : goes_on one.number ≡ true → is_closed one.memory.marks c ≡ true → JudgedAs (settled one.memory [] calls)
    closed_judged on shut =
        let told = closed_told one.memory.marks c shut in
        record { judged = Judged.turned_away some (done_or_ignored one.number on) told.0 told.1 }

-- ---- all bytes of a connection

settle_judged : (most limit : ℕ) (mem : ServerMemory) (c : ℕ) (held : List ℕ) → length held ≤ most → JudgedAs limit c mem held (settle most limit mem c held)
unfolding settle
settle_judged zero limit mem c held enough = record { judged = rw (no_bytes held (omega arith)) Judged.none_left }
settle_judged (suc most) limit mem c held enough =
    by_test P (leb 1 (length held)) _ _
    (λ some. by_test P _ _ _ (λ e. cut_judged limit c mem held (there some) (one limit c mem held).memory (same (eqb-true _ _ e)) (eqb-true _ _ e))
    (λ whole. by_test P (goes_on (one limit c mem held).number) _ _
    (λ on. by_test P _ _ _ (closed_judged limit c mem held (there some) on)
    (λ stays. record {
      judged =
          Judged.taken (there some) (done_or_ignored _ on) (λ b. not_closed (one limit c mem held).memory.marks c b stays)
          (settle_judged most limit (one limit c mem held).memory c (drop (one limit c mem held).taken held) (fewer on)).judged;
    }))
    (λ off. refused_judged limit c mem held (there some) (one limit c mem held).memory (still off) (not_on _ (effect_numbers limit mem c held) off) (eqb-false _ _ whole))))
    (none_judged limit c mem held)
  where
    P : Settled → Type 0
    P = JudgedAs limit c mem held

    there : leb 1 (length held) ≡ true → 0 < length held
    there some = omega (arith, leb-true 1 (length held) some)

    same : (one limit c mem held).number ≡ incomplete → (one limit c mem held).memory ≡ mem
    same e = effect_unchanged limit mem c held (λ d. omega (arith, d, e))

    still : goes_on (one limit c mem held).number ≡ false → (one limit c mem held).memory ≡ mem
    still off = effect_unchanged limit mem c held (λ d. let n = not_on _ (effect_numbers limit mem c held) off in omega (arith, d, n.above))

    fewer : goes_on (one limit c mem held).number ≡ true → length (drop (one limit c mem held).taken held) ≤ most
    fewer on = omega (arith, length-drop (one limit c mem held).taken held, (effect_takes limit mem c held on).0)

pub gather_judged : GatherJudged
unfolding gather
gather_judged limit mem c held arrived there =
    (by_test (JudgedAs limit c mem (held ++ arrived)) (is_closed mem.marks c) _ _
    (λ shut. let told = closed_told mem.marks c shut in absurd (there told.0 told.1))
    (λ _. settle_judged (length (held ++ arrived)) limit mem c (held ++ arrived) (omega arith))).judged

pub closed_dropped : ClosedDropped
unfolding gather
closed_dropped limit mem c held arrived b shut = pick_true _ _ (is_closed_lem mem.marks c b shut)

-- ---- what the others hold

pub others_held : OthersHeld
unfolding step_record
others_held limit s (opens c) d n = refl
others_held limit s (leaves c) d n =
    by_test (λ (held : List (List ℕ)). get_or held d [] ≡ get_or s.held d []) _ _ _ (λ _. get_or-set_other s.held c d [] [] n) (λ _. refl)
others_held limit s (came c arrived) d n = get_or-set_other s.held c d _ [] n
