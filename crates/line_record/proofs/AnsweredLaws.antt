-- Each call of a replay is answered as every call is; a record that is refused changes nothing, nor does a refused opening or leaving; and what numbers a replay answers.
use mathlib.Core.Path.{◌≡◌, refl, ap, ap₂}
use mathlib.Core.Logic.{◌≢◌, ◌⊎◌, inl, inr}
use mathlib.Core.List.{List, []}
use Prim.Native.Nat.{ℕ, zero, suc}
use lib.ListN.{length, drop}
use borrow.Author.Tests.{ne_eqb}
use Rattle.field.specs.Answer.{done, incomplete, unknown_kind}
use Rattle.field.proofs.ChoiceLaws.{by_test, pick_false}
use Rattle.protocol.specs.Judge.{open_connection, leave}
use Rattle.protocol.specs.Step.{ServerMemory, fresh_start}
use Rattle.protocol.specs.Run.{after_start_and_calls}
use Rattle.protocol.proofs.AnswerLaws.{call_answered}
use Rattle.protocol.specs.Effect.{without_output}
use Rattle.line_record.specs.Record.{NextRecord, refused_record, found, Record, next_record}
use Rattle.line_record.specs.Replay.{RunState, run_state, step_record, advance_on, advance, Ran, run, none_held, replay}
use Rattle.line_record.specs.Calls.{EachCallAnswered, RecordRefused, ReplayNumbers, RefusedChangesNothing}

pub each_call_answered : EachCallAnswered
each_call_answered limit mem recorded before k after calls = call_answered limit (after_start_and_calls limit mem before) k

pub record_refused : RecordRefused
record_refused limit s bytes = go (next_record bytes)
  where
    go : (n : NextRecord) → (advance_on limit s n).number ≢ done → ((advance_on limit s n).state ≡ s) × ((advance_on limit s n).calls ≡ [])
    go (refused_record number) e = unfold advance_on in (refl, refl)
    go (found r size) e = unfold advance_on in absurd (e refl)

pub refused_changes_nothing : RefusedChangesNothing
unfolding step_record
refused_changes_nothing limit s c = (
  λ n. ap (λ (m : ServerMemory). run_state m s.held) ((call_answered limit s.memory (without_output (open_connection c))).unchanged n).0,
  λ n. ap₂ run_state ((call_answered limit s.memory (without_output (leave c))).unchanged n).0 (pick_false _ _ (ne_eqb _ _ n)),
)

-- ---- numbers

abbrev RunNumber : (number : ℕ) → Type 0
RunNumber number = (number ≡ done) ⊎ ((number ≡ unknown_kind) ⊎ (number ≡ incomplete))

-- a record is refused with 4 or 1
data NextNumber : NextRecord → Type 0 where
  refused : {number : ℕ} → RunNumber number → NextNumber (refused_record number)
  there : {r : Record} {size : ℕ} → NextNumber (found r size)

next_number_lem : (bytes : List ℕ) → NextNumber (next_record bytes)
unfolding next_record
next_number_lem bytes =
    by_test NextNumber _ _ _ (λ _. by_test NextNumber _ _ _ (λ _. by_test NextNumber _ _ _ (λ _. by_test NextNumber _ _ _
    (λ _. by_test NextNumber _ _ _ (λ _. there) (λ _. cut)) (λ _. unknown)) (λ _. cut)) (λ _. unknown)) (λ _. cut)
  where
    cut : NextNumber (refused_record incomplete)
    cut = refused (inr (inr refl))

    unknown : NextNumber (refused_record unknown_kind)
    unknown = refused (inr (inl refl))

advance_number : (limit : ℕ) (s : RunState) (bytes : List ℕ) → RunNumber (advance limit s bytes).number
advance_number limit s bytes = go (next_record bytes) (next_number_lem bytes)
  where
    go : (n : NextRecord) → NextNumber n → RunNumber (advance_on limit s n).number
    go (refused_record number) (refused f) = unfold advance_on in f
    go (found r size) f = unfold advance_on in inl refl

record RanWith (r : Ran) : Type 0 where
  number : RunNumber r.number

run_number : (most limit : ℕ) (s : RunState) (bytes : List ℕ) → RanWith (run most limit s bytes)
unfolding run
run_number zero limit s bytes = record { number = inl refl }
run_number (suc most) limit s bytes =
    by_test RanWith _ _ _ (λ _. by_test RanWith _ _ _
    (λ _. record { number = (run_number most limit (advance limit s bytes).state (drop (advance limit s bytes).size bytes)).number })
    (λ _. record { number = advance_number limit s bytes }))
    (λ _. record { number = inl refl })

pub replay_numbers : ReplayNumbers
unfolding replay
replay_numbers limit mem started recorded =
    (by_test RanWith _ _ _ (λ _. run_number (length recorded) limit (run_state (fresh_start limit mem).memory none_held) recorded) (λ _. record { number = inl started })).number
