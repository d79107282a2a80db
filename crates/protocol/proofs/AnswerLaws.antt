-- "Numbers a call answers with": what every call's answer is, whatever lent memory holds.
use mathlib.Core.Path.{◌≡◌, refl}
use mathlib.Core.Logic.{◌⊎◌, inl, inr}
use mathlib.Core.Bool.{Bool}
use mathlib.Core.List.{List}
use Prim.Native.Nat.{ℕ}
use native.Mathlib.Omega.{arith}
use Rattle.field.specs.Answer.{RefusalNumber}
use Rattle.field.specs.Choice.{pick}
use Rattle.field.proofs.ChoiceLaws.{by_test}
use Rattle.message.specs.Layout.{Entry}
use Rattle.table.specs.Table.{entries_of}
use Rattle.protocol.specs.Judge.{Call, Verdict, refuse, ignore, read_done, open_mark, close_mark, accept_hello, unsupported_revision, store_new, store_update}
use Rattle.protocol.specs.Step.{ServerMemory, CallResult, refusal, execute, call_step}
use Rattle.protocol.specs.Answered.{RightlyAnswered, CallAnswered}
use Rattle.message.proofs.RefusalLaws.{refusal_number}
use Rattle.protocol.proofs.JudgeLaws.{VerdictIs, verdict_is}

pub not_refused : (number : ℕ) → RefusalNumber number → (number ≡ 0) ⊎ (number ≡ 16) → ⊥
not_refused number n (inl e) = omega arith
not_refused number n (inr e) = omega arith

module _ (mem : ServerMemory) (out : List ℕ) where
  refused_rightly : (number : ℕ) → RefusalNumber number → RightlyAnswered mem out (refusal mem out number)
  refused_rightly number n = record { numbers = inr (inr n); refusal_takes_nothing = λ _. refl; unchanged = λ _. (refl, refl, refl, refl) }

  done_rightly : {taken sent recipients : ℕ} {after : ServerMemory} {output : List ℕ}
      → RightlyAnswered mem out (record { number = 0; taken = taken; sent = sent; recipients = recipients; memory = after; output = output })
  done_rightly = record { numbers = inl refl; refusal_takes_nothing = λ n. absurd (omega arith); unchanged = λ ne. absurd (ne refl) }

  -- an answer is done if there is room for it
  answered : (room : Bool) (x y : CallResult) → RightlyAnswered mem out x → RightlyAnswered mem out y → RightlyAnswered mem out (pick room x y)
  answered room x y f g = by_test (RightlyAnswered mem out) room x y (λ _. f) (λ _. g)

  no_room : RightlyAnswered mem out (refusal mem out 12)
  no_room = refused_rightly 12 (refusal_number 12 (omega arith) (omega arith))

  executed_rightly : (limit : ℕ) (es : List Entry) (marks : List ℕ) (call : Call) (v : Verdict) → VerdictIs limit es marks call v → RightlyAnswered mem out (execute mem out v)
  unfolding execute
  executed_rightly limit es marks call (refuse fault) (VerdictIs.refused n) = refused_rightly fault.number n
  executed_rightly limit es marks call (ignore taken) f =
      record { numbers = inr (inl refl); refusal_takes_nothing = λ n. absurd (omega arith); unchanged = λ _. (refl, refl, refl, refl) }
  executed_rightly limit es marks call read_done f = answered _ _ _ done_rightly no_room
  executed_rightly limit es marks call (open_mark c) f = answered _ _ _ done_rightly no_room
  executed_rightly limit es marks call (close_mark c) f = answered _ _ _ done_rightly no_room
  executed_rightly limit es marks call (accept_hello c) f = answered _ _ _ done_rightly no_room
  executed_rightly limit es marks call (unsupported_revision c) f = answered _ _ _ done_rightly no_room
  executed_rightly limit es marks call (store_new e taken) f = answered _ _ _ done_rightly no_room
  executed_rightly limit es marks call (store_update id number value taken to) f = answered _ _ _ done_rightly no_room

pub call_answered : CallAnswered
unfolding call_step
call_answered limit mem k =
    by_test (RightlyAnswered mem k.output) _ _ _
    (λ _. executed_rightly mem k.output limit (entries_of mem.table) mem.marks k.call _ (verdict_is limit (entries_of mem.table) mem.marks k.call))
    (λ _. refused_rightly mem k.output 14 (refusal_number 14 (omega arith) (omega arith)))
