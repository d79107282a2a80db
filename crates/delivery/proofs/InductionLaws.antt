-- What holds of every delivery: by its first message, and by what is known once the first checks are passed.
use mathlib.Core.Path.{◌≡◌, refl}
use mathlib.Core.Bool.{Bool, true, false, ◌&&◌}
use mathlib.Core.List.{List, [], ◌∷◌}
use Prim.Native.Nat.{ℕ, zero, suc, ◌<◌}
use native.Mathlib.Omega.{arith}
use lib.Dec.{leb, ltb, eqb}
use lib.ListN.{length, take, drop, get_or}
use borrow.Author.Tests.{leb-true, leb-false}
use Rattle.field.specs.Answer.{done, connection_too_high, wrong_state, unsound, RefusalNumber}
use Rattle.field.specs.Choice.{pick}
use Rattle.message.proofs.RefusalLaws.{refusal_number}
use Rattle.soundness.specs.Sound.{sound_table, sound_marks, connections, closed}
use Rattle.protocol.specs.Judge.{client_message}
use Rattle.protocol.specs.Step.{ServerMemory, LentCall, CallResult}
use Rattle.protocol.specs.Place.{call_place}
use Rattle.answer.specs.Answers.{goes_on}
use Rattle.delivery.specs.Delivery.{DeliveryResult, max_messages, input_spent, max_reached, judged_call, message_step, ends_here, refused_here, ahead, deliver_at_most, deliver, calls_at_most, calls_of}

-- a property of at most so many messages, of a delivery and its calls
module _ (limit c : ℕ) (P : (most : ℕ) → ServerMemory → (input out : List ℕ) → DeliveryResult → List LentCall → Type 0) where
  abbrev pub AtSpent : Type 0
  AtSpent = (most : ℕ) (mem : ServerMemory) (input out : List ℕ) → length input ≡ 0 → P most mem input out (ends_here done input_spent 0 mem out) []

  abbrev pub AtMost : Type 0
  AtMost = (mem : ServerMemory) (input out : List ℕ) → 0 < length input → P 0 mem input out (ends_here done max_reached 0 mem out) []

  abbrev pub AtRefused : Type 0
  AtRefused =
      (most : ℕ) (mem : ServerMemory) (input out : List ℕ) → 0 < length input → (r : CallResult) → r ≡ message_step limit mem c input out → goes_on r.number ≡ false
      → P (suc most) mem input out (refused_here r.number (call_place limit mem (client_message c input)) mem out) (judged_call c input out ∷ [])

  abbrev pub AtTaken : Type 0
  AtTaken =
      (most : ℕ) (mem : ServerMemory) (input out : List ℕ) → 0 < length input → (r : CallResult) → r ≡ message_step limit mem c input out → goes_on r.number ≡ true
      → (d : DeliveryResult) (calls : List LentCall) → P most r.memory (drop r.taken input) (drop r.sent r.output) d calls
      → P (suc most) mem input out (ahead 1 r.taken r.sent (take r.sent r.output) d) (judged_call c input out ∷ calls)

  pub by_messages : AtSpent → AtMost → AtRefused → AtTaken
      → (most : ℕ) (mem : ServerMemory) (input out : List ℕ) → P most mem input out (deliver_at_most most limit mem c input out) (calls_at_most most limit mem c input out)
  unfolding deliver_at_most calls_at_most
  by_messages spent most refused taken zero mem input out = go (leb 1 (length input)) refl
    where
      go : (b : Bool) → leb 1 (length input) ≡ b → P 0 mem input out (pick b (ends_here done max_reached 0 mem out) (ends_here done input_spent 0 mem out)) []
      go true e = unfold pick in most mem input out (omega (arith, leb-true 1 (length input) e))
      go false e = unfold pick in spent 0 mem input out (omega (arith, leb-false 1 (length input) e))
  by_messages spent most refused taken (suc n) mem input out =
      go (leb 1 (length input)) (goes_on r.number) refl refl (by_messages spent most refused taken n r.memory (drop r.taken input) (drop r.sent r.output))
    where
      r : CallResult
      r = message_step limit mem c input out

      rest : DeliveryResult
      rest = deliver_at_most n limit r.memory c (drop r.taken input) (drop r.sent r.output)

      calls : List LentCall
      calls = calls_at_most n limit r.memory c (drop r.taken input) (drop r.sent r.output)

      go : (b a : Bool) → leb 1 (length input) ≡ b → goes_on r.number ≡ a → P n r.memory (drop r.taken input) (drop r.sent r.output) rest calls
          → P (suc n) mem input out
          (pick b (pick a (ahead 1 r.taken r.sent (take r.sent r.output) rest) (refused_here r.number (call_place limit mem (client_message c input)) mem out)) (ends_here done input_spent 0 mem out))
          (pick b (judged_call c input out ∷ pick a calls []) [])
      go false a l e h = unfold pick in spent (suc n) mem input out (omega (arith, leb-false 1 (length input) l))
      go true false l e h = unfold pick in refused n mem input out (omega (arith, leb-true 1 (length input) l)) r refl e
      go true true l e h = unfold pick in taken n mem input out (omega (arith, leb-true 1 (length input) l)) r refl e rest calls h

-- a property of every delivery: at a first refusal, and behind the first checks
module _ (limit : ℕ) (mem : ServerMemory) (c : ℕ) (input out : List ℕ) (P : DeliveryResult → List LentCall → Type 0) where
  pub by_ready : ((number : ℕ) → RefusalNumber number → P (refused_here number 0 mem out) []) → P (deliver_at_most max_messages limit mem c input out) (calls_at_most max_messages limit mem c input out)
      → P (deliver limit mem c input out) (calls_of limit mem c input out)
  unfolding deliver calls_of
  by_ready refused next = go (sound_table limit mem.table && sound_marks mem.marks) (ltb c connections) (eqb (get_or mem.marks c 0) closed)
    where
      at : (number : ℕ) → RefusalNumber number → P (refused_here number 0 mem out) []
      at = refused

      go : (s b k : Bool) → P (pick s (pick b (pick k (refused_here wrong_state 0 mem out) (deliver_at_most max_messages limit mem c input out)) (refused_here connection_too_high 0 mem out)) (refused_here unsound 0 mem out))
          (pick s (pick b (pick k [] (calls_at_most max_messages limit mem c input out)) []) [])
      go false b k = unfold pick in at unsound (refusal_number unsound (omega arith) (omega arith))
      go true false k = unfold pick in at connection_too_high (refusal_number connection_too_high (omega arith) (omega arith))
      go true true true = unfold pick in at wrong_state (refusal_number wrong_state (omega arith) (omega arith))
      go true true false = unfold pick in next
