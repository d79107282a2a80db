-- One more message of a delivery, as the code lends it the rest of the input and of the output.
use mathlib.Core.Path.{◌≡◌, ap}
use mathlib.Core.Logic.{◌≢◌}
use mathlib.Core.Bool.{true, false}
use mathlib.Core.List.{List, ◌++◌}
use Prim.Native.Nat.{ℕ, ◌+◌, ◌-◌, ◌≤◌, ◌<◌}
use native.Mathlib.Omega.{arith}
use lib.ListN.{length, take, drop}
use Rattle.field.specs.Place.{WithPlace}
use Rattle.field.proofs.OctetsLaws.{rest_all}
use Rattle.answer.specs.Answers.{goes_on}
use Rattle.protocol.specs.Step.{ServerMemory, CallResult}
use Rattle.delivery.specs.Delivery.{max_messages, at_refusal, message_step, message_with_place, deliver_at_most}
use Rattle.delivery.proofs.DeliveryLaws.{Reached, ends_with, reached_refused, reached_on, same_output}

module _ {limit c : ℕ} {input : List ℕ} {mem₀ : ServerMemory} {out₀ : List ℕ} {mem : ServerMemory} {out : List ℕ} {messages taken written : ℕ}
    (l : Reached limit c input mem₀ out₀ mem out messages taken written) where
  -- once as many were taken as may be
  pub all_taken : max_messages ≤ messages → messages ≡ max_messages
  all_taken h = omega (arith, l.few, h)

  pub more_left : taken ≢ length input → taken < length input
  more_left h = omega (arith, l.takes, h)

  module _ (left : messages < max_messages) (more : taken ≢ length input) (r : WithPlace CallResult)
      (call : r ≡ message_with_place limit mem c (take (length input - taken) (drop taken input)) (take (length out - written) (drop written out))) where
    -- the output, once the part that was lent is back
    abbrev back : List ℕ
    back = take written out ++ (r.result.output ++ drop (length out - written) (drop written out))

    step : r ≡ message_with_place limit mem c (drop taken input) (drop written out)
    step = rw (rest_all taken input, rest_all written out) at call

    result_is : r.result ≡ message_step limit mem c (drop taken input) (drop written out)
    result_is = ap (λ (x : WithPlace CallResult). x.result) step

    pub back_length : length back ≡ length out
    back_length = same_output l (more_left more) left r.result result_is

    pub refused_next : goes_on r.result.number ≡ false
        → ends_with r.result.number at_refusal r.place messages taken written r.result.memory back ≡ deliver_at_most max_messages limit mem₀ c input out₀
    refused_next h = reached_refused l (more_left more) left r.result result_is h r.place (ap (λ (x : WithPlace CallResult). x.place) step)

    pub reached_next : goes_on r.result.number ≡ true → Reached limit c input mem₀ out₀ r.result.memory back (messages + 1) (taken + r.result.taken) (written + r.result.sent)
    reached_next h = reached_on l (more_left more) left r.result result_is h
