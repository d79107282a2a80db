-- What a delivery reports is what its calls come to, and why it ended is named rightly.
use mathlib.Core.Path.{◌≡◌, refl, sym, ap, ap₂, ◌∙◌}
use mathlib.Core.Logic.{◌⊎◌, inl, inr}
use mathlib.Core.Bool.{Bool, true, false, ◌||◌, true≢false}
use mathlib.Core.List.{List, [], ◌∷◌}
use Prim.Native.Nat.{ℕ, suc, ◌+◌, ◌≤◌, ◌<◌}
use native.Mathlib.Omega.{arith}
use lib.Dec.{eqb}
use lib.ListN.{length, take, drop, get_or, length-drop}
use borrow.Author.Tests.{lt-ltb, le-ltb, eq-eqb, ne_eqb, eqb-true}
use Rattle.field.specs.Answer.{done, ignored, RefusalNumber}
use Rattle.field.specs.Choice.{pick}
use Rattle.field.proofs.ChoiceLaws.{pick_true, pick_false}
use Rattle.soundness.specs.Sound.{connections, closed}
use Rattle.protocol.specs.Step.{ServerMemory, LentCall, CallResult, call_step}
use Rattle.protocol.specs.Place.{call_place}
use Rattle.protocol.specs.Judge.{client_message}
use Rattle.protocol.proofs.AnswerLaws.{call_answered}
use Rattle.answer.specs.Answers.{goes_on}
use Rattle.delivery.specs.Delivery.{DeliveryResult, max_messages, input_spent, max_reached, judged_call, message_step, ends_here, refused_here, ahead, deliver_at_most, deliver, calls_at_most, calls_of}
use Rattle.delivery.specs.Sent.{sent_by_call, headed}
use Rattle.delivery.specs.Tells.{messages_in, taken_in, number_in, place_in, Judged, EndedBy, refusal, spent, too_many, Tells, DeliveryTells, FirstRefused}
use Rattle.delivery.proofs.MessageLaws.{StepFacts, step_facts}
use Rattle.delivery.proofs.InductionLaws.{by_messages}

-- ---- numbers

-- a number that does not go on is a refusal's, and one that does is 0 or 16
refused_number : (number : ℕ) → (number ≡ done) ⊎ ((number ≡ ignored) ⊎ RefusalNumber number) → (eqb number done || eqb number ignored) ≡ false → RefusalNumber number
refused_number number (inl e) h = absurd (true≢false (sym (ap (λ (b : Bool). b || eqb number ignored) (eq-eqb number done e)) ∙ h))
refused_number number (inr (inl e)) h = absurd (at_sixteen (eqb number done) (eqb number ignored) (eq-eqb number ignored e) h)
  where
    at_sixteen : (a b : Bool) → b ≡ true → (a || b) ≡ false → ⊥
    at_sixteen true b e q = true≢false q
    at_sixteen false b e q = true≢false (sym e ∙ q)
refused_number number (inr (inr n)) h = n

taken_number : (number : ℕ) → (eqb number done || eqb number ignored) ≡ true → (number ≡ done) ⊎ (number ≡ ignored)
taken_number number h = go (eqb number done) refl h
  where
    go : (b : Bool) → eqb number done ≡ b → (b || eqb number ignored) ≡ true → (number ≡ done) ⊎ (number ≡ ignored)
    go true e q = inl (eqb-true number done e)
    go false e q = inr (eqb-true number ignored q)

-- ---- a delivery's messages

none : (limit c most number ended : ℕ) (mem : ServerMemory) (input out : List ℕ) → number ≡ done → EndedBy most input (ends_here number ended 0 mem out)
    → Tells most limit mem c input out (ends_here number ended 0 mem out) []
unfolding messages_in taken_in number_in place_in
none limit c most number ended mem input out n e =
    record { judged = Judged.no_more; messages = refl; taken = refl; number = n; place = refl; ended = e }

ended_more : (most taken written : ℕ) (front input : List ℕ) (d : DeliveryResult) → taken ≤ length input → EndedBy most (drop taken input) d
    → EndedBy (suc most) input (ahead 1 taken written front d)
ended_more most taken written front input d l (refusal n m e) = refusal n (omega (arith, m)) e
ended_more most taken written front input d l (spent n t e) = spent n (omega (arith, t, length-drop taken input)) e
ended_more most taken written front input d l (too_many n m t e) = too_many n (omega (arith, m)) (omega (arith, t, length-drop taken input)) e

module _ (limit c most : ℕ) (mem : ServerMemory) (input out : List ℕ) (some : 0 < length input) (r : CallResult) (step : r ≡ message_step limit mem c input out) where
  abbrev one : CallResult
  one = call_step limit mem (judged_call c input out)

  facts : StepFacts mem input out one r
  facts = rw step (step_facts limit mem c input out)

  tells_refused : goes_on r.number ≡ false → Tells (suc most) limit mem c input out (refused_here r.number (call_place limit mem (client_message c input)) mem out) (judged_call c input out ∷ [])
  unfolding messages_in taken_in number_in place_in
  tells_refused a =
      let answered = call_answered limit mem (judged_call c input out) in
      let over : goes_on one.number ≡ false = rw facts.same_number at a in
      let n : RefusalNumber one.number = refused_number one.number answered.numbers over in
      record {
        judged = Judged.refused some n;
        messages = sym (pick_false _ _ over);
        taken = sym (ap (λ (k : ℕ). k + 0) (answered.refusal_takes_nothing n));
        number = facts.same_number ∙ sym (pick_false _ _ over);
        place = sym (pick_false _ _ over);
        ended = refusal (rw facts.same_number n) (omega arith) refl;
      }

  tells_taken : goes_on r.number ≡ true → (d : DeliveryResult) (calls : List LentCall) → Tells most limit r.memory c (drop r.taken input) (drop r.sent r.output) d calls
      → Tells (suc most) limit mem c input out (ahead 1 r.taken r.sent (take r.sent r.output) d) (judged_call c input out ∷ calls)
  unfolding messages_in taken_in number_in place_in
  tells_taken a d calls h =
      let on : goes_on one.number ≡ true = rw facts.same_number at a in
      let left : drop r.sent r.output ≡ drop (length (headed (sent_by_call one))) out = facts.output_rest ∙ ap (λ (n : ℕ). drop n out) facts.sent_is in
      let t = rw facts.same_memory at h in
      record {
        judged = Judged.taken some (taken_number one.number on) (rw (left, facts.same_taken) at t.judged);
        messages = ap (λ (k : ℕ). 1 + k) t.messages ∙ sym (pick_true _ _ on);
        taken = ap₂ (λ (x y : ℕ). x + y) facts.same_taken t.taken;
        number = t.number ∙ sym (pick_true _ _ on);
        place = t.place ∙ sym (pick_true _ _ on);
        ended = ended_more most r.taken r.sent (take r.sent r.output) input d facts.takes_there h.ended;
      }

messages_tell : (limit c most : ℕ) (mem : ServerMemory) (input out : List ℕ)
    → Tells most limit mem c input out (deliver_at_most most limit mem c input out) (calls_at_most most limit mem c input out)
messages_tell limit c =
    by_messages limit c (λ most mem input out. Tells most limit mem c input out)
    (λ most mem input out e. none limit c most done input_spent mem input out refl (spent refl (omega (arith, e)) refl))
    (λ mem input out some. none limit c 0 done max_reached mem input out refl (too_many refl refl (omega (arith, some)) refl))
    (λ most mem input out some r step a. tells_refused limit c most mem input out some r step a)
    (λ most mem input out some r step a. tells_taken limit c most mem input out some r step a)

pub delivery_tells : DeliveryTells
unfolding deliver calls_of pick
delivery_tells limit mem c input out s b not_closed =
    rw (s.table, s.marks, lt-ltb c connections b, ne_eqb (get_or mem.marks c 0) closed not_closed) (messages_tell limit c max_messages mem input out)

-- ---- the first refusals

pub first_refused : FirstRefused
unfolding deliver calls_of pick
first_refused limit mem c input out = record {
  unsound_memory = λ u. record { answered = rw u; no_calls = rw u };
  too_high = λ s l. record { answered = rw (s.table, s.marks, le-ltb c connections l); no_calls = rw (s.table, s.marks, le-ltb c connections l) };
  closed_connection = λ s b e. record {
    answered = rw (s.table, s.marks, lt-ltb c connections b, eq-eqb (get_or mem.marks c 0) closed e);
    no_calls = rw (s.table, s.marks, lt-ltb c connections b, eq-eqb (get_or mem.marks c 0) closed e);
  };
}
