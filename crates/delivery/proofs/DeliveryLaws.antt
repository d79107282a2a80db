-- Laws of a delivery's messages: where it ends, and how far it has come after some of them.
use mathlib.Core.Path.{◌≡◌, sym, ap, ◌∙◌}
use mathlib.Core.Bool.{true, false}
use mathlib.Core.List.{List, [], ◌++◌, append_assoc, append-nil}
use Prim.Native.Nat.{ℕ, zero, suc, ◌+◌, ◌-◌, ◌≤◌, ◌<◌}
use native.Mathlib.Nat.{zero-add, add-zero, add_assoc}
use native.Mathlib.Omega.{arith}
use lib.ListN.{length, take, drop, length-append, length-drop, take-append-drop, drop_of_length-le}
use lib.Seq.{length-take-le, take-append-add, drop-append-add, drop-drop}
use borrow.Author.Tests.{le-leb, lt-leb}
use Rattle.field.specs.Answer.{done}
use Rattle.field.proofs.ChoiceLaws.{pick_true, pick_false}
use Rattle.protocol.specs.Judge.{client_message}
use Rattle.protocol.specs.Step.{ServerMemory, CallResult, call_step}
use Rattle.protocol.specs.Place.{call_place}
use Rattle.protocol.specs.Kept.{SoundMemory}
use Rattle.answer.specs.Answers.{goes_on}
use Rattle.delivery.specs.Delivery.{DeliveryResult, max_messages, at_refusal, input_spent, max_reached, judged_call, message_step, ends_here, refused_here, ahead, deliver_at_most}
use Rattle.delivery.proofs.MessageLaws.{StepFacts, step_facts, step_sound}

-- ---- the first message

spent : (most limit : ℕ) (mem : ServerMemory) (c : ℕ) (input out : List ℕ) → length input ≡ 0 → deliver_at_most most limit mem c input out ≡ ends_here done input_spent 0 mem out
unfolding deliver_at_most
spent zero limit mem c input out h = pick_false _ _ (lt-leb 1 (length input) (omega arith))
spent (suc most) limit mem c input out h = pick_false _ _ (lt-leb 1 (length input) (omega arith))

module _ (limit : ℕ) (mem : ServerMemory) (c : ℕ) (input out : List ℕ) (some : 0 < length input) where
  too_many : deliver_at_most 0 limit mem c input out ≡ ends_here done max_reached 0 mem out
  unfolding deliver_at_most
  too_many = pick_true _ _ (le-leb 1 (length input) (omega arith))

  module _ (most : ℕ) (r : CallResult) (step : r ≡ message_step limit mem c input out) where
    one_more : goes_on r.number ≡ true
        → deliver_at_most (suc most) limit mem c input out
        ≡ ahead 1 r.taken r.sent (take r.sent r.output) (deliver_at_most most limit r.memory c (drop r.taken input) (drop r.sent r.output))
    unfolding deliver_at_most
    one_more a = rw step (pick_true _ _ (le-leb 1 (length input) (omega arith)) ∙ pick_true _ _ (rw step at a))

    one_refused : goes_on r.number ≡ false
        → deliver_at_most (suc most) limit mem c input out ≡ refused_here r.number (call_place limit mem (client_message c input)) mem out
    unfolding deliver_at_most
    one_refused a = rw step (pick_true _ _ (le-leb 1 (length input) (omega arith)) ∙ pick_false _ _ (rw step at a))

-- ---- some messages and those behind them

ahead_none : (d : DeliveryResult) → ahead 0 0 0 [] d ≡ d
ahead_none d = rw (zero-add d.messages, zero-add d.taken, zero-add d.written)

ahead_ahead : (m t w m' t' w' : ℕ) (front front' : List ℕ) (d : DeliveryResult)
    → ahead m t w front (ahead m' t' w' front' d) ≡ ahead (m + m') (t + t') (w + w') (front ++ front') d
ahead_ahead m t w m' t' w' front front' d =
    rw (add_assoc m m' d.messages, add_assoc t t' d.taken, add_assoc w w' d.written, append_assoc front front' d.output)

-- what is reported, and memory and output, where a delivery ends
abbrev pub ends_with : (number ended place messages taken written : ℕ) → ServerMemory → List ℕ → DeliveryResult
ends_with number ended place messages taken written mem out =
    record { number = number; ended = ended; messages = messages; taken = taken; written = written; place = place; memory = mem; output = out }

ahead_ends : (number ended place m t w : ℕ) (mem : ServerMemory) (front out : List ℕ)
    → ahead m t w front (ends_here number ended place mem out) ≡ ends_with number ended place m t w mem (front ++ out)
ahead_ends number ended place m t w mem front out = rw (add-zero m, add-zero t, add-zero w)

-- ---- the delivery after some of its messages

-- `&mut out[at..]`, as it comes back
pub rest_back : (out o : List ℕ) (at : ℕ) → take at out ++ (o ++ drop (length out - at) (drop at out)) ≡ take at out ++ o
rest_back out o at =
    let none : length (drop at out) ≤ length out - at = omega (arith, length-drop at out) in
    rw (drop_of_length-le (drop at out) none, append-nil o)

-- the messages so far with those behind them are the whole delivery
pub record Reached (limit c : ℕ) (input : List ℕ) (mem₀ : ServerMemory) (out₀ : List ℕ) (mem : ServerMemory) (out : List ℕ) (messages taken written : ℕ) : Type 0 where
  pub sound : SoundMemory limit mem
  pub takes : taken ≤ length input
  pub writes : written ≤ length out
  pub few : messages ≤ max_messages
  pub whole : deliver_at_most max_messages limit mem₀ c input out₀
      ≡ ahead messages taken written (take written out) (deliver_at_most (max_messages - messages) limit mem c (drop taken input) (drop written out))

pub reached_start : (limit c : ℕ) (input : List ℕ) (mem : ServerMemory) (out : List ℕ) → SoundMemory limit mem → Reached limit c input mem out mem out 0 0 0
reached_start limit c input mem out s =
    record { sound = s; takes = omega arith; writes = omega arith; few = omega arith; whole = sym (ahead_none (deliver_at_most max_messages limit mem c input out)) }

module _ {limit c : ℕ} {input : List ℕ} {mem₀ : ServerMemory} {out₀ : List ℕ} {mem : ServerMemory} {out : List ℕ} {messages taken written : ℕ}
    (l : Reached limit c input mem₀ out₀ mem out messages taken written) where
  pub reached_spent : length input ≤ taken → ends_with done input_spent 0 messages taken written mem out ≡ deliver_at_most max_messages limit mem₀ c input out₀
  reached_spent h =
      let e : length (drop taken input) ≡ 0 = simp length-drop (omega arith) in
      rw (
        l.whole,
        spent (max_messages - messages) limit mem c (drop taken input) (drop written out) e,
        ahead_ends done input_spent 0 messages taken written mem (take written out) (drop written out),
        take-append-drop written out,
      )

  module _ (more : taken < length input) where
    some : 0 < length (drop taken input)
    some = simp length-drop (omega arith)

    pub reached_most : messages ≡ max_messages → ends_with done max_reached 0 messages taken written mem out ≡ deliver_at_most max_messages limit mem₀ c input out₀
    reached_most e =
        let z : max_messages - messages ≡ 0 = omega arith in
        rw (
          l.whole,
          z,
          too_many limit mem c (drop taken input) (drop written out) some,
          ahead_ends done max_reached 0 messages taken written mem (take written out) (drop written out),
          take-append-drop written out,
        )

    module _ (left : messages < max_messages) (r : CallResult) (step : r ≡ message_step limit mem c (drop taken input) (drop written out)) where
      suc_left : max_messages - messages ≡ suc (max_messages - (messages + 1))
      suc_left = omega arith

      facts : StepFacts mem (drop taken input) (drop written out) (call_step limit mem (judged_call c (drop taken input) (drop written out))) r
      facts = rw step (step_facts limit mem c (drop taken input) (drop written out))

      pub same_output : length (take written out ++ (r.output ++ drop (length out - written) (drop written out))) ≡ length out
      same_output =
          rw (rest_back out r.output written)
          (omega (arith, length-append (take written out) r.output, facts.output_length, length-drop written out, length-take-le written out l.writes, l.writes))

      pub reached_refused : goes_on r.number ≡ false → (place : ℕ) → place ≡ call_place limit mem (client_message c (drop taken input))
          → ends_with r.number at_refusal place messages taken written r.memory (take written out ++ (r.output ++ drop (length out - written) (drop written out)))
          ≡ deliver_at_most max_messages limit mem₀ c input out₀
      reached_refused a place e =
          rw (
            rest_back out r.output written,
            (facts.unchanged a).0,
            (facts.unchanged a).1,
            e,
            l.whole,
            suc_left,
            one_refused limit mem c (drop taken input) (drop written out) some (max_messages - (messages + 1)) r step a,
            ahead_ends r.number at_refusal (call_place limit mem (client_message c (drop taken input))) messages taken written mem (take written out) (drop written out),
          )

      on : goes_on r.number ≡ true → Reached limit c input mem₀ out₀ r.memory (take written out ++ r.output) (messages + 1) (taken + r.taken) (written + r.sent)
      on a =
          let front : length (take written out) ≡ written = length-take-le written out l.writes in
          let t : take (written + r.sent) (take written out ++ r.output) ≡ take written out ++ take r.sent r.output =
          ap (λ (k : ℕ). take (k + r.sent) (take written out ++ r.output)) (sym front) ∙ take-append-add (take written out) r.output r.sent in
          let d : drop (written + r.sent) (take written out ++ r.output) ≡ drop r.sent r.output =
          ap (λ (k : ℕ). drop (k + r.sent) (take written out ++ r.output)) (sym front) ∙ drop-append-add (take written out) r.output r.sent in
          record {
            sound = rw step (step_sound limit mem c (drop taken input) (drop written out) l.sound);
            takes = omega (arith, facts.takes_there, length-drop taken input);
            writes = omega (arith, facts.sends_room, facts.output_length, length-drop written out, length-append (take written out) r.output, front);
            few = omega arith;
            whole =
                l.whole
                ∙ rw (
                  suc_left,
                  one_more limit mem c (drop taken input) (drop written out) some (max_messages - (messages + 1)) r step a,
                  ahead_ahead messages taken written 1 r.taken r.sent (take written out) (take r.sent r.output)
                      (deliver_at_most (max_messages - (messages + 1)) limit r.memory c (drop r.taken (drop taken input)) (drop r.sent r.output)),
                  t,
                  d,
                  drop-drop r.taken taken input,
                );
          }

      pub reached_on : goes_on r.number ≡ true
          → Reached limit c input mem₀ out₀ r.memory (take written out ++ (r.output ++ drop (length out - written) (drop written out)))
          (messages + 1) (taken + r.taken) (written + r.sent)
      reached_on a =
          rw (rest_back out r.output written) (on a)
