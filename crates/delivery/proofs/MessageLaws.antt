-- Laws of one message with its heading.
use mathlib.Core.Path.{◌≡◌, refl, sym, ap, ◌∙◌}
use mathlib.Core.Bool.{Bool, true, false, ◌||◌, true≢false}
use mathlib.Core.List.{List, [], ◌∷◌, ◌++◌, append-nil}
use Prim.Native.Nat.{ℕ, ◌+◌, ◌≤◌}
use native.Mathlib.Omega.{arith}
use lib.Dec.{eqb}
use lib.ListN.{length, take, drop, length-append, length-drop}
use lib.Seq.{length-take-le, take-append-add, drop-append-add, drop-drop}
use borrow.Author.Tests.{eqb-true, eqb-false}
use Rattle.field.specs.Answer.{done, ignored}
use Rattle.field.specs.Octets.{encode16}
use Rattle.field.proofs.ChoiceLaws.{by_test, pick_true, pick_false}
use Rattle.protocol.specs.Judge.{client_message}
use Rattle.protocol.specs.Step.{ServerMemory, CallResult, call_step}
use Rattle.protocol.specs.Answered.{RightlyAnswered, MessageProgress}
use Rattle.protocol.specs.Kept.{SoundMemory}
use Rattle.protocol.specs.Taken.{message_call}
use Rattle.protocol.proofs.AnswerLaws.{call_answered}
use Rattle.protocol.proofs.ProgressLaws.{call_progress}
use Rattle.protocol.proofs.RefusedLaws.{call_needs_room}
use Rattle.protocol.proofs.SoundnessLaws.{sound_kept}
use Rattle.answer.specs.Answers.{goes_on}
use Rattle.delivery.specs.Delivery.{heading_size, heading_bytes, judged_call, with_heading, message_step}
use Rattle.delivery.specs.Message.{MessageAnswered, MessageNeedsRoom}
use Rattle.delivery.specs.Sent.{sent_by_call, headed}

pub length_heading : (recipients n : ℕ) → length (heading_bytes recipients n) ≡ heading_size
unfolding heading_bytes encode16
length_heading recipients n = refl

-- ---- the message's answer, from that of its call

module _ (limit : ℕ) (mem : ServerMemory) (c : ℕ) (input out : List ℕ) where
  abbrev one : CallResult
  one = call_step limit mem (judged_call c input out)

  pub step_done : eqb one.number done ≡ true
      → message_step limit mem c input out ≡ record {
        number = one.number;
        taken = one.taken;
        sent = heading_size + one.sent;
        recipients = one.recipients;
        memory = one.memory;
        output = heading_bytes one.recipients one.sent ++ one.output;
      }
  unfolding message_step with_heading
  step_done e = pick_true _ _ e

  pub step_other : eqb one.number done ≡ false
      → message_step limit mem c input out
      ≡ record { number = one.number; taken = one.taken; sent = 0; recipients = one.recipients; memory = one.memory; output = out }
  unfolding message_step with_heading
  step_other e = pick_false _ _ e

-- ---- what is known of it

-- number, taken and memory are the call's; the output has what the call sent behind its heading, and is else as it was lent; a message at which
-- a delivery ends changes nothing
pub record StepFacts (mem : ServerMemory) (message out : List ℕ) (k r : CallResult) : Type 0 where
  pub same_number : r.number ≡ k.number
  pub same_taken : r.taken ≡ k.taken
  pub same_memory : r.memory ≡ k.memory
  pub sent_is : r.sent ≡ length (headed (sent_by_call k))
  pub front : take r.sent r.output ≡ headed (sent_by_call k)
  pub takes_there : r.taken ≤ length message
  pub sends_room : r.sent ≤ length out
  pub output_length : length r.output ≡ length out
  pub output_rest : drop r.sent r.output ≡ drop r.sent out
  pub unchanged : goes_on r.number ≡ false → (r.memory ≡ mem) × (r.output ≡ out)

-- a number that is neither done nor ignored is not done
pub not_done : (number : ℕ) → (eqb number done || eqb number ignored) ≡ false → eqb number done ≡ false
not_done number h = go (eqb number done) h
  where
    go : (b : Bool) → (b || eqb number ignored) ≡ false → b ≡ false
    go true q = absurd (true≢false q)
    go false q = refl

-- what a call sends, behind its heading: one thing where it is done, and nothing else
headed_done : (k : CallResult) → eqb k.number done ≡ true → k.sent ≤ length k.output
    → headed (sent_by_call k) ≡ heading_bytes k.recipients k.sent ++ take k.sent k.output
unfolding headed
headed_done k e l =
    let size : length (take k.sent k.output) ≡ k.sent = length-take-le k.sent k.output l in
    ap headed (pick_true (record { recipients = k.recipients; bytes = take k.sent k.output } ∷ []) [] e)
    ∙ rw (append-nil (take k.sent k.output), size)

headed_other : (k : CallResult) → eqb k.number done ≡ false → headed (sent_by_call k) ≡ []
unfolding headed
headed_other k e = ap headed (pick_false (record { recipients = k.recipients; bytes = take k.sent k.output } ∷ []) [] e)

heading_facts : (limit : ℕ) (mem : ServerMemory) (message out : List ℕ) (k : CallResult) → MessageProgress limit message (drop heading_size out) k → RightlyAnswered mem (drop heading_size out) k
    → StepFacts mem message out k (with_heading out k)
unfolding with_heading
heading_facts limit mem message out k p q =
    by_test (StepFacts mem message out k) (eqb k.number done) _ _
    (λ is_done.
    let heading = heading_bytes k.recipients k.sent in
    let six : length heading ≡ heading_size = length_heading k.recipients k.sent in
    let some : 1 ≤ k.sent = p.sends_some (eqb-true _ _ is_done) in
    let fits : k.sent ≤ length k.output = omega (arith, p.sends_room, p.output_length) in
    let written : headed (sent_by_call k) ≡ heading ++ take k.sent k.output = headed_done k is_done fits in
    record {
      same_number = refl;
      same_taken = refl;
      same_memory = refl;
      sent_is = rw written (omega (arith, length-append heading (take k.sent k.output), six, length-take-le k.sent k.output fits));
      front = ap (λ (n : ℕ). take (n + k.sent) (heading ++ k.output)) (sym six) ∙ take-append-add heading k.output k.sent ∙ sym written;
      takes_there = p.takes_there;
      sends_room = omega (arith, p.sends_room, length-drop heading_size out);
      output_length = omega (arith, length-append heading k.output, six, p.output_length, p.sends_room, length-drop heading_size out);
      output_rest =
          ap (λ (n : ℕ). drop (n + k.sent) (heading ++ k.output)) (sym six)
          ∙ drop-append-add heading k.output k.sent
          ∙ p.output_rest
          ∙ drop-drop k.sent heading_size out;
      unchanged = λ other. absurd (eqb-false k.number done (not_done k.number other) (eqb-true _ _ is_done));
    })
    (λ other. record {
      same_number = refl;
      same_taken = refl;
      same_memory = refl;
      sent_is = rw (headed_other k other);
      front = sym (headed_other k other);
      takes_there = p.takes_there;
      sends_room = omega arith;
      output_length = refl;
      output_rest = refl;
      unchanged = λ _. ((q.unchanged (eqb-false _ _ other)).0, refl);
    })

pub step_facts : (limit : ℕ) (mem : ServerMemory) (c : ℕ) (input out : List ℕ)
    → StepFacts mem input out (call_step limit mem (judged_call c input out)) (message_step limit mem c input out)
unfolding message_step
step_facts limit mem c input out =
    heading_facts limit mem input out _ (call_progress limit mem c input (drop heading_size out)) (call_answered limit mem (judged_call c input out))

pub step_sound : (limit : ℕ) (mem : ServerMemory) (c : ℕ) (input out : List ℕ) → SoundMemory limit mem → SoundMemory limit (message_step limit mem c input out).memory
step_sound limit mem c input out s = rw (step_facts limit mem c input out).same_memory (sound_kept limit mem s (judged_call c input out))

-- ---- demand 1, and room

pub message_answered : MessageAnswered
unfolding message_step with_heading
message_answered limit mem c input out =
    let one = call_step limit mem (judged_call c input out) in
    let answered = call_answered limit mem (judged_call c input out) in
    by_test (RightlyAnswered mem out) (eqb one.number done) _ _
    (λ is_done. record { numbers = answered.numbers; refusal_takes_nothing = answered.refusal_takes_nothing; unchanged = λ other. absurd (other (eqb-true _ _ is_done)) })
    (λ other. record {
      numbers = answered.numbers;
      refusal_takes_nothing = answered.refusal_takes_nothing;
      unchanged = λ n. let u = answered.unchanged n in (u.0, refl, refl, u.3);
    })

pub message_needs_room : MessageNeedsRoom
unfolding message_step with_heading
message_needs_room limit mem c input room out e =
    let needs = call_needs_room limit mem (client_message c input) room (drop heading_size out) e in
    let some : 1 ≤ (call_step limit mem (message_call c input room)).sent = (call_progress limit mem c input room).sends_some e in
    let left = length-drop heading_size out in
    record {
      fits = λ l. (step_facts limit mem c input out).same_number ∙ needs.fits (omega (arith, l, left));
      too_short = λ l. ap (with_heading out) (needs.too_short (omega (arith, l, left, some))) ∙ pick_false _ _ refl;
    }
