-- A delivery is its messages' calls, in memory and in what is sent, and it stays within what it was lent.
use mathlib.Core.Path.{◌≡◌, refl, sym, ap, ap₂, ◌∙◌}
use mathlib.Core.Bool.{Bool, true, false, ◌&&◌}
use mathlib.Core.List.{List, [], ◌∷◌, ◌++◌, append_assoc}
use Prim.Native.Nat.{ℕ, zero, suc, ◌+◌, ◌*◌, ◌/◌, ◌%◌, ◌≤◌}
use native.Mathlib.Nat.{div-add-mod'}
use native.Mathlib.Omega.{arith}
use lib.Dec.{eqb}
use lib.ListN.{length, take, drop, length-append, length-drop}
use lib.Seq.{length-take-le, take-append-add, drop-append-add, take-append_seam, drop_at, drop-drop}
use borrow.Author.Tests.{le-leb}
use Rattle.field.specs.Answer.{done}
use Rattle.field.specs.Choice.{pick}
use Rattle.field.specs.Octets.{encode16, decode16}
use Rattle.field.proofs.ChoiceLaws.{by_test, pick_true, pick_false}
use Rattle.recipients.specs.Recipients.{test_bit}
use Rattle.protocol.specs.Step.{ServerMemory, LentCall, CallResult, call_step}
use Rattle.protocol.specs.Run.{memory_after_run, addressed_by_call, addressed_bytes}
use Rattle.convergence.proofs.RunLaws.{sound_run}
use Rattle.answer.specs.Answers.{goes_on}
use Rattle.delivery.specs.Delivery.{DeliveryResult, max_messages, heading_size, heading_bytes, at_refusal, input_spent, max_reached, judged_call, message_step, ends_here, refused_here, ahead, deliver, calls_of}
use Rattle.delivery.specs.Sent.{Sending, sent_by_call, sent_by_calls, addressed_to, SameAddressed, headed, behind_headings, DeliveryIsCalls, Within, DeliveryWithin, DeliverySoundKept}
use Rattle.delivery.proofs.MessageLaws.{length_heading, not_done, StepFacts, step_facts}
use Rattle.delivery.proofs.InductionLaws.{by_messages, by_ready}

-- ---- the bytes of demand 3

addressed_call : (c : ℕ) (r : CallResult) (xs : List Sending) → addressed_to c (sent_by_call r ++ xs) ≡ addressed_by_call c r ++ addressed_to c xs
unfolding addressed_to addressed_by_call pick
addressed_call c r xs = go (eqb r.number done)
  where
    go : (b : Bool) → addressed_to c (pick b (record { recipients = r.recipients; bytes = take r.sent r.output } ∷ []) [] ++ xs)
        ≡ pick (b && test_bit r.recipients c) (take r.sent r.output) [] ++ addressed_to c xs
    go true = refl
    go false = refl

pub same_addressed : SameAddressed
unfolding sent_by_calls addressed_bytes addressed_to
same_addressed limit mem c [] = refl
same_addressed limit mem c (k ∷ ks) =
    addressed_call c (call_step limit mem k) (sent_by_calls limit (call_step limit mem k).memory ks)
    ∙ ap (λ (s : List ℕ). addressed_by_call c (call_step limit mem k) ++ s) (same_addressed limit (call_step limit mem k).memory c ks)

-- ---- headings

behind_none : (most : ℕ) → behind_headings most [] ≡ []
unfolding behind_headings pick
behind_none zero = refl
behind_none (suc most) = refl

-- a heading, its bytes, and what stands behind them
behind_first : (most recipients : ℕ) (bytes rest : List ℕ)
    → behind_headings (suc most) (heading_bytes recipients (length bytes) ++ (bytes ++ rest)) ≡ record { recipients = recipients; bytes = bytes } ∷ behind_headings most rest
unfolding behind_headings heading_bytes encode16 decode16
behind_first most recipients bytes rest =
    let n = length bytes in
    let whole = heading_bytes recipients (length bytes) ++ (bytes ++ rest) in
    let named : recipients / 256 * 256 + recipients % 256 ≡ recipients = div-add-mod' recipients 256 in
    let stated : (n / 65536 / 256 * 256 + n / 65536 % 256) * 65536 + (n % 65536 / 256 * 256 + n % 65536 % 256) ≡ n =
    rw (div-add-mod' (n / 65536) 256, div-add-mod' (n % 65536) 256) (div-add-mod' n 65536) in
    pick_true _ _ (le-leb 1 (length whole) (omega (arith, length-append (heading_bytes recipients (length bytes)) (bytes ++ rest), length_heading recipients (length bytes))))
    ∙ rw (named, stated)
    (ap₂ (λ (x y : List ℕ). record { recipients = recipients; bytes = x } ∷ behind_headings most y) (take-append_seam bytes rest) (behind n refl))
  where
    behind : (n : ℕ) → length bytes ≡ n → drop (heading_size + n) (heading_bytes recipients (length bytes) ++ (bytes ++ rest)) ≡ rest
    behind n e =
        let heading = heading_bytes recipients (length bytes) in
        rw (← append_assoc heading bytes rest)
        (drop_at (heading ++ bytes) rest (heading_size + n) (omega (arith, length-append heading bytes, length_heading recipients (length bytes))))

-- each thing behind its heading, read back
behind_headed : (most : ℕ) (xs : List Sending) → length xs ≤ most → behind_headings most (headed xs) ≡ xs
unfolding headed
behind_headed most [] l = behind_none most
behind_headed zero (x ∷ xs) l = absurd (omega arith)
behind_headed (suc most) (x ∷ xs) l =
    behind_first most x.recipients x.bytes (headed xs) ∙ ap (λ (ys : List Sending). x ∷ ys) (behind_headed most xs (omega arith))

headed_append : (xs ys : List Sending) → headed (xs ++ ys) ≡ headed xs ++ headed ys
unfolding headed
headed_append [] ys = refl
headed_append (x ∷ xs) ys =
    let heading = heading_bytes x.recipients (length x.bytes) in
    rw (headed_append xs ys, append_assoc heading (x.bytes ++ headed xs) (headed ys), append_assoc x.bytes (headed xs) (headed ys))

-- ---- a delivery and its calls

-- of at most so many messages: memory is that of the calls, what is written is what they send, and that is no more
record Equal (limit most : ℕ) (mem : ServerMemory) (input out : List ℕ) (d : DeliveryResult) (calls : List LentCall) : Type 0 where
  memory : d.memory ≡ memory_after_run limit mem calls
  written : take d.written d.output ≡ headed (sent_by_calls limit mem calls)
  few : length (sent_by_calls limit mem calls) ≤ most

equal_none : (limit most number ended place : ℕ) (mem : ServerMemory) (input out : List ℕ) → Equal limit most mem input out (ends_here number ended place mem out) []
unfolding memory_after_run sent_by_calls headed
equal_none limit most number ended place mem input out = record { memory = refl; written = refl; few = omega arith }

-- one call sends one thing at most
sent_few : (r : CallResult) → length (sent_by_call r) ≤ 1
sent_few r = by_test (λ (xs : List Sending). length xs ≤ 1) (eqb r.number done) _ _ (λ _. omega arith) (λ _. omega arith)

module _ (limit c most : ℕ) (mem : ServerMemory) (input out : List ℕ) (r : CallResult) (step : r ≡ message_step limit mem c input out) where
  abbrev one : CallResult
  one = call_step limit mem (judged_call c input out)

  facts : StepFacts mem input out one r
  facts = rw step (step_facts limit mem c input out)

  equal_refused : goes_on r.number ≡ false → (place : ℕ) → Equal limit (suc most) mem input out (refused_here r.number place mem out) (judged_call c input out ∷ [])
  unfolding memory_after_run sent_by_calls headed
  equal_refused a place =
      let none : sent_by_call one ≡ [] = pick_false _ _ (not_done one.number (rw facts.same_number at a)) in
      record {
        memory = sym (facts.unchanged a).0 ∙ facts.same_memory;
        written = sym (ap (λ (xs : List Sending). headed (xs ++ [])) none);
        few = omega (arith, ap (λ (xs : List Sending). length (xs ++ [])) none);
      }

  equal_taken : (d : DeliveryResult) (calls : List LentCall) → Equal limit most r.memory (drop r.taken input) (drop r.sent r.output) d calls
      → Equal limit (suc most) mem input out (ahead 1 r.taken r.sent (take r.sent r.output) d) (judged_call c input out ∷ calls)
  unfolding memory_after_run sent_by_calls
  equal_taken d calls h =
      let since : sent_by_calls limit r.memory calls ≡ sent_by_calls limit one.memory calls = ap (λ (m : ServerMemory). sent_by_calls limit m calls) facts.same_memory in
      let front : length (take r.sent r.output) ≡ r.sent = ap length facts.front ∙ sym facts.sent_is in
      record {
        memory = h.memory ∙ ap (λ (m : ServerMemory). memory_after_run limit m calls) facts.same_memory;
        written =
            ap (λ (n : ℕ). take (n + d.written) (take r.sent r.output ++ d.output)) (sym front)
            ∙ take-append-add (take r.sent r.output) d.output d.written
            ∙ ap₂ (λ (x y : List ℕ). x ++ y) facts.front (h.written ∙ ap headed since)
            ∙ sym (headed_append (sent_by_call one) (sent_by_calls limit one.memory calls));
        few = omega (arith, length-append (sent_by_call one) (sent_by_calls limit one.memory calls), sent_few one, ap length since, h.few);
      }

pub delivery_is_calls : DeliveryIsCalls
delivery_is_calls limit mem c input out =
    let e : Equal limit max_messages mem input out (deliver limit mem c input out) (calls_of limit mem c input out) =
    by_ready limit mem c input out (Equal limit max_messages mem input out) (λ number _. equal_none limit max_messages number at_refusal 0 mem input out)
    (by_messages limit c (Equal limit) (λ most m i o _. equal_none limit most done input_spent 0 m i o) (λ m i o _. equal_none limit 0 done max_reached 0 m i o)
    (λ most m i o _ r step a. equal_refused limit c most m i o r step a _) (λ most m i o _ r step _. equal_taken limit c most m i o r step) max_messages mem input out) in
    record { memory = e.memory; written = e.written; sent = ap (behind_headings max_messages) e.written ∙ behind_headed max_messages (sent_by_calls limit mem (calls_of limit mem c input out)) e.few }

-- ---- within what was lent

within_none : (most number ended place : ℕ) (mem : ServerMemory) (input out : List ℕ) → Within most input out (ends_here number ended place mem out)
within_none most number ended place mem input out = record { messages = omega arith; taken = omega arith; written = omega arith; output_length = refl; rest = refl }

within_taken : (limit c most : ℕ) (mem : ServerMemory) (input out : List ℕ) (r : CallResult) → r ≡ message_step limit mem c input out
    → (d : DeliveryResult) → Within most (drop r.taken input) (drop r.sent r.output) d
    → Within (suc most) input out (ahead 1 r.taken r.sent (take r.sent r.output) d)
within_taken limit c most mem input out r step d w =
    let f = facts limit c most mem input out r step in
    let front : length (take r.sent r.output) ≡ r.sent = length-take-le r.sent r.output (omega (arith, f.sends_room, f.output_length)) in
    record {
      messages = omega (arith, w.messages);
      taken = omega (arith, w.taken, length-drop r.taken input, f.takes_there);
      written = omega (arith, w.written, length-drop r.sent r.output, f.sends_room, f.output_length);
      output_length = omega (arith, length-append (take r.sent r.output) d.output, front, w.output_length, length-drop r.sent r.output, f.sends_room, f.output_length);
      rest =
          ap (λ (n : ℕ). drop (n + d.written) (take r.sent r.output ++ d.output)) (sym front)
          ∙ drop-append-add (take r.sent r.output) d.output d.written
          ∙ w.rest
          ∙ ap (drop d.written) f.output_rest
          ∙ drop-drop d.written r.sent out;
    }

pub delivery_within : DeliveryWithin
delivery_within limit mem c input out =
    by_ready limit mem c input out (λ d _. Within max_messages input out d) (λ number _. within_none max_messages number at_refusal 0 mem input out)
    (by_messages limit c (λ most m i o d _. Within most i o d) (λ most m i o _. within_none most done input_spent 0 m i o) (λ m i o _. within_none 0 done max_reached 0 m i o)
    (λ most m i o _ r step a. within_none (suc most) r.number at_refusal _ m i o) (λ most m i o _ r step _ d _. within_taken limit c most m i o r step d) max_messages mem input out)

pub delivery_sound_kept : DeliverySoundKept
delivery_sound_kept limit mem s c input out = rw (delivery_is_calls limit mem c input out).memory (sound_run limit mem (calls_of limit mem c input out) s)
