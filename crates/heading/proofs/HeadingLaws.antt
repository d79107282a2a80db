-- A message whose bytes stand behind a heading, as the code lends the output: the part behind the heading.
use Rattle.std.specs.Int.{w32, to_be_bytes}
use Rattle.std.proofs.lemmas.Nat.{be_bytes_4}
use Rattle.std.proofs.Common.{rules}
use mathlib.Core.Path.{◌≡◌, refl, sym, ap, ◌∙◌}
use mathlib.Core.Logic.{◌≢◌}
use mathlib.Core.List.{List, ◌++◌}
use Prim.Native.Nat.{ℕ, ◌+◌, ◌-◌, ◌^◌, ◌≤◌, ◌<◌, min}
use native.Mathlib.Decide.{dec_lt}
use native.Mathlib.Omega.{arith}
use lib.ListN.{length, take, drop, length-append, length-drop, take-append-drop, drop_of_length-le}
use lib.Seq.{drop_at, length-take-le}
use borrow.Author.Tests.{eq-eqb, ne_eqb}
use Rattle.field.specs.Answer.{done}
use Rattle.field.specs.Octets.{encode16, overwrite_at}
use Rattle.field.specs.Place.{WithPlace}
use Rattle.field.proofs.OctetsLaws.{rest_all, length_encode16}
use Rattle.field.proofs.OverwriteLaws.{overwrite_eq, overwrite_append}
use Rattle.protocol.specs.Judge.{client_message}
use Rattle.protocol.specs.Step.{ServerMemory, CallResult, call_step}
use Rattle.protocol.specs.Place.{step_with_place, call_place}
use Rattle.protocol.specs.Answered.{MessageProgress, RightlyAnswered}
use Rattle.protocol.specs.Taken.{message_call}
use Rattle.protocol.proofs.AnswerLaws.{call_answered}
use Rattle.protocol.proofs.ProgressLaws.{call_progress}
use Rattle.delivery.specs.Delivery.{heading_size, heading_bytes, encode32, judged_call, message_with_place}
use Rattle.delivery.proofs.MessageLaws.{length_heading, step_done, step_other}
use Rattle.delivery.proofs.DeliveryLaws.{rest_back}

-- a length in 4 bytes
length_bytes : (n : ℕ) → n < 2 ^ 32 → to_be_bytes w32 n ≡ encode32 n
unfolding encode16
length_bytes n h = be_bytes_4 (encode32 n) n refl (λ i. search (rules, arith)) (omega arith)

-- two stores make the heading
pub heading_stored : (out x : List ℕ) (recipients n : ℕ) → n < 2 ^ 32 → x ≡ overwrite_at out 0 (encode16 recipients)
    → overwrite_at x 2 (to_be_bytes w32 n) ≡ overwrite_at out 0 (heading_bytes recipients n)
unfolding heading_bytes
heading_stored out x recipients n few e =
    rw (length_bytes n few, e, overwrite_append out 0 (encode16 recipients) (encode32 n) 2 (omega (arith, length_encode16 recipients)))

drop_from : (out : List ℕ) (from : ℕ) → from ≡ min heading_size (length out) → drop from out ≡ drop heading_size out
drop_from out from e = elim (dec_lt (length out) heading_size) [
  | yes l ↦ (
      let all : length out ≤ from = omega arith in
      let six : length out ≤ heading_size = omega arith in
      drop_of_length-le out all ∙ sym (drop_of_length-le out six))
  | no l ↦ (
      let six : from ≡ heading_size = omega (arith, l) in
      ap (λ (k : ℕ). drop k out) six)
]

module _ (limit : ℕ) (mem : ServerMemory) (c : ℕ) (input out : List ℕ) (from : ℕ) (start : from ≡ min heading_size (length out)) (r : WithPlace CallResult)
    (call : r ≡ step_with_place limit mem (message_call c input (take (length out - from) (drop from out)))) where
  -- the output, once the part that was lent is back
  abbrev back : List ℕ
  back = take from out ++ (r.result.output ++ drop (length out - from) (drop from out))

  step : r ≡ step_with_place limit mem (judged_call c input out)
  step = rw (rest_all from out, drop_from out from start) at call

  progress : MessageProgress limit input (drop heading_size out) r.result
  progress = rw step (call_progress limit mem c input (drop heading_size out))

  answered : RightlyAnswered mem (drop heading_size out) r.result
  answered = rw step (call_answered limit mem (judged_call c input out))

  result_is : r.result ≡ call_step limit mem (judged_call c input out)
  result_is = ap (λ (x : WithPlace CallResult). x.result) step

  place_is : r.place ≡ call_place limit mem (client_message c input)
  place_is = ap (λ (x : WithPlace CallResult). x.place) step

  -- ignored or refused: nothing is put
  pub without_heading : r.result.number ≢ done
      → record {
        result = record { number = r.result.number; taken = r.result.taken; sent = r.result.sent; recipients = r.result.recipients; memory = r.result.memory; output = back };
        place = r.place;
      } ≡ message_with_place limit mem c input out
  without_heading other =
      let u = answered.unchanged other in
      let whole : back ≡ out =
      rest_back out r.result.output from ∙ ap (λ (x : List ℕ). take from out ++ x) (u.1 ∙ sym (drop_from out from start)) ∙ take-append-drop from out in
      rw (whole, u.2, result_is, place_is, step_other limit mem c input out (ne_eqb _ done (rw result_is at other)))

  module _ (is_done : r.result.number ≡ done) where
    room : heading_size < length out
    room = omega (arith, progress.sends_some is_done, progress.sends_room, length-drop heading_size out)

    front : length (take from out) ≡ heading_size
    front = length-take-le from out (omega (arith, start, room)) ∙ omega (arith, start, room)

    pub heading_room : limit ≤ 65536 → (heading_size ≤ length back) × (r.result.sent < 2 ^ 32)
    heading_room few = (omega (arith, front, length-append (take from out) (r.result.output ++ drop (length out - from) (drop from out))), omega (arith, progress.sends_most))

    pub sent_fits : heading_size + r.result.sent ≤ length out
    sent_fits = omega (arith, progress.sends_room, length-drop heading_size out, room)

    pub with_heading_lem : record {
      result = record {
        number = r.result.number;
        taken = r.result.taken;
        sent = heading_size + r.result.sent;
        recipients = r.result.recipients;
        memory = r.result.memory;
        output = overwrite_at back 0 (heading_bytes r.result.recipients r.result.sent);
      };
      place = r.place;
    } ≡ message_with_place limit mem c input out
    with_heading_lem =
        let h = heading_bytes r.result.recipients r.result.sent in
        let six : length h ≡ heading_size = length_heading r.result.recipients r.result.sent in
        let fits : 0 + length h ≤ length (take from out ++ r.result.output) = omega (arith, six, length-append (take from out) r.result.output, front) in
        let behind : drop (0 + length h) (take from out ++ r.result.output) ≡ r.result.output = drop_at (take from out) r.result.output (0 + length h) (omega (arith, front, six)) in
        let headed : overwrite_at back 0 h ≡ h ++ r.result.output =
        ap (λ (x : List ℕ). overwrite_at x 0 h) (rest_back out r.result.output from) ∙ overwrite_eq (take from out ++ r.result.output) 0 h fits ∙ ap (λ (x : List ℕ). h ++ x) behind in
        rw (headed, result_is, place_is, step_done limit mem c input out (eq-eqb _ done (rw result_is at is_done)))
