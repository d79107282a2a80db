-- One message of a delivery: demand 1, and the room that it needs.
use Rattle.std.specs.Prelude.{ℕ, ◌+◌, ◌≤◌, ◌<◌, List, ◌≡◌, length}
use Rattle.field.specs.Answer.{done, output_too_short}
use Rattle.protocol.specs.Step.{ServerMemory, refusal, call_step}
use Rattle.protocol.specs.Answered.{RightlyAnswered}
use Rattle.protocol.specs.Taken.{message_call}
use Rattle.delivery.specs.Delivery.{heading_size, message_step}

-- "Demand 1 reads each message by itself": one that is not done leaves memory and output exactly as lent, and a refused one takes nothing
abbrev pub MessageAnswered : Type 0
MessageAnswered = (limit : ℕ) (mem : ServerMemory) (c : ℕ) (input out : List ℕ) → RightlyAnswered mem out (message_step limit mem c input out)

-- "12 when heading and bytes together don't fit": of a message that a single call does in some output
pub record RoomForBoth (limit : ℕ) (mem : ServerMemory) (c : ℕ) (input room out : List ℕ) : Type 0 where
  pub fits : heading_size + (call_step limit mem (message_call c input room)).sent ≤ length out → (message_step limit mem c input out).number ≡ done
  pub too_short : length out < heading_size + (call_step limit mem (message_call c input room)).sent
      → message_step limit mem c input out ≡ refusal mem out output_too_short

abbrev pub MessageNeedsRoom : Type 0
MessageNeedsRoom =
    (limit : ℕ) (mem : ServerMemory) (c : ℕ) (input room out : List ℕ) → (call_step limit mem (message_call c input room)).number ≡ done
    → RoomForBoth limit mem c input room out
