-- The code's answer, as the definitions have it.
use Rattle.std.specs.Prelude.{ℕ, List, Result, Ok, Err}
use Rattle.field.specs.Refusal.{refusal_number}
use Rattle.field.specs.declared.Refusal.{Refusal}
use Rattle.protocol.specs.Step.{ServerMemory}
use Rattle.delivery.specs.Delivery.{DeliveryResult, at_refusal}
use Rattle.deliver.specs.declared.Delivered.{Delivered}

-- an answer, with memory and output as the call leaves them
abbrev pub delivered : Delivered → ServerMemory → (out : List ℕ) → DeliveryResult
delivered d memory out =
    record {
      number = d.number;
      ended = d.ended;
      messages = d.messages;
      taken = d.taken;
      written = d.written;
      place = d.place;
      memory = memory;
      output = out;
    }

-- a refusal, and what was done before it
abbrev pub refused_answer : (number place messages taken written : ℕ) → Delivered
refused_answer number place messages taken written =
    record { number = number; ended = at_refusal; messages = messages; taken = taken; written = written; place = place }

-- what comes of a delivery that begins, or is refused at first
abbrev pub readiness : Result (Unit {0}) Refusal → (refuse : ℕ → DeliveryResult) → DeliveryResult → DeliveryResult
readiness (Err refusal) refuse next = refuse (refusal_number refusal)
readiness (Ok _) refuse next = next
