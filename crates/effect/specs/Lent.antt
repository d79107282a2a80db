-- What the code answers, as the definitions have it.
use Rattle.std.specs.Prelude.{ℕ, Result, Ok, Err}
use Rattle.field.specs.Answer.{done, ignored}
use Rattle.field.specs.Refusal.{refusal_number}
use Rattle.field.specs.declared.Refusal.{Refusal}
use Rattle.protocol.specs.Step.{ServerMemory}
use Rattle.protocol.specs.Effect.{Effect}
use Rattle.effect.specs.declared.Outcome.{Outcome}
use Rattle.effect.specs.declared.Outcome.TheVariants as O
use Rattle.effect.specs.declared.Taken.{Taken}

abbrev pub outcome_number : Outcome → ℕ
outcome_number O.Done = done
outcome_number O.Ignored = ignored

-- what is answered for a message, with memory as the call leaves it
abbrev pub effected : Result Taken Refusal → ServerMemory → Effect
effected (Ok taken) memory = record { number = outcome_number taken.outcome; taken = taken.size; memory = memory }
effected (Err refusal) memory = record { number = refusal_number refusal; taken = 0; memory = memory }

-- a call that takes no bytes
abbrev pub outcome_effect : Result Outcome Refusal → ServerMemory → Effect
outcome_effect (Ok outcome) memory = record { number = outcome_number outcome; taken = 0; memory = memory }
outcome_effect (Err refusal) memory = record { number = refusal_number refusal; taken = 0; memory = memory }

abbrev pub done_number : Result (Unit {0}) Refusal → ℕ
done_number (Ok tt) = done
done_number (Err refusal) = refusal_number refusal

-- and is done or refused
abbrev pub done_effect : Result (Unit {0}) Refusal → ServerMemory → Effect
done_effect r memory = record { number = done_number r; taken = 0; memory = memory }
