-- Answers: a refusal, an ignored message, and a call that is done.
use Rattle.std.specs.Prelude.{ℕ, Bool, ◌||◌, eqb}
use Rattle.field.specs.Answer.{done, ignored}
use Rattle.field.specs.Place.{reported_place}
use Rattle.field.specs.declared.Fault.{Fault}
use Rattle.answer.specs.declared.Answer.{Answer}

-- a number alone: nothing is taken or sent, no one receives, and no field failed
abbrev pub bare_answer : (number : ℕ) → Answer
bare_answer number = record { number = number; recipients = 0; taken = 0; sent = 0; place = 0 }

-- "A refusal (1 to 14) reports 0 bytes taken, 0 sent and no recipients"
abbrev pub refused_answer : Fault → Answer
refused_answer fault = record { number = fault.number; recipients = 0; taken = 0; sent = 0; place = reported_place fault }

-- "the message is taken, nothing changes, no output, no recipients"
abbrev pub ignored_answer : (taken : ℕ) → Answer
ignored_answer taken = record { number = ignored; recipients = 0; taken = taken; sent = 0; place = 0 }

abbrev pub done_answer : (recipients taken sent : ℕ) → Answer
done_answer recipients taken sent = record { number = done; recipients = recipients; taken = taken; sent = sent; place = 0 }

-- done or ignored: the message is taken, and what stands behind it comes next
abbrev pub goes_on : (number : ℕ) → Bool
goes_on number = eqb number done || eqb number ignored
