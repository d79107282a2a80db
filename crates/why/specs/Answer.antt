-- A reason as the C struct has it: a field that a reason does not have is 0.
use Rattle.std.specs.Prelude.{ℕ, ◌≡◌}
use Rattle.sequence.specs.SequenceNumber.{half}
use Rattle.reason.specs.Reason.{number_of}
use Rattle.reason.specs.declared.Reason.{Reason}
use Rattle.reason.specs.declared.Reason.TheVariants.{Refused, KeepAlive, NameHeld, Equal, Older, Undefined, Applied, Done}
use Rattle.why.specs.declared.ReasonAnswer.{ReasonAnswer}

abbrev answer_of : Reason → (reason id distance place : ℕ) → ReasonAnswer
answer_of r reason id distance place = record { reason = reason; number = number_of r; id = id; distance = distance; place = place }

-- 0 "the refusal and its field, told by the place of its first byte", 1 "keep alive", 2 "a duplicate name with the holding ID",
-- 3 to 6 "an update equal, older by a stated distance, undefined at 32,768, or applied with its distance", 7 "another message done"
abbrev pub reason_answer : Reason → ReasonAnswer
reason_answer (Refused fault) = answer_of (Refused fault) 0 0 0 fault.place
reason_answer KeepAlive = answer_of KeepAlive 1 0 0 0
reason_answer (NameHeld id) = answer_of (NameHeld id) 2 id 0 0
reason_answer Equal = answer_of Equal 3 0 0 0
reason_answer (Older distance) = answer_of (Older distance) 4 0 distance 0
reason_answer Undefined = answer_of Undefined 5 0 half 0
reason_answer (Applied distance) = answer_of (Applied distance) 6 0 distance 0
reason_answer Done = answer_of Done 7 0 0 0

-- an answer is that of one reason: nothing of it is lost. Proved in proofs/AnswerLaws.antt
abbrev pub AnswerTells : Type 0
AnswerTells = (r s : Reason) → reason_answer r ≡ reason_answer s → r ≡ s
