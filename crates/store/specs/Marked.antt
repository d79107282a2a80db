-- What changing a mark answers.
use Rattle.std.specs.Prelude.{List, ℕ, Result, Ok, Err}
use Rattle.field.specs.declared.Fault.{Fault}
use Rattle.field.specs.Place.{WithPlace}
use Rattle.answer.specs.Answers.{done_answer, refused_answer}
use Rattle.protocol.specs.Step.{ServerMemory, CallResult}
use Rattle.protocol.specs.Lent.{answered}

-- with memory and output as the call leaves them
abbrev pub marked : Result (Unit {0}) Fault → ServerMemory → (out : List ℕ) → WithPlace CallResult
marked (Ok done) memory out = answered (done_answer 0 0 0) memory out
marked (Err fault) memory out = answered (refused_answer fault) memory out
