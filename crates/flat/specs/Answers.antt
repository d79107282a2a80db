-- Answers as the C structs have them: a field that an answer does not use is 0 (false).
use Rattle.std.specs.Prelude.{ℕ, Bool, false, Float, Result, Ok, Err}
use Rattle.std.specs.Float.{binary64}
use Rattle.std.specs.Float.Ieee.{of_bits}
use Rattle.field.specs.declared.Refusal.{Refusal}
use Rattle.scalar.specs.declared.Scalar.{Scalar}
use Rattle.scalar.specs.declared.Scalar.TheVariants as S
use Rattle.protocol.specs.Step.{number_of}
use Rattle.flat.specs.declared.ScalarAnswer.{ScalarAnswer}

abbrev zero_double : Float
zero_double = of_bits binary64 0

abbrev answer_of : Result Scalar Refusal → (found : ℕ) (flag : Bool) (value : Float) → ScalarAnswer
answer_of s found flag value = record { number = number_of s; found = found; flag = flag; value = value }

-- what is found: 0 "a Boolean", 1 "a Double as a number", 2 "neither where it is text or an array"; 0 with a refusal
abbrev pub scalar_answer : Result Scalar Refusal → ScalarAnswer
scalar_answer (Ok (S.Boolean flag)) = answer_of (Ok (S.Boolean flag)) 0 flag zero_double
scalar_answer (Ok (S.Double value)) = answer_of (Ok (S.Double value)) 1 false value
scalar_answer (Ok S.Neither) = answer_of (Ok S.Neither) 2 false zero_double
scalar_answer (Err refusal) = answer_of (Err refusal) 0 false zero_double
