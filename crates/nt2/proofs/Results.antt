-- What calls answer on too few heads, of each type that a call answers with.
use Rattle.std.specs.Prelude.{Err}
use Rattle.field.specs.Answer.{unsound}
use Rattle.field.specs.declared.Refusal.TheVariants.{Unsound}
use Rattle.answer.specs.Answers.{bare_answer}
use Rattle.answer.specs.declared.Answer.{Answer}
use Rattle.client.specs.Lent.{bare_copied}
use Rattle.client.specs.declared.Copied.{Copied}
use Rattle.flat.specs.Answers.{scalar_answer}
use Rattle.flat.specs.declared.ScalarAnswer.{ScalarAnswer}

abbrev pub too_few : Answer
too_few = bare_answer unsound

abbrev pub copied_nothing : Copied
copied_nothing = bare_copied unsound

abbrev pub read_nothing : ScalarAnswer
read_nothing = scalar_answer (Err Unsound)
