-- What performing comes to where nothing is stored.
use Rattle.std.proofs.Common.{◌≡◌, refl, ℕ, List}
use Rattle.answer.specs.Answers.{ignored_answer, refused_answer}
use Rattle.field.specs.declared.Fault.{Fault}
use Rattle.protocol.specs.Judge.{ignore, refuse}
use Rattle.protocol.specs.Lent.{answered}
use Rattle.protocol.specs.Place.{execute_with_place}
use Rattle.protocol.specs.Step.{ServerMemory, execute}

module _ (memory : ServerMemory) (out : List ℕ) where
  pub refused_performed : (fault : Fault) → answered (refused_answer fault) memory out ≡ execute_with_place memory out (refuse fault)
  unfolding execute
  refused_performed fault = refl

  pub ignored_performed : (taken : ℕ) → answered (ignored_answer taken) memory out ≡ execute_with_place memory out (ignore taken)
  unfolding execute
  ignored_performed taken = refl
