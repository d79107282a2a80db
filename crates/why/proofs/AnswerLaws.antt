-- A reason can be told from its answer.
use mathlib.Core.Path.{◌≡◌, refl, sym, ap, ◌∙◌}
use lib.Dec.{eqb}
use Rattle.field.specs.Choice.{pick}
use Rattle.reason.specs.Reason.{refused_at}
use Rattle.reason.specs.declared.Reason.{Reason}
use Rattle.reason.specs.declared.Reason.TheVariants.{Refused, KeepAlive, NameHeld, Equal, Older, Undefined, Applied, Done}
use Rattle.why.specs.Answer.{reason_answer, AnswerTells}
use Rattle.why.specs.declared.ReasonAnswer.{ReasonAnswer}

reason_of : ReasonAnswer → Reason
reason_of a =
    pick (eqb a.reason 0) (refused_at a.number a.place)
    (pick (eqb a.reason 1) KeepAlive
    (pick (eqb a.reason 2) (NameHeld a.id)
    (pick (eqb a.reason 3) Equal
    (pick (eqb a.reason 4) (Older a.distance)
    (pick (eqb a.reason 5) Undefined (pick (eqb a.reason 6) (Applied a.distance) Done))))))

told : (r : Reason) → reason_of (reason_answer r) ≡ r
unfolding reason_of pick
told (Refused fault) = refl
told KeepAlive = refl
told (NameHeld id) = refl
told Equal = refl
told (Older d) = refl
told Undefined = refl
told (Applied d) = refl
told Done = refl

pub answer_tells : AnswerTells
answer_tells r s e = sym (told r) ∙ ap reason_of e ∙ told s
