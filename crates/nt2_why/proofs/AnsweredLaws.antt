-- The exported call gives the number, and tells the place, of the exported reason.
use mathlib.Core.Path.{◌≡◌, refl, sym, ap, ◌∙◌}
use native.Mathlib.Omega.{arith}
use borrow.Author.Tests.{le-leb}
use Rattle.field.specs.Choice.{pick}
use Rattle.field.specs.Place.{TellsPlace, reported_place, WithPlace}
use Rattle.table.specs.Table.{max_entries}
use Rattle.protocol.specs.Step.{CallResult}
use Rattle.reason.specs.Reason.{number_of}
use Rattle.reason.specs.Why.{why}
use Rattle.reason.specs.Answered.{place_told}
use Rattle.reason.specs.declared.Reason.{Reason}
use Rattle.reason.specs.declared.Reason.TheVariants.{Refused, KeepAlive, NameHeld, Equal, Older, Undefined, Applied, Done}
use Rattle.reason.proofs.AnsweredLaws.{call_gives, call_tells_place}
use Rattle.why.specs.Answer.{reason_answer}
use Rattle.nt2.specs.Lent.{server_of, WithPast}
use Rattle.nt2_why.specs.Answered.{ExportedCallGives}

number_answered : (r : Reason) → (reason_answer r).number ≡ number_of r
number_answered (Refused fault) = refl
number_answered KeepAlive = refl
number_answered (NameHeld id) = refl
number_answered Equal = refl
number_answered (Older d) = refl
number_answered Undefined = refl
number_answered (Applied d) = refl
number_answered Done = refl

place_answered : (r : Reason) → TellsPlace (number_of r) → place_told r ≡ (reason_answer r).place
unfolding reported_place pick
place_answered (Refused fault) tells = rw (le-leb _ _ tells.above, le-leb _ _ tells.below)
place_answered KeepAlive tells = refl
place_answered (NameHeld id) tells = refl
place_answered Equal tells = refl
place_answered (Older d) tells = refl
place_answered Undefined tells = refl
place_answered (Applied d) tells = refl
place_answered Done tells = refl

pub exported_call_gives : ExportedCallGives
exported_call_gives m after c message out written r a is e room =
    let result = ap (λ (x : WithPast (WithPlace CallResult)). x.result) e in
    let number = ap (λ (x : WithPlace CallResult). x.result.number) result in
    let place = ap (λ (x : WithPlace CallResult). x.place) result in
    let gives : a.number ≡ number_of (why max_entries (server_of m) c message) = number ∙ call_gives max_entries (omega arith) (server_of m) c message out room in
    rw is (
      gives ∙ sym (number_answered (why max_entries (server_of m) c message)),
      λ tells.
          place ∙ call_tells_place max_entries (server_of m) c message ∙ place_answered (why max_entries (server_of m) c message) (rw gives at tells),
    )
