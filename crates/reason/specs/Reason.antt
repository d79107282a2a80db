-- "names the check that decided": what a reason says.
use Rattle.std.specs.Prelude.{ℕ}
use Rattle.field.specs.Answer.{done, ignored}
use Rattle.field.specs.Field.{fault_at}
use Rattle.reason.specs.declared.Reason.{Reason}
use Rattle.reason.specs.declared.Reason.TheVariants.{Refused, KeepAlive, NameHeld, Equal, Older, Undefined, Applied, Done}

-- "the number that goes with the reason"
abbrev pub number_of : Reason → ℕ
number_of (Refused fault) = fault.number
number_of KeepAlive = ignored
number_of (NameHeld id) = ignored
number_of Equal = ignored
number_of (Older distance) = ignored
number_of Undefined = ignored
number_of (Applied distance) = done
number_of Done = done

-- "the refusal and its field, told by the place of its first byte"
abbrev pub refused_at : (number place : ℕ) → Reason
refused_at number place = Refused (fault_at number place)
