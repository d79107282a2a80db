-- What a reader answers, and fields of one and two bytes.
-- A reader looks at bytes from the start of a list; a place is counted from there.
use Rattle.std.specs.Prelude.{ℕ, ◌+◌, List, length, get_or, drop, leb, Result, Ok, Err}
use Rattle.field.specs.Choice.{demand}
use Rattle.field.specs.Octets.{decode16}
use Rattle.field.specs.Answer.{done, incomplete}
use Rattle.field.specs.declared.Fault.{Fault}

-- what a reader answers: a refusal, or how many bytes it took
abbrev pub Parsed : Type 0
Parsed = Result ℕ Fault

-- a refusal: its number, and the place of the first byte of the field that failed
abbrev pub fault_at : (number place : ℕ) → Fault
fault_at number place = record { number = number; place = place }

-- the refusal of a reader that refused
abbrev pub fault_of : Parsed → Fault
fault_of (Err fault) = fault
fault_of (Ok n) = fault_at done 0

-- "a field that is not there ends the reading": what comes next where the first n bytes are there
abbrev pub demand_bytes : {X : Type 0} → ℕ → List ℕ → X → X → X
demand_bytes n s refusal next = demand (leb n (length s)) refusal next

-- a reader's answer for bytes that begin at `from`: a refusal's place is counted from the start of them all
abbrev pub moved_by : ℕ → Parsed → Parsed
moved_by from (Err fault) = Err (fault_at fault.number (from + fault.place))
moved_by from (Ok n) = Ok n

-- the reading goes on where n bytes were taken, and ends with the refusal otherwise
abbrev pub and_then : {X : Type 0} → (Fault → X) → Parsed → (ℕ → X) → X
and_then refuse (Err fault) f = refuse fault
and_then refuse (Ok n) f = f n

-- fields of one byte, and numbers of two
abbrev pub octet_size : ℕ
octet_size = 1

abbrev pub number_size : ℕ
number_size = 2

-- the byte at a place, and the number of two bytes: "a field that is not there ends the reading with 1"
unfoldable pub octet_at : List ℕ → ℕ → Parsed
octet_at s at = demand_bytes (at + octet_size) s (Err (fault_at incomplete at)) (Ok (get_or s at 0))

unfoldable pub number_at : List ℕ → ℕ → Parsed
number_at s at = demand_bytes (at + number_size) s (Err (fault_at incomplete at)) (Ok (decode16 (drop at s)))
