-- "the real call, with output for the longest hello answer, gives the number that goes with the reason".
-- Proved in proofs/AnsweredLaws.antt and proofs/NumbersLaws.antt.
use Rattle.std.specs.Prelude.{ℕ, ◌≤◌, List, ◌≡◌, length}
use Rattle.field.specs.Answer.{done, incomplete, table_full, output_too_short, unsound}
use Rattle.field.specs.Place.{reported_place}
use Rattle.field.specs.declared.Fault.{Fault}
use Rattle.message.specs.Reader.{Bytes}
use Rattle.hello.specs.Hello.{longest_hello}
use Rattle.protocol.specs.Judge.{client_message}
use Rattle.protocol.specs.Step.{ServerMemory, call_step}
use Rattle.protocol.specs.Place.{call_place}
use Rattle.protocol.specs.Taken.{message_call}
use Rattle.reason.specs.Reason.{number_of}
use Rattle.reason.specs.Why.{why}
use Rattle.reason.specs.declared.Reason.{Reason}
use Rattle.reason.specs.declared.Reason.TheVariants.{Refused, KeepAlive, NameHeld, Equal, Older, Undefined, Applied, Done}

-- for every limit from 1 on, memory, connection, message and output that has room
abbrev pub CallGives : Type 0
CallGives =
    (limit : ℕ) → 1 ≤ limit → (mem : ServerMemory) (c : ℕ) (m out : List ℕ) → longest_hello limit ≤ length out
    → (call_step limit mem (message_call c m out)).number ≡ number_of (why limit mem c m)

-- the place that the call's answer tells
abbrev pub place_told : Reason → ℕ
place_told (Refused fault) = reported_place fault
place_told KeepAlive = 0
place_told (NameHeld id) = 0
place_told Equal = 0
place_told (Older distance) = 0
place_told Undefined = 0
place_told (Applied distance) = 0
place_told Done = 0

abbrev pub CallTellsPlace : Type 0
CallTellsPlace = (limit : ℕ) (mem : ServerMemory) (c : ℕ) (m : List ℕ) → call_place limit mem (client_message c m) ≡ place_told (why limit mem c m)

-- "it reports as reasons those a client's message can meet, except 12": 1 to 11, and 14
pub data CanMeet : (number : ℕ) → Type 0 where
  in_message : {number : ℕ} → incomplete ≤ number → number ≤ table_full → CanMeet number
  in_memory : CanMeet unsound

abbrev pub ReasonNumbers : Type 0
ReasonNumbers = (limit : ℕ) (mem : ServerMemory) (c : ℕ) (m : List ℕ) → Bytes m → (fault : Fault) → why limit mem c m ≡ Refused fault → CanMeet fault.number

-- "except 12": in every other output too the call gives that number, or 12 where the reason is that it is done
pub data GivenIn (given : ℕ) : (number : ℕ) → Type 0 where
  same : GivenIn given given
  no_room : given ≡ done → GivenIn given output_too_short

abbrev pub AnyOutput : Type 0
AnyOutput =
    (limit : ℕ) → 1 ≤ limit → (mem : ServerMemory) (c : ℕ) (m out : List ℕ) → Bytes m
    → GivenIn (number_of (why limit mem c m)) (call_step limit mem (message_call c m out)).number
