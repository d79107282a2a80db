-- "no earlier check in 01's order fails", said of the message's own fields by the call itself. Proved in proofs/CutLaws.antt.
use Rattle.std.specs.Prelude.{ℕ, ◌≤◌, List, ◌++◌, ◌≡◌, ◌≢◌, take}
use Rattle.field.specs.Answer.{incomplete, unknown_kind, too_long}
use Rattle.field.specs.declared.Fault.{Fault}
use Rattle.message.specs.Reader.{Bytes}
use Rattle.protocol.specs.Step.{ServerMemory, call_step}
use Rattle.protocol.specs.Taken.{message_call}
use Rattle.reason.specs.Reason.{number_of}
use Rattle.reason.specs.Why.{why}
use Rattle.reason.specs.declared.Reason.TheVariants.{Refused}

-- "bytes after it are not looked at": neither behind a message, nor behind the field that is named. With 1 more has to come
abbrev pub BehindNotLookedAt : Type 0
BehindNotLookedAt =
    (limit : ℕ) (mem : ServerMemory) (c : ℕ) (m rest : List ℕ) → number_of (why limit mem c m) ≢ incomplete → why limit mem c (m ++ rest) ≡ why limit mem c m

-- the numbers that are told of a field of the message: 1, and 4 to 10
pub data OfField : (number : ℕ) → Type 0 where
  not_whole : OfField incomplete
  breaks_rule : {number : ℕ} → unknown_kind ≤ number → number ≤ too_long → OfField number

-- cut anywhere up to the first byte of the field that is named, the message is answered 1: nothing before that field is refused
abbrev pub CutIncomplete : Type 0
CutIncomplete =
    (limit : ℕ) → 1 ≤ limit → (mem : ServerMemory) (c : ℕ) (m out : List ℕ) → Bytes m
    → (fault : Fault) → why limit mem c m ≡ Refused fault → OfField fault.number → (n : ℕ) → n ≤ fault.place
    → (call_step limit mem (message_call c (take n m) out)).number ≡ incomplete
