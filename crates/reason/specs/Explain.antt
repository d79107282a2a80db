-- The reason of a verdict: the call itself goes by the verdict (`judge`), so what is said of it cannot differ from what is done.
use Rattle.std.specs.Prelude.{ℕ, ◌&&◌, List, ◌≡◌, get_or, eqb}
use Rattle.field.specs.Answer.{unsound}
use Rattle.field.specs.Choice.{pick, demand}
use Rattle.sequence.specs.SequenceNumber.{distance}
use Rattle.message.specs.Layout.{Entry, keep_alive_kind, assignment_kind}
use Rattle.message.specs.Reader.{name_in}
use Rattle.table.specs.Names.{holder}
use Rattle.table.specs.Table.{default_entry, entries_of}
use Rattle.soundness.specs.Sound.{sound_table, sound_marks}
use Rattle.places.specs.MessageFails.{name_length_in}
use Rattle.protocol.specs.Judge.{client_message, Verdict, refuse, ignore, read_done, open_mark, close_mark, accept_hello, unsupported_revision, store_new, store_update, judge}
use Rattle.protocol.specs.Step.{ServerMemory}
use Rattle.reason.specs.Reason.{refused_at}
use Rattle.reason.specs.Checks.{number_checks, stored_in, received_in}
use Rattle.reason.specs.Why.{first_failing, why}
use Rattle.reason.specs.declared.Reason.{Reason}
use Rattle.reason.specs.declared.Reason.TheVariants.{Refused, KeepAlive, NameHeld, Applied, Done}

-- of an update, by its number
unfoldable pub number_reason : (stored received : ℕ) → Reason
number_reason stored received = first_failing (number_checks stored received) (Applied (distance stored received))

-- of a message that is ignored, by its kind
unfoldable pub ignored_reason : List Entry → (kind : ℕ) → List ℕ → Reason
ignored_reason es kind m =
    pick (eqb kind keep_alive_kind) KeepAlive
    (pick (eqb kind assignment_kind) (NameHeld (holder (name_in (name_length_in m) m) es))
    (number_reason (stored_in es m) (received_in m)))

-- of a verdict on a client's message; those on other calls do not arise
abbrev pub explain : List Entry → (kind : ℕ) → List ℕ → Verdict → Reason
explain es kind m (refuse fault) = Refused fault
explain es kind m (ignore taken) = ignored_reason es kind m
explain es kind m read_done = Done
explain es kind m (open_mark c) = Done
explain es kind m (close_mark c) = Done
explain es kind m (accept_hello c) = Done
explain es kind m (unsupported_revision c) = Done
explain es kind m (store_new e taken) = Done
explain es kind m (store_update id number value taken to) = number_reason (get_or es id default_entry).number number

abbrev pub verdict_reason : ℕ → ServerMemory → (c : ℕ) → List ℕ → Reason
verdict_reason limit mem c m =
    explain (entries_of mem.table) (get_or m 0 0) m (judge limit (entries_of mem.table) mem.marks (client_message c m))

-- 14 first, and then the reason of the verdict
abbrev pub WhyExplained : Type 0
WhyExplained =
    (limit : ℕ) (mem : ServerMemory) (c : ℕ) (m : List ℕ)
    → why limit mem c m ≡ demand (sound_table limit mem.table && sound_marks mem.marks) (refused_at unsound 0) (verdict_reason limit mem c m)
