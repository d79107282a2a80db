-- "The run in demand 3": calls of the server half in order, memory after them, and the bytes that are addressed to a client.
use Rattle.std.specs.Prelude.{ℕ, Bool, false, ◌&&◌, List, [], ◌∷◌, ◌++◌, ◌≡◌, take, eqb}
use Rattle.field.specs.Answer.{done}
use Rattle.field.specs.Choice.{pick}
use Rattle.message.specs.Layout.{hello_kind, update_kind, revision_bytes}
use Rattle.recipients.specs.Recipients.{test_bit}
use Rattle.protocol.specs.Judge.{Call, open_connection, leave, client_message, local_create, local_write, read_entry, protocol_revision}
use Rattle.protocol.specs.Step.{ServerMemory, LentCall, CallResult, call_step, fresh_start}

-- memory after a run of calls
unfoldable pub memory_after_run : ℕ → ServerMemory → List LentCall → ServerMemory
memory_after_run limit mem [] = mem
memory_after_run limit mem (k ∷ ks) = memory_after_run limit (call_step limit mem k).memory ks

-- "It begins after a fresh start": memory after it and some calls
abbrev pub after_start_and_calls : ℕ → ServerMemory → List LentCall → ServerMemory
after_start_and_calls limit mem ks = memory_after_run limit (fresh_start limit mem).memory ks

-- "the first "sent" bytes of the output, as the call leaves them, of each call that answers 0 with its bit among the recipients"
unfoldable pub addressed_by_call : ℕ → CallResult → List ℕ
addressed_by_call c r = pick (eqb r.number done && test_bit r.recipients c) (take r.sent r.output) []

-- "they are joined in the order of the calls"
unfoldable pub addressed_bytes : ℕ → ServerMemory → ℕ → List LentCall → List ℕ
addressed_bytes limit mem c [] = []
addressed_bytes limit mem c (k ∷ ks) = addressed_by_call c (call_step limit mem k) ++ addressed_bytes limit (call_step limit mem k).memory c ks

-- "a hello for 0x0200" of client c, whatever stands behind it, lent an output
abbrev pub hello_call : ℕ → List ℕ → List ℕ → LentCall
hello_call c rest out = record { call = client_message c (revision_bytes hello_kind protocol_revision ++ rest); output = out }

-- "leaving was called for it"; "its message 0x11"
abbrev pub leaves_or_updates : ℕ → Call → Bool
leaves_or_updates c (open_connection d) = false
leaves_or_updates c (leave d) = eqb c d
leaves_or_updates c (client_message d []) = false
leaves_or_updates c (client_message d (k ∷ m)) = eqb c d && eqb k update_kind
leaves_or_updates c (local_create name type value) = false
leaves_or_updates c (local_write id value) = false
leaves_or_updates c (read_entry id) = false

-- no call of these that "answered 0" is c's leaving or c's own update
unfoldable pub StaysWithoutOwnUpdate : ℕ → ServerMemory → ℕ → List LentCall → Type 0
StaysWithoutOwnUpdate limit mem c [] = Unit {0}
StaysWithoutOwnUpdate limit mem c (k ∷ ks) =
    ((call_step limit mem k).number ≡ done → leaves_or_updates c k.call ≡ false) × StaysWithoutOwnUpdate limit (call_step limit mem k).memory c ks
