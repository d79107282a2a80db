-- What a call answers, and lent memory afterwards.
use Rattle.std.specs.Prelude.{ℕ, Bool, ◌&&◌, List, [], length, set, replicate, leb, ltb, Result, Ok, Err}
use Rattle.field.specs.Answer.{done, ignored, output_too_short, unsound}
use Rattle.field.specs.Choice.{demand}
use Rattle.field.specs.Octets.{overwrite_at}
use Rattle.field.specs.Refusal.{refusal_number}
use Rattle.field.specs.declared.Refusal.{Refusal}
use Rattle.field.specs.declared.Refusal.TheVariants.{UnknownId, Unsound}
use Rattle.scalar.specs.Scalar.{scalar_of}
use Rattle.scalar.specs.declared.Scalar.{Scalar}
use Rattle.message.specs.Layout.{revision_length, unsupported_kind, assignment_bytes, update_bytes, revision_bytes}
use Rattle.table.specs.Table.{TableMemory, emptied, entry_at, entries_of, store_entry, store_value}
use Rattle.soundness.specs.Sound.{large_enough, sound_table, sound_marks, connections, closed, open', greeted}
use Rattle.recipients.specs.Recipients.{Recipients, nobody, sender, all_greeted, recipient_set}
use Rattle.hello.specs.Hello.{hello_answer}
use Rattle.protocol.specs.Judge.{Call, open_connection, leave, client_message, local_create, local_write, read_entry, Verdict, refuse, ignore, read_done, open_mark, close_mark, accept_hello, unsupported_revision, store_new, store_update, protocol_revision, judge}

-- the server's lent memory: the table, and the connection marks
pub record ServerMemory : Type 0 where
  pub table : TableMemory
  pub marks : List ℕ

-- a call, with the output that is lent to it
pub record LentCall : Type 0 where
  pub call : Call
  pub output : List ℕ

-- number, taken, sent and recipients; memory and output afterwards
pub record CallResult : Type 0 where
  pub number : ℕ
  pub taken : ℕ
  pub sent : ℕ
  pub recipients : ℕ
  pub memory : ServerMemory
  pub output : List ℕ

-- "A refusal (1 to 14) reports 0 bytes taken, 0 sent and no recipients, and changes no lent memory."
abbrev pub refusal : ServerMemory → List ℕ → ℕ → CallResult
refusal mem out number = record { number = number; taken = 0; sent = 0; recipients = 0; memory = mem; output = out }

-- "With 0 the first "sent" bytes of the output are the messages and the rest is unchanged";
-- "last the output room (12), given exactly when the output is shorter than what would be sent"
abbrev pub answer : ServerMemory → List ℕ → (taken : ℕ) (messages : List ℕ) → Recipients → ServerMemory → CallResult
answer mem out taken messages to after =
    demand (leb (length messages) (length out)) (refusal mem out output_too_short)
    (record {
      number = done;
      taken = taken;
      sent = length messages;
      recipients = recipient_set to mem.marks;
      memory = after;
      output = overwrite_at out 0 messages;
    })

abbrev pub with_mark : ServerMemory → ℕ → ℕ → ServerMemory
with_mark mem c mark = record { table = mem.table; marks = set mem.marks c mark }

abbrev pub with_table : ServerMemory → TableMemory → ServerMemory
with_table mem table = record { table = table; marks = mem.marks }

unfoldable pub execute : ServerMemory → List ℕ → Verdict → CallResult
execute mem out (refuse fault) = refusal mem out fault.number
execute mem out (ignore taken) = record { number = ignored; taken = taken; sent = 0; recipients = 0; memory = mem; output = out }
execute mem out read_done = answer mem out 0 [] nobody mem
execute mem out (open_mark c) = answer mem out 0 [] nobody (with_mark mem c open')
execute mem out (close_mark c) = answer mem out 0 [] nobody (with_mark mem c closed)
execute mem out (accept_hello c) = answer mem out revision_length (hello_answer 0 (entries_of mem.table)) (sender c) (with_mark mem c greeted)
execute mem out (unsupported_revision c) =
    answer mem out revision_length (revision_bytes unsupported_kind protocol_revision) (sender c) (with_mark mem c closed)
execute mem out (store_new e taken) =
    answer mem out taken (assignment_bytes mem.table.count e) all_greeted (with_table mem (store_entry mem.table e))
execute mem out (store_update id number value taken to) =
    answer mem out taken (update_bytes id number value) to (with_table mem (store_value mem.table id number value))

-- a call judges what is lent to it: reading an entry has no connection marks
abbrev pub sound_for : ℕ → ServerMemory → Call → Bool
sound_for limit mem (open_connection c) = sound_table limit mem.table && sound_marks mem.marks
sound_for limit mem (leave c) = sound_table limit mem.table && sound_marks mem.marks
sound_for limit mem (client_message c m) = sound_table limit mem.table && sound_marks mem.marks
sound_for limit mem (local_create name type value) = sound_table limit mem.table && sound_marks mem.marks
sound_for limit mem (local_write id value) = sound_table limit mem.table && sound_marks mem.marks
sound_for limit mem (read_entry id) = sound_table limit mem.table

-- one call: 14 comes first
unfoldable pub call_step : ℕ → ServerMemory → LentCall → CallResult
call_step limit mem k =
    demand (sound_for limit mem k.call) (refusal mem k.output unsound)
    (execute mem k.output (judge limit (entries_of mem.table) mem.marks k.call))

-- "A fresh start sets the count to 0 and closes all connections; other bytes stay. It .. refuses only memory that is too short (14)."
pub record StartResult : Type 0 where
  pub number : ℕ
  pub memory : ServerMemory

unfoldable pub fresh_start : ℕ → ServerMemory → StartResult
fresh_start limit mem =
    demand (large_enough limit mem.table.heads mem.table.bytes && leb connections (length mem.marks))
    (record { number = unsound; memory = mem })
    (record { number = done; memory = record { table = emptied mem.table; marks = overwrite_at mem.marks 0 (replicate connections closed) } })

-- "Reading an entry by ID .. Refusals: 14, 6."
unfoldable pub read_scalar : ℕ → TableMemory → ℕ → Result Scalar Refusal
read_scalar limit m id =
    demand (sound_table limit m) (Err Unsound)
    (demand (ltb id m.count) (Err UnknownId)
    (Ok (scalar_of (entry_at m.heads m.bytes id).type (entry_at m.heads m.bytes id).value)))

-- the number that a reading is answered with
abbrev pub number_of : Result Scalar Refusal → ℕ
number_of (Ok scalar) = done
number_of (Err refusal) = refusal_number refusal
