-- "01's answers gain one field .. Refusals: as before": but for the place, a call that keeps its promise answers and leaves what it did without it.
use Rattle.std.specs.Prelude.{ℕ, List, ◌≡◌}
use Rattle.table.specs.Table.{max_entries}
use Rattle.answer.specs.declared.Answer.{Answer}
use Rattle.message.specs.Reader.{parse_message}
use Rattle.writer.specs.Writer.{Fields, check, write_result, write_with_place, written}
use Rattle.protocol.specs.Step.{LentCall, call_step}
use Rattle.protocol.specs.Copy.{copy_message}
use Rattle.client.specs.declared.Copied.{Copied}
use Rattle.fields.specs.Fields.{fields, fields_of, fields_with_place, fields_in}
use Rattle.fields.specs.declared.Fields as C
use Rattle.nt2.specs.Lent.{HeadsTable, HeadsServer, table_of, server_of, past_table, heads_answered, heads_step, heads_copied, heads_copy_message}

-- a call of the server half: number, taken, sent, recipients, memory and output are the step's
abbrev pub CallsWithoutPlace : Type 0
CallsWithoutPlace =
    (m after : HeadsServer) (k : LentCall) (r : Answer) (out : List ℕ) → heads_answered r after out ≡ heads_step m k
    → (record { number = r.number; taken = r.taken; sent = r.sent; recipients = r.recipients; memory = server_of after; output = out }
    ≡ call_step max_entries (server_of m) k)
    × (past_table after.table ≡ past_table m.table)

-- a message to the copy: number, taken, revision and memory
abbrev pub CopyWithoutPlace : Type 0
CopyWithoutPlace =
    (t after : HeadsTable) (message : List ℕ) (r : Copied) → heads_copied r after ≡ heads_copy_message t message
    → (record { number = r.number; taken = r.taken; revision = r.revision; memory = table_of after }
    ≡ copy_message max_entries (table_of t) message)
    × (past_table after ≡ past_table t)

-- the message writer: number, taken, sent, recipients and output
abbrev pub WriterWithoutPlace : Type 0
WriterWithoutPlace =
    (f : Fields) (out after : List ℕ) (r : Answer) → written r after ≡ write_with_place (check f) out
    → record { number = r.number; taken = r.taken; sent = r.sent; recipients = r.recipients; output = after }
    ≡ write_result (check f) out

-- the message reader: number, fields and taken
abbrev pub ReaderWithoutPlace : Type 0
ReaderWithoutPlace =
    (updateType : ℕ) (m : List ℕ) (r : C.Fields) → fields_in r ≡ fields_with_place (parse_message updateType m)
    → fields r.number r.kind r.type_code r.revision r.id r.entry_number r.taken r.name_length r.value_length
    ≡ fields_of (parse_message updateType m)
