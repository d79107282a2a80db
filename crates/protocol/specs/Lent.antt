-- The code's answers and lent slices, as the definitions have them.
use Rattle.std.specs.Prelude.{ℕ, List}
use Rattle.field.specs.Place.{WithPlace}
use Rattle.table.specs.Table.{TableMemory, table_memory, lent}
use Rattle.protocol.specs.Judge.{Call}
use Rattle.protocol.specs.Step.{ServerMemory, LentCall, CallResult}
use Rattle.answer.specs.declared.Answer.{Answer}

-- a table, and the marks that are lent beside it
abbrev pub beside_marks : TableMemory → (marks : List ℕ) → ServerMemory
beside_marks table marks = record { table = table; marks = marks }

-- the server's memory as it is lent to a call
abbrev pub lent_server : (heads bytes : List ℕ) (count : ℕ) (marks : List ℕ) → ServerMemory
lent_server heads bytes count marks = beside_marks (lent heads bytes count) marks

-- a call with its output as it is lent
abbrev pub lent_call : Call → (out : List ℕ) → LentCall
lent_call call out = record { call = call; output = out }

-- an answer, with memory and output as the call leaves them
abbrev pub answered : Answer → ServerMemory → (out : List ℕ) → WithPlace CallResult
answered a memory out =
    record {
      result = record { number = a.number; taken = a.taken; sent = a.sent; recipients = a.recipients; memory = memory; output = out };
      place = a.place;
    }

-- the server's memory, of plain lists
abbrev pub server_memory : (heads bytes : List ℕ) (count : ℕ) (marks : List ℕ) → ServerMemory
server_memory heads bytes count marks = record { table = table_memory heads bytes count; marks = marks }
