-- Memory as C lends it, "64 entry heads beside their bytes", and what a call on it promises, over the numbers of the heads.
use Rattle.std.specs.Prelude.{ℕ, List, ◌≡◌, drop}
use Rattle.table.specs.Table.{TableMemory, table_memory, max_entries}
use Rattle.field.specs.Place.{WithPlace}
use Rattle.answer.specs.Answers.{bare_answer}
use Rattle.answer.specs.declared.Answer.{Answer}
use Rattle.saved.specs.Calls.{LoadResult, load_result, load}
use Rattle.protocol.specs.Step.{ServerMemory, LentCall, CallResult, fresh_start, read_scalar}
use Rattle.protocol.specs.Copy.{CopyResult, copy_fresh_start}
use Rattle.protocol.specs.Place.{step_with_place, copy_with_place}
use Rattle.protocol.specs.Lent.{answered}
use Rattle.client.specs.declared.Copied.{Copied}
use Rattle.client.specs.Lent.{copied}
use Rattle.heads.specs.Heads.{flat_heads}
use Rattle.heads.specs.declared.Head.{Head}
use Rattle.flat.specs.Answers.{scalar_answer}
use Rattle.flat.specs.declared.ScalarAnswer.{ScalarAnswer}

-- a table's memory, and a server's
pub record HeadsTable : Type 0 where
  pub heads : List Head
  pub bytes : List ℕ
  pub count : ℕ

pub record HeadsServer : Type 0 where
  pub table : HeadsTable
  pub marks : List ℕ

-- the same as it is lent to a call
abbrev pub lent_table : List Head → List ℕ → ℕ → HeadsTable
lent_table heads bytes count = record { heads = heads; bytes = bytes; count = count }

abbrev pub lent : List Head → List ℕ → ℕ → List ℕ → HeadsServer
lent heads bytes count marks = record { table = lent_table heads bytes count; marks = marks }

-- the same with the numbers of the heads
abbrev pub table_of : HeadsTable → TableMemory
table_of t = table_memory (flat_heads t.heads) t.bytes t.count

abbrev pub server_of : HeadsServer → ServerMemory
server_of m = record { table = table_of m.table; marks = m.marks }

-- the heads that are lent past those of a table
abbrev pub past_table : HeadsTable → List Head
past_table t = drop max_entries t.heads

-- ---- what a call promises

-- a fresh start: its answer, and memory afterwards
abbrev pub Started : HeadsServer → Answer → HeadsServer → Type 0
Started m r after = (r ≡ bare_answer (fresh_start max_entries (server_of m)).number) × (server_of after ≡ (fresh_start max_entries (server_of m)).memory)

-- what a call answers and leaves, beside the heads past the table
pub record WithPast (R : Type 0) : Type 0 where
  pub result : R
  pub past : List Head

-- an answer, with memory and output as the call leaves them
abbrev pub heads_answered : Answer → HeadsServer → (out : List ℕ) → WithPast (WithPlace CallResult)
heads_answered r m out = record { result = answered r (server_of m) out; past = past_table m.table }

-- one call: the step on the numbers of the heads; "memory beyond the table" never changes
abbrev pub heads_step : HeadsServer → LentCall → WithPast (WithPlace CallResult)
heads_step m k = record { result = step_with_place max_entries (server_of m) k; past = past_table m.table }

-- a load; the marks are only read
abbrev pub heads_loaded : Answer → HeadsTable → WithPast LoadResult
heads_loaded r t = record { result = load_result r (table_of t); past = past_table t }

abbrev pub heads_load : HeadsServer → (saved : List ℕ) → WithPast LoadResult
heads_load m saved = record { result = load max_entries (table_of m.table) m.marks saved; past = past_table m.table }

-- reading an entry
abbrev pub EntryRead : HeadsTable → (id : ℕ) → ScalarAnswer → HeadsTable → Type 0
EntryRead t id r after = (r ≡ scalar_answer (read_scalar max_entries (table_of t) id)) × (after ≡ t)

-- a fresh start of a copy
abbrev pub CopyStarted : HeadsTable → Answer → HeadsTable → Type 0
CopyStarted t r after = (r ≡ bare_answer (copy_fresh_start max_entries (table_of t)).number) × (table_of after ≡ (copy_fresh_start max_entries (table_of t)).memory)

-- a message to the copy
abbrev pub heads_copied : Copied → HeadsTable → WithPast (WithPlace CopyResult)
heads_copied r t = record { result = copied r (table_of t); past = past_table t }

abbrev pub heads_copy_message : HeadsTable → List ℕ → WithPast (WithPlace CopyResult)
heads_copy_message t message = record { result = copy_with_place max_entries (table_of t) message; past = past_table t }
