-- What the program shows: the text of a line record.
use Rattle.std.specs.Prelude.{ℕ, List, ◌≡◌, length}
use Rattle.table.specs.Table.{max_entries, entries_of}
use Rattle.protocol.specs.Step.{ServerMemory}
use Rattle.line_record.specs.Replay.{RunState, run, replay, ReplayResult, result_of}
use Rattle.digits.specs.Put.{Put}
use Rattle.table_text.specs.Text.{end_text}

-- the table at the end, then the number where a record was refused
abbrev pub result_text : ReplayResult → List ℕ
result_text r = end_text r.number (entries_of r.memory.table)

-- the text of a line record, on lent memory
unfoldable pub replay_text : ServerMemory → (recorded : List ℕ) → List ℕ
replay_text mem recorded = result_text (result_of (replay max_entries mem recorded))

-- some record is run from one state to another and answers a number
pub record Runs (s : RunState) (number : ℕ) (end : RunState) : Type 0 where
  pub recorded : List ℕ
  pub number_is : (run (length recorded) max_entries s recorded).number ≡ number
  pub state_is : (run (length recorded) max_entries s recorded).state ≡ end

-- the text of some record is in a buffer
pub record Shows (mem : ServerMemory) (buffer text : List ℕ) (end : ℕ) : Type 0 where
  pub recorded : List ℕ
  pub shown : Put buffer 0 (replay_text mem recorded) text end
