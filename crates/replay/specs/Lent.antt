-- What the code reads and answers, as the definitions have it.
use Rattle.std.specs.Prelude.{ℕ, ◌+◌, ◌≡◌, length, Result, Ok, Err}
use Rattle.field.specs.Answer.{done}
use Rattle.field.specs.Refusal.{refusal_number}
use Rattle.field.specs.declared.Refusal.{Refusal}
use Rattle.protocol.specs.Step.{ServerMemory}
use Rattle.line_record.specs.Record.{NextRecord, refused_record, found, record_head_size}
use Rattle.line_record.specs.Replay.{RunState, Advanced, ReplayResult}
use Rattle.slots.specs.declared.Record.{Record}
use Rattle.slots.specs.declared.Record.TheVariants as R
use Rattle.slots.specs.Lent.{lent_record}
use Rattle.replay.specs.declared.Replayed.{Replayed}

-- how many bytes a record has
abbrev pub size_of : Record → ℕ
size_of (R.Opens c) = record_head_size
size_of (R.Leaves c) = record_head_size
size_of (R.Came c arrived) = record_head_size + length arrived.now

-- the record that was read at the start of some bytes
abbrev pub next_of : Result Record Refusal → NextRecord
next_of (Err refusal) = refused_record (refusal_number refusal)
next_of (Ok next) = found (lent_record next) (size_of next)

-- an answer, with memory as the call leaves it
abbrev pub replayed : Replayed → ServerMemory → ReplayResult
replayed r memory = record { number = r.number; records = r.records; memory = memory }

abbrev pub progress_number : Result ℕ Refusal → ℕ
progress_number (Ok size) = done
progress_number (Err refusal) = refusal_number refusal

abbrev pub progress_size : Result ℕ Refusal → ℕ
progress_size (Ok size) = size
progress_size (Err refusal) = 0

-- a record was done or refused, and this is the state behind it
pub record ProgressIs (r : Result ℕ Refusal) (a : Advanced) (s : RunState) : Type 0 where
  pub number : progress_number r ≡ a.number
  pub size : progress_size r ≡ a.size
  pub state : s ≡ a.state
