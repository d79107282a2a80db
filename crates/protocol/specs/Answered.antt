-- "Numbers a call answers with": what every call's answer is, whatever lent memory holds.
use Rattle.std.specs.Prelude.{ℕ, ◌+◌, ◌≤◌, List, ◌≡◌, ◌≢◌, ◌⊎◌, length, drop}
use Rattle.field.specs.Answer.{done, ignored, RefusalNumber}
use Rattle.message.specs.Layout.{revision_length}
use Rattle.table.specs.Table.{TableMemory}
use Rattle.hello.specs.Hello.{longest_hello}
use Rattle.protocol.specs.Judge.{client_message, read_entry}
use Rattle.protocol.specs.Step.{ServerMemory, LentCall, CallResult, call_step, read_scalar, number_of}
use Rattle.protocol.specs.Copy.{CopyResult, copy_message}

-- "A refusal (1 to 14) reports 0 bytes taken, 0 sent and no recipients, and changes no lent memory";
-- "ignored: the message is taken, nothing changes, no output, no recipients"
pub record RightlyAnswered (mem : ServerMemory) (out : List ℕ) (r : CallResult) : Type 0 where
  pub numbers : (r.number ≡ done) ⊎ ((r.number ≡ ignored) ⊎ RefusalNumber r.number)
  pub refusal_takes_nothing : RefusalNumber r.number → r.taken ≡ 0
  pub unchanged : r.number ≢ done → (r.memory ≡ mem) × (r.output ≡ out) × (r.sent ≡ 0) × (r.recipients ≡ 0)

abbrev pub CallAnswered : Type 0
CallAnswered = (limit : ℕ) (mem : ServerMemory) (k : LentCall) → RightlyAnswered mem k.output (call_step limit mem k)

-- a client's message: what is taken is there, and some of it where the answer is 0 or 16; with 0 some bytes are sent, for which there is room, and
-- no more than the longest answer to a hello and a revision have together; the output behind them is as it was lent
pub record MessageProgress (limit : ℕ) (message out : List ℕ) (r : CallResult) : Type 0 where
  pub takes_there : r.taken ≤ length message
  pub takes_some : (r.number ≡ done) ⊎ (r.number ≡ ignored) → 1 ≤ r.taken
  pub sends_some : r.number ≡ done → 1 ≤ r.sent
  pub sends_room : r.sent ≤ length out
  pub sends_most : r.sent ≤ longest_hello limit + revision_length
  pub output_length : length r.output ≡ length out
  pub output_rest : drop r.sent r.output ≡ drop r.sent out

abbrev pub CallProgress : Type 0
CallProgress =
    (limit : ℕ) (mem : ServerMemory) (c : ℕ) (message out : List ℕ)
    → MessageProgress limit message out (call_step limit mem (record { call = client_message c message; output = out }))

-- "Reading an entry by ID" is a call that answers the number of the scalar that is read, and nothing changes
abbrev pub ReadAnswered : Type 0
ReadAnswered =
    (mem : ServerMemory) (out : List ℕ) (limit id : ℕ)
    → call_step limit mem (record { call = read_entry id; output = out })
    ≡ record { number = number_of (read_scalar limit mem.table id); taken = 0; sent = 0; recipients = 0; memory = mem; output = out }

-- ---- the copy

-- the same of a message to the copy; a revision is reported with 16 only ("0 is reported in every other case")
pub record CopyRightlyAnswered (m : TableMemory) (r : CopyResult) : Type 0 where
  pub numbers : (r.number ≡ done) ⊎ ((r.number ≡ ignored) ⊎ RefusalNumber r.number)
  pub refusal_takes_nothing : RefusalNumber r.number → r.taken ≡ 0
  pub revision_with_ignored : r.number ≢ ignored → r.revision ≡ 0
  pub unchanged : r.number ≢ done → r.memory ≡ m

abbrev pub CopyAnswered : Type 0
CopyAnswered = (limit : ℕ) (m : TableMemory) (message : List ℕ) → CopyRightlyAnswered m (copy_message limit m message)

-- where a message is answered 0 or 16, some of its bytes are taken, and no more than there are
abbrev pub CopyProgress : Type 0
CopyProgress =
    (limit : ℕ) (m : TableMemory) (message : List ℕ)
    → ((copy_message limit m message).number ≡ done) ⊎ ((copy_message limit m message).number ≡ ignored)
    → (1 ≤ (copy_message limit m message).taken) × ((copy_message limit m message).taken ≤ length message)
