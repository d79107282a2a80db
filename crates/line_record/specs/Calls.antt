-- A replay is its calls; a record can be run in pieces; which calls bytes stand for; and what the connections hold.
use Rattle.std.specs.Prelude.{ℕ, ◌+◌, ◌≤◌, ◌<◌, List, [], ◌∷◌, ◌++◌, ◌≡◌, ◌≢◌, ◌⊎◌, length, take, drop, get_or}
use Rattle.field.specs.Answer.{done, ignored, incomplete, unknown_kind, unsound, RefusalNumber}
use Rattle.soundness.specs.Sound.{connections, closed}
use Rattle.protocol.specs.Judge.{open_connection, leave}
use Rattle.protocol.specs.Step.{ServerMemory, LentCall, call_step, fresh_start}
use Rattle.protocol.specs.Run.{after_start_and_calls}
use Rattle.protocol.specs.Kept.{SoundMemory}
use Rattle.protocol.specs.Answered.{RightlyAnswered}
use Rattle.protocol.specs.Effect.{without_output}
use Rattle.line_record.specs.Held.{message_effect, message_calls, Kept, keeping, settled, gather, longest_incomplete}
use Rattle.line_record.specs.Record.{Record, opens, leaves, came, recorded_connections, record_head_size, data_size}
use Rattle.line_record.specs.Replay.{RunState, step_record, advance, behind, run, replay, result_of}

-- ---- a replay and its calls

-- "The end table is proved equal to the same calls made by hand": memory is what the fresh start and these calls leave, one by one
abbrev pub ReplayIsCalls : Type 0
ReplayIsCalls =
    (limit : ℕ) (mem : ServerMemory) (recorded : List ℕ)
    → (replay limit mem recorded).state.memory ≡ after_start_and_calls limit mem (replay limit mem recorded).calls

-- "demand 1 reads each call by itself": each is made in memory as those before it left it, and answered as every call is
abbrev pub EachCallAnswered : Type 0
EachCallAnswered =
    (limit : ℕ) (mem : ServerMemory) (recorded : List ℕ) (before : List LentCall) (k : LentCall) (after : List LentCall)
    → (replay limit mem recorded).calls ≡ before ++ (k ∷ after)
    → RightlyAnswered (after_start_and_calls limit mem before) k.output (call_step limit (after_start_and_calls limit mem before) k)

-- "records before it stand": a record that is refused makes no call, and the state stays as they left it
abbrev pub RecordRefused : Type 0
RecordRefused =
    (limit : ℕ) (s : RunState) (bytes : List ℕ) → (advance limit s bytes).number ≢ done
    → ((advance limit s bytes).state ≡ s) × ((advance limit s bytes).calls ≡ [])

-- "4 for an unknown kind or a connection byte above 16 in a data record, 1 for a cut record": behind a fresh start that is done there is no other refusal
abbrev pub ReplayNumbers : Type 0
ReplayNumbers =
    (limit : ℕ) (mem : ServerMemory) → (fresh_start limit mem).number ≡ done → (recorded : List ℕ)
    → ((replay limit mem recorded).number ≡ done)
    ⊎ (((replay limit mem recorded).number ≡ unknown_kind) ⊎ ((replay limit mem recorded).number ≡ incomplete))

-- "14 for short memory": nothing is run, and nothing changes
abbrev pub ShortRefused : Type 0
ShortRefused =
    (limit : ℕ) (mem : ServerMemory) (recorded : List ℕ) → (fresh_start limit mem).number ≢ done
    → result_of (replay limit mem recorded) ≡ record { number = unsound; records = 0; memory = mem }

-- records that are run, and then more: as all of them at once. So with 4 and 1 "records before it stand", and a record can be run in pieces
abbrev pub RunInPieces : Type 0
RunInPieces =
    (limit : ℕ) (s : RunState) (first rest : List ℕ) →
    let r = run (length first) limit s first in
    r.number ≡ done → run (length (first ++ rest)) limit s (first ++ rest) ≡ behind r.records r.calls (run (length rest) limit r.state rest)

-- and a replay goes on where it ended: no record is left out
abbrev pub ReplayInPieces : Type 0
ReplayInPieces =
    (limit : ℕ) (mem : ServerMemory) (first rest : List ℕ) →
    let r = replay limit mem first in
    r.number ≡ done → replay limit mem (first ++ rest) ≡ behind r.records r.calls (run (length rest) limit r.state rest)

-- the record at the start of some bytes is decided by its head and the data that its kind tells of: no more bytes need to be there
abbrev pub AdvanceLooksAt : Type 0
AdvanceLooksAt = (limit : ℕ) (s : RunState) (bytes : List ℕ) → advance limit s (take (record_head_size + data_size (get_or bytes 0 0)) bytes) ≡ advance limit s bytes

-- ---- the calls of a connection's bytes

-- "it gathers bytes for each connection and makes the call on them": which calls bytes of connection c stand for, message by message, and what
-- is kept behind them. The calls end for one of these reasons and no other.
pub data Judged (limit c : ℕ) : ServerMemory → (bytes : List ℕ) → List LentCall → Kept → Type 0 where
  -- "until none are left"
  none_left : {mem : ServerMemory} → Judged limit c mem [] [] (keeping mem [])
  -- "or it answers 1": the bytes are held as they are
  cut : {mem : ServerMemory} {bytes : List ℕ} → 0 < length bytes → (message_effect limit mem c bytes).number ≡ incomplete
      → Judged limit c mem bytes (message_calls limit mem c bytes) (keeping mem bytes)
  -- "A refused message other than 1 drops that connection's held bytes and, for 0 to 15, makes it leave."
  client_refused : {mem : ServerMemory} {bytes : List ℕ} → 0 < length bytes → c < connections
      → RefusalNumber (message_effect limit mem c bytes).number → (message_effect limit mem c bytes).number ≢ incomplete
      → Judged limit c mem bytes (message_calls limit mem c bytes ++ (without_output (leave c) ∷ [])) (keeping (call_step limit mem (without_output (leave c))).memory [])
  plant_refused : {mem : ServerMemory} {bytes : List ℕ} → 0 < length bytes → connections ≤ c
      → RefusalNumber (message_effect limit mem c bytes).number → (message_effect limit mem c bytes).number ≢ incomplete
      → Judged limit c mem bytes (message_calls limit mem c bytes) (keeping mem [])
  -- "a hello for another revision drops them too": a message that is taken and leaves the connection closed
  turned_away : {mem : ServerMemory} {bytes : List ℕ} → 0 < length bytes
      → ((message_effect limit mem c bytes).number ≡ done) ⊎ ((message_effect limit mem c bytes).number ≡ ignored)
      → c < connections → get_or (message_effect limit mem c bytes).memory.marks c 0 ≡ closed
      → Judged limit c mem bytes (message_calls limit mem c bytes) (keeping (message_effect limit mem c bytes).memory [])
  -- a message that is taken, and then the bytes behind it
  taken : {mem : ServerMemory} {bytes : List ℕ} {calls : List LentCall} {kept : Kept} → 0 < length bytes
      → ((message_effect limit mem c bytes).number ≡ done) ⊎ ((message_effect limit mem c bytes).number ≡ ignored)
      → (c < connections → get_or (message_effect limit mem c bytes).memory.marks c 0 ≢ closed)
      → Judged limit c (message_effect limit mem c bytes).memory (drop (message_effect limit mem c bytes).taken bytes) calls kept
      → Judged limit c mem bytes (message_calls limit mem c bytes ++ calls) kept

-- of a connection that is open or greeted, or the plant's own code
abbrev pub GatherJudged : Type 0
GatherJudged =
    (limit : ℕ) (mem : ServerMemory) (c : ℕ) (held arrived : List ℕ) → (c < connections → get_or mem.marks c 0 ≢ closed)
    → Judged limit c mem (held ++ arrived) (gather limit mem c held arrived).calls (gather limit mem c held arrived).kept

-- "data for a closed connection is dropped"
abbrev pub ClosedDropped : Type 0
ClosedDropped =
    (limit : ℕ) (mem : ServerMemory) (c : ℕ) (held arrived : List ℕ) → c < connections → get_or mem.marks c 0 ≡ closed
    → gather limit mem c held arrived ≡ settled mem held []

-- ---- what the connections hold

abbrev pub connection_of : Record → ℕ
connection_of (opens c) = c
connection_of (leaves c) = c
connection_of (came c arrived) = c

-- "it gathers bytes for each connection", "drops that connection's held bytes": a record does not change what any other connection holds
abbrev pub OthersHeld : Type 0
OthersHeld =
    (limit : ℕ) (s : RunState) (r : Record) (d : ℕ) → d ≢ connection_of r → get_or (step_record limit s r).state.held d [] ≡ get_or s.held d []

-- "A refused opening or leaving changes nothing."
abbrev pub RefusedChangesNothing : Type 0
RefusedChangesNothing =
    (limit : ℕ) (s : RunState) (c : ℕ)
    → ((call_step limit s.memory (without_output (open_connection c))).number ≢ done → (step_record limit s (opens c)).state ≡ s)
    × ((call_step limit s.memory (without_output (leave c))).number ≢ done → (step_record limit s (leaves c)).state ≡ s)

-- what holds of the state after every record
pub record StateKept (limit : ℕ) (s : RunState) : Type 0 where
  pub sound : SoundMemory limit s.memory
  pub lists : length s.held ≡ recorded_connections
  -- a connection holds part of a message
  pub short : (c : ℕ) → c < recorded_connections → length (get_or s.held c []) ≤ longest_incomplete
  -- a closed one holds nothing: "Leaving or a hello for another revision drops them too; data for a closed connection is dropped"
  pub closed_empty : (c : ℕ) → c < connections → get_or s.memory.marks c 0 ≡ closed → get_or s.held c [] ≡ []

abbrev pub ReplayKeeps : Type 0
ReplayKeeps = (limit : ℕ) (mem : ServerMemory) → (fresh_start limit mem).number ≡ done → (recorded : List ℕ) → StateKept limit (replay limit mem recorded).state
