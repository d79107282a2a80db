-- "Running a shift again from its line record": the fresh start, then record after record.
use Rattle.std.specs.Prelude.{ℕ, zero, suc, ◌+◌, List, [], ◌∷◌, ◌++◌, length, drop, get_or, set, replicate, eqb}
use Rattle.field.specs.Answer.{done}
use Rattle.field.specs.Choice.{pick, demand}
use Rattle.field.specs.Field.{demand_bytes}
use Rattle.protocol.specs.Judge.{open_connection, leave}
use Rattle.protocol.specs.Step.{ServerMemory, LentCall, call_step, fresh_start}
use Rattle.protocol.specs.Effect.{without_output}
use Rattle.line_record.specs.Held.{gather}
use Rattle.line_record.specs.Record.{Record, opens, leaves, came, NextRecord, refused_record, found, next_record, recorded_connections}

-- ---- one record

-- memory, and the bytes that each connection holds
pub record RunState : Type 0 where
  pub memory : ServerMemory
  pub held : List (List ℕ)

abbrev pub run_state : ServerMemory → List (List ℕ) → RunState
run_state mem held = record { memory = mem; held = held }

-- the state after a record, and the calls that it stands for
pub record Stepped : Type 0 where
  pub state : RunState
  pub calls : List LentCall

abbrev pub stepped : ServerMemory → List (List ℕ) → List LentCall → Stepped
stepped mem held calls = record { state = run_state mem held; calls = calls }

-- "A refused opening or leaving changes nothing."
unfoldable pub step_record : (limit : ℕ) → RunState → Record → Stepped
step_record limit s (opens c) =
    let k = without_output (open_connection c) in
    stepped (call_step limit s.memory k).memory s.held (k ∷ [])
-- "Leaving .. drops them too": a leaving that is done
step_record limit s (leaves c) =
    let k = without_output (leave c) in
    let r = call_step limit s.memory k in
    stepped r.memory (pick (eqb r.number done) (set s.held c []) s.held) (k ∷ [])
step_record limit s (came c arrived) =
    let g = gather limit s.memory c (get_or s.held c []) arrived in
    stepped g.kept.memory (set s.held c g.kept.held) g.calls

-- the record at the start of some bytes: its number and its size, the state after it and its calls
pub record Advanced : Type 0 where
  pub number : ℕ
  pub size : ℕ
  pub state : RunState
  pub calls : List LentCall

-- a record that is refused changes nothing: what is there of one that is cut is not handed over
unfoldable pub advance_on : (limit : ℕ) → RunState → NextRecord → Advanced
advance_on limit s (refused_record number) = record { number = number; size = 0; state = s; calls = [] }
advance_on limit s (found r size) =
    let t = step_record limit s r in
    record { number = done; size = size; state = t.state; calls = t.calls }

abbrev pub advance : (limit : ℕ) → RunState → List ℕ → Advanced
advance limit s bytes = advance_on limit s (next_record bytes)

-- ---- all records

-- number, records that were done, the state at the end, and the calls
pub record Ran : Type 0 where
  pub number : ℕ
  pub records : ℕ
  pub state : RunState
  pub calls : List LentCall

abbrev pub stopped : (number : ℕ) → RunState → Ran
stopped number s = record { number = number; records = 0; state = s; calls = [] }

-- some records and their calls, with what comes behind them
abbrev pub behind : (records : ℕ) (calls : List LentCall) → Ran → Ran
behind records calls r = record { number = r.number; records = records + r.records; state = r.state; calls = calls ++ r.calls }

-- at most so many records: "records before it stand"
unfoldable pub run : (most limit : ℕ) → RunState → List ℕ → Ran
run zero limit s bytes = stopped done s
run (suc most) limit s bytes =
    let a = advance limit s bytes in
    demand_bytes 1 bytes (stopped done s)
    (demand (eqb a.number done) (stopped a.number s)
    (behind 1 a.calls (run most limit a.state (drop a.size bytes))))

-- no connection holds any bytes
abbrev pub none_held : List (List ℕ)
none_held = replicate recorded_connections []

-- "The run makes the fresh start itself, the one that demand 3 counts from."; "14 for short memory".
-- A record has at least a byte, so there are no more records than bytes.
unfoldable pub replay : (limit : ℕ) → ServerMemory → (recorded : List ℕ) → Ran
replay limit mem recorded =
    let start = fresh_start limit mem in
    let s = run_state start.memory none_held in
    demand (eqb start.number done) (stopped start.number s) (run (length recorded) limit s recorded)

-- what the call answers, and memory afterwards
pub record ReplayResult : Type 0 where
  pub number : ℕ
  pub records : ℕ
  pub memory : ServerMemory

abbrev pub result_of : Ran → ReplayResult
result_of r = record { number = r.number; records = r.records; memory = r.state.memory }
