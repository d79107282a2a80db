-- "Say where the fault is": the steps of both halves, each beside the place that the answer tells.
use Rattle.std.specs.Prelude.{ℕ, List}
use Rattle.field.specs.Choice.{demand}
use Rattle.field.specs.Place.{reported_place, WithPlace}
use Rattle.table.specs.Table.{TableMemory, entries_of}
use Rattle.soundness.specs.Sound.{sound_table}
use Rattle.protocol.specs.Judge.{Call, Verdict, refuse, ignore, read_done, open_mark, close_mark, accept_hello, unsupported_revision, store_new, store_update, judge}
use Rattle.protocol.specs.Step.{ServerMemory, LentCall, CallResult, execute, sound_for, call_step}
use Rattle.protocol.specs.Copy.{CopyVerdict, CopyResult, judge_copy, execute_copy, copy_message}
use Rattle.protocol.specs.Copy as C

-- ---- the server half

-- "Every call that reads a value or name passes the place on, counted from the start of the message, name or value lent."
abbrev pub place_of : Verdict → ℕ
place_of (refuse fault) = reported_place fault
place_of (ignore taken) = 0
place_of read_done = 0
place_of (open_mark c) = 0
place_of (close_mark c) = 0
place_of (accept_hello c) = 0
place_of (unsupported_revision c) = 0
place_of (store_new e taken) = 0
place_of (store_update id number value taken to) = 0

-- what a verdict does
abbrev pub execute_with_place : ServerMemory → List ℕ → Verdict → WithPlace CallResult
execute_with_place mem out v = record { result = execute mem out v; place = place_of v }

-- one call: with 14 no byte of a message, name or value was looked at
unfoldable pub call_place : ℕ → ServerMemory → Call → ℕ
call_place limit mem call = demand (sound_for limit mem call) 0 (place_of (judge limit (entries_of mem.table) mem.marks call))

abbrev pub step_with_place : ℕ → ServerMemory → LentCall → WithPlace CallResult
step_with_place limit mem k = record { result = call_step limit mem k; place = call_place limit mem k.call }

-- ---- the copy

abbrev pub copy_place_of : CopyVerdict → ℕ
copy_place_of (C.refuse fault) = reported_place fault
copy_place_of (C.ignore taken revision) = 0
copy_place_of (C.store_new e taken) = 0
copy_place_of (C.store_update id number value taken) = 0

abbrev pub execute_copy_with_place : TableMemory → CopyVerdict → WithPlace CopyResult
execute_copy_with_place m v = record { result = execute_copy m v; place = copy_place_of v }

unfoldable pub copy_place : ℕ → TableMemory → List ℕ → ℕ
copy_place limit m message = demand (sound_table limit m) 0 (copy_place_of (judge_copy limit (entries_of m) message))

abbrev pub copy_with_place : ℕ → TableMemory → List ℕ → WithPlace CopyResult
copy_with_place limit m message = record { result = copy_message limit m message; place = copy_place limit m message }
