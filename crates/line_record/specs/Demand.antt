-- "the same calls made by hand, which demand 3 reads": demand 3 of a replay's end table, and its calls with other outputs.
use Rattle.std.specs.Prelude.{ℕ, ◌≤◌, ◌<◌, List, [], ◌∷◌, ◌++◌, ◌≡◌, length}
use Rattle.field.specs.Answer.{done}
use Rattle.table.specs.Table.{TableMemory}
use Rattle.soundness.specs.Sound.{connections}
use Rattle.hello.specs.Hello.{longest_hello}
use Rattle.protocol.specs.Judge.{open_connection, leave}
use Rattle.protocol.specs.Step.{ServerMemory, LentCall, call_step, fresh_start}
use Rattle.protocol.specs.Run.{memory_after_run, after_start_and_calls, addressed_bytes, hello_call, StaysWithoutOwnUpdate}
use Rattle.protocol.specs.Copy.{copy_fresh_start}
use Rattle.protocol.specs.Kept.{SoundMemory}
use Rattle.convergence.specs.Demand.{CopyHoldsServerEntries}
use Rattle.line_record.specs.Replay.{replay}

-- ---- demand 3

-- "The run makes the fresh start itself, the one that demand 3 counts from.": of the replay's calls and of more that are made behind them
abbrev pub ReplayDemand3 : Type 0
ReplayDemand3 =
    (limit : ℕ) (mem : ServerMemory) → (fresh_start limit mem).number ≡ done
    → (recorded : List ℕ) (more : List LentCall)
    -- among these calls, an accepted hello
    → (before : List LentCall) (c : ℕ) → c < connections → (rest out : List ℕ) (after : List LentCall)
    → (replay limit mem recorded).calls ++ more ≡ before ++ (hello_call c rest out ∷ after)
    → (call_step limit (after_start_and_calls limit mem before) (hello_call c rest out)).number ≡ done
    -- since then the client has not left, and no own update of it is applied
    → StaysWithoutOwnUpdate limit (call_step limit (after_start_and_calls limit mem before) (hello_call c rest out)).memory c after
    → (copy : TableMemory) → (copy_fresh_start limit copy).number ≡ done
    -- what these calls addressed to it is read, and the copy holds the entries of the end table: with no more calls, the replay's own
    → CopyHoldsServerEntries limit (copy_fresh_start limit copy).memory
    (addressed_bytes limit (after_start_and_calls limit mem before) c (hello_call c rest out ∷ after))
    (memory_after_run limit (replay limit mem recorded).state.memory more).table

-- ---- the same calls with other outputs

-- "with output for the longest hello answer": so much, or an opening or a leaving, which sends nothing
pub data HasRoom (limit : ℕ) : LentCall → Type 0 where
  longest : {k : LentCall} → longest_hello limit ≤ length k.output → HasRoom limit k
  opening : {c : ℕ} {out : List ℕ} → HasRoom limit (record { call = open_connection c; output = out })
  leaving : {c : ℕ} {out : List ℕ} → HasRoom limit (record { call = leave c; output = out })

pub data EachHasRoom (limit : ℕ) : List LentCall → Type 0 where
  no_more : EachHasRoom limit []
  and_then : {k : LentCall} {ks : List LentCall} → HasRoom limit k → EachHasRoom limit ks → EachHasRoom limit (k ∷ ks)

abbrev pub ReplayHasRoom : Type 0
ReplayHasRoom = (limit : ℕ) (mem : ServerMemory) (recorded : List ℕ) → EachHasRoom limit (replay limit mem recorded).calls

-- "the same calls made by hand": with outputs that hold anything
pub data SameCalls : List LentCall → List LentCall → Type 0 where
  no_more : SameCalls [] []
  and_then : {k l : LentCall} {ks ls : List LentCall} → k.call ≡ l.call → SameCalls ks ls → SameCalls (k ∷ ks) (l ∷ ls)

-- where each has room, memory afterwards is the same
abbrev pub SameMemory : Type 0
SameMemory =
    (limit : ℕ) → 1 ≤ limit → (mem : ServerMemory) → SoundMemory limit mem → (ks ls : List LentCall) → SameCalls ks ls → EachHasRoom limit ks → EachHasRoom limit ls
    → memory_after_run limit mem ks ≡ memory_after_run limit mem ls

-- "The end table is proved equal to the same calls made by hand"
abbrev pub ReplayIsCallsByHand : Type 0
ReplayIsCallsByHand =
    (limit : ℕ) → 1 ≤ limit → (mem : ServerMemory) → (fresh_start limit mem).number ≡ done
    → (recorded : List ℕ) (byHand : List LentCall) → SameCalls (replay limit mem recorded).calls byHand → EachHasRoom limit byHand
    → (replay limit mem recorded).state.memory ≡ after_start_and_calls limit mem byHand
