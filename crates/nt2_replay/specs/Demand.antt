-- Demand 3 of an exported replay, over heads: its end table is that of its calls.
use Rattle.std.specs.Prelude.{ℕ, ◌<◌, List, ◌∷◌, ◌++◌, ◌≡◌, ◌≢◌}
use Rattle.field.specs.Answer.{done, unsound}
use Rattle.table.specs.Table.{max_entries}
use Rattle.soundness.specs.Sound.{connections}
use Rattle.answer.specs.declared.Answer.{Answer}
use Rattle.protocol.specs.Step.{LentCall, call_step}
use Rattle.protocol.specs.Run.{after_start_and_calls, addressed_bytes, hello_call, StaysWithoutOwnUpdate}
use Rattle.replay.specs.declared.Replayed.{Replayed}
use Rattle.nt2.specs.Lent.{HeadsTable, HeadsServer, server_of, CopyStarted}
use Rattle.nt2.specs.Demand.{ReadsToSameEntries}
use Rattle.nt2_replay.specs.Lent.{replay_of, heads_replayed, heads_replay}

abbrev pub ExportedReplayDemand3 : Type 0
ExportedReplayDemand3 =
    -- a replay on memory that is large enough, with any contents
    (mem end : HeadsServer) (recorded : List ℕ) (r : Replayed) → heads_replayed r end ≡ heads_replay mem recorded → r.number ≢ unsound
    -- among its calls, an accepted hello
    → (before : List LentCall) (c : ℕ) → c < connections → (rest out : List ℕ) (after : List LentCall)
    → (replay_of mem recorded).calls ≡ before ++ (hello_call c rest out ∷ after)
    → (call_step max_entries (after_start_and_calls max_entries (server_of mem) before) (hello_call c rest out)).number ≡ done
    -- since then the client has not left, and no own update of it is applied
    → StaysWithoutOwnUpdate max_entries (call_step max_entries (after_start_and_calls max_entries (server_of mem) before) (hello_call c rest out)).memory c after
    → (lent copy : HeadsTable) (s : Answer) → CopyStarted lent s copy → s.number ≡ done
    -- what these calls addressed to it is read into the copy, which then holds the entries of the end table
    → ReadsToSameEntries copy (addressed_bytes max_entries (after_start_and_calls max_entries (server_of mem) before) c (hello_call c rest out ∷ after)) end
