-- What a replay on memory as C lends it promises, over the numbers of the heads.
use Rattle.std.specs.Prelude.{ℕ, List}
use Rattle.table.specs.Table.{max_entries}
use Rattle.line_record.specs.Replay.{Ran, ReplayResult, replay, result_of}
use Rattle.replay.specs.Lent.{replayed}
use Rattle.replay.specs.declared.Replayed.{Replayed}
use Rattle.nt2.specs.Lent.{HeadsServer, server_of, past_table, WithPast}

-- an answer, with memory as the call leaves it
abbrev pub heads_replayed : Replayed → HeadsServer → WithPast ReplayResult
heads_replayed r m = record { result = replayed r (server_of m); past = past_table m.table }

-- a replay on the numbers of the heads
abbrev pub replay_of : HeadsServer → (recorded : List ℕ) → Ran
replay_of m recorded = replay max_entries (server_of m) recorded

-- "memory beyond the table" never changes
abbrev pub heads_replay : HeadsServer → (recorded : List ℕ) → WithPast ReplayResult
heads_replay m recorded = record { result = result_of (replay_of m recorded); past = past_table m.table }
