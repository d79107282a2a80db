-- Demand 3 of an exported replay: on the numbers of the heads it is the replay's own.
use mathlib.Core.Path.{ap, ◌∙◌}
use mathlib.Core.List.{[], append-nil}
use Rattle.table.specs.Table.{max_entries}
use Rattle.protocol.specs.Run.{memory_after_run}
use Rattle.line_record.specs.Replay.{ReplayResult}
use Rattle.line_record.proofs.Theorem.{replay_demand_3}
use Rattle.line_record.proofs.StartLaws.{replay_started}
use Rattle.nt2.specs.Lent.{table_of, server_of, WithPast}
use Rattle.nt2.proofs.Theorem.{to_same}
use Rattle.nt2_replay.specs.Lent.{replay_of}
use Rattle.nt2_replay.specs.Demand.{ExportedReplayDemand3}

pub exported_replay_demand_3 : ExportedReplayDemand3
unfolding memory_after_run
exported_replay_demand_3 mem end recorded r e large before c b rest out after calls accepted stays lent copy s copy_started copy-ok =
    let result = ap (λ (x : WithPast ReplayResult). x.result) e in
    let number = ap (λ (x : ReplayResult). x.number) result in
    let memory = ap (λ (x : ReplayResult). x.memory) result in
    let started = replay_started max_entries (server_of mem) recorded (λ short. large (number ∙ short)) in
    let held = replay_demand_3 max_entries (server_of mem) started recorded [] before c b rest out after (append-nil (replay_of mem recorded).calls ∙ calls) accepted stays (table_of lent) (rw copy_started.0 at copy-ok) in
    let now = rw (← memory) at held in
    to_same copy _ now.end (rw copy_started.1 now.reads) end now.same
