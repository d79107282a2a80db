-- Demand 3 of a replay: its calls and those behind them are a run, and its end table is that run's.
use Rattle.protocol.specs.Step.{fresh_start}
use Rattle.convergence.specs.Begin.{Begins}
use Rattle.convergence.proofs.RunLaws.{run_append}
use Rattle.convergence.proofs.Theorem.{demand_3}
use Rattle.line_record.specs.Replay.{replay}
use Rattle.line_record.specs.Demand.{ReplayDemand3}
use Rattle.line_record.proofs.CallsLaws.{replay_is_calls}

pub replay_demand_3 : ReplayDemand3
replay_demand_3 limit mem started recorded more before c b rest out after calls accepted stays copy copy_started =
    rw (replay_is_calls limit mem recorded, ← run_append limit (fresh_start limit mem).memory (replay limit mem recorded).calls more, calls)
    (demand_3 limit (fresh_start limit mem).memory (Begins.fresh mem started) before c b rest out accepted after stays copy copy_started)
