use Rattle.std.proofs.Common.{◌≡◌}
use Rattle.table.specs.Table.{table_memory, tabulate}
use Rattle.saved.specs.Calls.{store_all}
use Rattle.load.specs.Records.{saved_entry}
use Rattle.load.proofs.store_records.Given as goal

-- the entries of the first records are stored
abbrev pub invariant-loop-i : goal.invariant-loop-i
invariant-loop-i l =
    table_memory l.heads l.bytes l.i ≡ store_all (table_memory l.initial.heads l.initial.bytes 0) (tabulate l.i (saved_entry l.records.saved.now))
