use Rattle.std.proofs.Common.{◌≡◌, true}
use Rattle.table.specs.Names.{names_differ}
use Rattle.table.specs.Table.{entry_at, tabulate}
use Rattle.soundness.specs.Fingerprint.{AllOwned}
use Rattle.soundness.proofs.names_differ.Given as goal

-- the names passed all differ, and each of them owns its fingerprint, alone or as one of several
abbrev pub invariant-loop-i : goal.invariant-loop-i
invariant-loop-i l =
    (names_differ (tabulate l.i (entry_at l.table.heads.now l.table.bytes.now)) ≡ true) × AllOwned l.owners (entry_at l.table.heads.now l.table.bytes.now) l.i
