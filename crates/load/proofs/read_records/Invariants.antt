use Rattle.soundness.specs.Fingerprint.{AllOwned}
use Rattle.load.specs.Records.{saved_entry, RecordsBelow}
use Rattle.load.proofs.RecordsLaws.{Left}
use Rattle.load.proofs.read_records.Given as goal

-- the records passed are there, each of their names owns its fingerprint, and what is left is read as they all are
abbrev pub invariant-loop-i : goal.invariant-loop-i
invariant-loop-i l = RecordsBelow l.i l.saved × Left l.saved l.count l.i × AllOwned l.owners (saved_entry l.saved) l.i
