use Rattle.table.specs.Table.{entry_at}
use Rattle.save.proofs.SaveLaws.{RecordsStored}
use Rattle.save.proofs.put_form.Given as goal

-- the records of the entries passed are stored behind the first record
abbrev pub invariant-loop-i : goal.invariant-loop-i
invariant-loop-i l = RecordsStored (entry_at l.sound.table.heads.now l.sound.table.bytes.now) l.initial.out l.out l.i
