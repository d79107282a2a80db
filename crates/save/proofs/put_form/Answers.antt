-- `put_form` meets its contract: the records of the entries passed are stored behind the first record.
use Rattle.std.proofs.Common.{arith}
use Rattle.message.specs.Lent.{entry_lent}
use Rattle.table.specs.Memory.{memory_of}
use Rattle.table.specs.Table.{entries_of, max_entries}
use Rattle.saved.proofs.BackLaws.{length_record}
use Rattle.soundness.proofs.ReadableLaws.{sound_count}
use Rattle.save.proofs.SaveLaws.{no_records, next_record_lem, form_stored}
use Rattle.save.proofs.put_form.Goals as goal

pub overflow_cast-count : goal.overflow_cast-count
overflow_cast-count c = omega (arith, c.len-count.ensures, sound_count max_entries (memory_of c.args.sound.table) c.args.sound.sound)

pub loop-i-init : goal.loop-i-init
loop-i-init c = no_records _ _

pub size_of-requires : goal.size_of-requires
size_of-requires c = omega (arith, c.len-count.ensures, sound_count max_entries (memory_of c.args.sound.table) c.args.sound.sound)

pub loop-i-preserved : goal.loop-i-preserved
loop-i-preserved c =
    let e = c.entry.ensures in
    next_record_lem c.put_record.new.out c.loop-i.invariant (rw (c.size_of.ensures, e.entry) at c.put_record.ensures)
    (rw e.entry at (length_record (entry_lent c.entry.result) e.lengths.0 e.lengths.1))

pub returns : goal.returns
unfolding entries_of
returns c =
    form_stored _ c.args.out.now c.put_count.new.out c.loop-i.out c.args.sound.table.count c.loop-i.i (omega (arith, c.len-count.ensures))
    (rw c.len-count.ensures at c.put_count.ensures) c.loop-i.invariant
