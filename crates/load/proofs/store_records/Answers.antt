-- `store_records` meets its contract: what is stored so far are the entries of the first records.
use Rattle.table.specs.Table.{table_memory}
use Rattle.load.specs.Records.{saved_entry}
use Rattle.load.proofs.StoreLaws.{store_none, store_more}
use Rattle.load.proofs.store_records.Goals as goal

pub loop-i-init : goal.loop-i-init
loop-i-init c = store_none (table_memory c.args.heads.now c.args.bytes.now 0) (saved_entry c.args.records.saved.now)

pub loop-i-preserved : goal.loop-i-preserved
unfolding saved_entry
loop-i-preserved c =
    store_more (table_memory c.args.heads.now c.args.bytes.now 0) (saved_entry c.args.records.saved.now) c.loop-i.heads c.loop-i.bytes c.store_entry.new.heads c.store_entry.new.bytes c.loop-i.i _
    c.loop-i.invariant (rw c.record.ensures at c.entry.ensures.entry) c.store_entry.ensures.heads c.store_entry.ensures.bytes
