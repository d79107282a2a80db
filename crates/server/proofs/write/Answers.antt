-- What storing another value relies on is the verdict's.
use Rattle.std.proofs.Common.{◌≡◌, rules, true, ◌∙◌}
use Rattle.table.specs.Table.{lent, max_entries}
use Rattle.soundness.specs.Sound.{sound_table}
use Rattle.recipients.specs.Recipients.{all_greeted}
use Rattle.store.proofs.EntryLaws.{entry_there}
use Rattle.server.proofs.StepLaws.{stored_write}
use Rattle.server.proofs.write.Goals as goal

pub store_update-requires-clause-memory : goal.store_update-requires-clause-memory
store_update-requires-clause-memory c =
    let table = lent c.args.heads.now c.args.bytes.now c.args.count in
    let sound : sound_table max_entries table ≡ true = rw c.in-Some.ensures.same at c.in-Some.table.sound in
    let decides = rw (c.in-Ok-Some.field-0-is, c.in-Some.ensures.same) at c.in-Ok-Some.ensures c.args.marks.now in
    entry_there table c.args.id sound decides.writable.0

pub store_update-requires-clause-lengths : goal.store_update-requires-clause-lengths
store_update-requires-clause-lengths c = (rw c.in-Ok-Some.field-0-is at c.in-Ok-Some.ensures c.args.marks.now).writable.1

pub returns-in-Ok-Some : goal.returns-in-Ok-Some
returns-in-Ok-Some c =
    let table = lent c.args.heads.now c.args.bytes.now c.args.count in
    let decides = rw (c.in-Ok-Some.field-0-is, c.in-Some.ensures.same) at c.in-Ok-Some.ensures c.args.marks.now in
    c.store_update.ensures c.args.count c.args.marks.now all_greeted c.greeted_but-recipients.ensures
    ∙ stored_write table c.args.marks.now c.args.out.now c.args.id c.args.value.now c.in-Ok-Some.number (search rules) decides
