-- `store_new` does what the verdict on a new entry does: the assignment is sent, and the entry stored behind the others.
use Rattle.std.proofs.Common.{◌+◌, length, arith, le-leb}
use borrow.Author.Tests.{lt-leb}
use Rattle.field.specs.Choice.{pick}
use Rattle.message.specs.Layout.{assignment_bytes}
use Rattle.message.specs.Lent.{entry_lent}
use Rattle.message.proofs.ReadBack.{length_assignment}
use Rattle.table.specs.Table.{table_memory, max_entries}
use Rattle.table.proofs.SearchLaws.{holds_less}
use Rattle.soundness.proofs.ReadableLaws.{sound_holds}
use Rattle.protocol.specs.Step.{execute}
use Rattle.store.proofs.store_new.Goals as goal

pub returns-then-out-entry : goal.returns-then-out-entry
unfolding execute pick
returns-then-out-entry c =
    λ marks h.
    let id = c.args.count.now in
    let e = entry_lent c.args.entry in
    rw (c.no_room.ensures, lt-leb (length (assignment_bytes id e)) (length c.args.out.now) (omega (arith, c.if-out-entry.true, length_assignment id e)))

pub add_entry-requires-clause-memory : goal.add_entry-requires-clause-memory
add_entry-requires-clause-memory c =
    (omega (arith, c.requires.room), holds_less (c.args.count.now + 1) (omega (arith, c.requires.room)) (sound_holds max_entries (table_memory c.args.heads.now c.args.bytes.now c.args.count.now) c.requires.sound))

pub returns : goal.returns
unfolding execute pick
returns c =
    λ marks h.
    let id = c.args.count.now in
    let e = entry_lent c.args.entry in
    rw (c.done.ensures, c.add_entry.ensures, c.write_assignment-sent.ensures.sent, c.write_assignment-sent.ensures.output, h, le-leb (length (assignment_bytes id e)) (length c.args.out.now) (omega (arith, c.if-out-entry.false, length_assignment id e)))
