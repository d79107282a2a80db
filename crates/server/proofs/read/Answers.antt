-- `read` answers the scalar of the held entry.
use Rattle.std.proofs.Common.{◌≡◌, ◌<◌, true, Ok, Err, rules, arith}
use Rattle.field.specs.declared.Refusal.TheVariants.{UnknownId, Unsound}
use Rattle.message.specs.Lent.{entry_lent}
use Rattle.table.specs.Memory.{memory_of}
use Rattle.table.specs.Table.{entry_of, max_entries}
use Rattle.soundness.specs.Sound.{sound_table}
use Rattle.server.proofs.StepLaws.{held_read, number_read, unknown_read, unsound_read}
use Rattle.server.proofs.read.Goals as goal

pub returns-in_default-clause-number : goal.returns-in_default-clause-number
returns-in_default-clause-number c = number_read (memory_of c.args.table) c.args.id (Err Unsound) (search (rules, unsound_read))

pub returns-then-i-len-clause-number : goal.returns-then-i-len-clause-number
returns-then-i-len-clause-number c = number_read (memory_of c.args.table) c.args.id (Err UnknownId) (search (rules, unknown_read))

pub returns-clause-scalar : goal.returns-clause-scalar
returns-clause-scalar c =
    let entry : entry_lent c.entry-entry.result ≡ entry_of (memory_of c.args.table) c.args.id = rw (c.in-Some.ensures.same, c.from-i.ensures) at c.entry-entry.ensures.entry in
    let sound : sound_table max_entries (memory_of c.args.table) ≡ true = rw c.in-Some.ensures.same at c.in-Some.table.sound in
    let there : c.args.id < c.in-Some.table.table.count = omega (arith, c.if-i-len.false, c.len.ensures, c.from-i.ensures) in
    rw c.scalar_of.ensures (held_read (memory_of c.args.table) c.args.id (entry_lent c.entry-entry.result) entry sound (rw c.in-Some.ensures.same at there))

pub returns-clause-number : goal.returns-clause-number
returns-clause-number c = number_read (memory_of c.args.table) c.args.id (Ok c.scalar_of.result) (returns-clause-scalar c)
