-- `apply` is the effect of the verdict, case by case: what each case relies on is `Performable`.
use Rattle.std.proofs.Common.{◌+◌, arith}
use Rattle.table.specs.Table.{store_value, max_entries}
use Rattle.table.proofs.SearchLaws.{holds_less}
use Rattle.soundness.proofs.ReadableLaws.{sound_holds, sound_count}
use Rattle.protocol.specs.Memory.{server_of}
use Rattle.judge.specs.declared.Decision.TheVariants as D
use Rattle.effect.proofs.EffectLaws.{decided_effect}
use Rattle.effect.proofs.apply.Goals as goal

pub add_entry-requires-clause-memory : goal.add_entry-requires-clause-memory
add_entry-requires-clause-memory c =
    let mem = server_of c.args.memory.now in
    let room = (rw c.in-StoreNew.is at c.requires.performable).0 in
    (omega (arith, room), holds_less (mem.table.count + 1) (omega (arith, room)) (sound_holds max_entries mem.table c.requires.sound))

pub store_value-requires-clause-memory : goal.store_value-requires-clause-memory
store_value-requires-clause-memory c =
    let mem = server_of c.args.memory.now in
    let held = (rw c.in-StoreUpdate.is at c.requires.performable).0 in
    holds_less (c.from.result + 1) (omega (arith, c.from.ensures, held, sound_count max_entries mem.table c.requires.sound))
    (sound_holds max_entries mem.table c.requires.sound)

pub returns-in-Ignore-clause-effect : goal.returns-in-Ignore-clause-effect
returns-in-Ignore-clause-effect c =
    decided_effect (server_of c.args.memory.now) c.requires.sound c.args.c c.args.m.now c.args.decision (D.Ignore c.in-Ignore.size) c.in-Ignore.is c.requires.performable

pub returns-in-AcceptHello-clause-effect : goal.returns-in-AcceptHello-clause-effect
returns-in-AcceptHello-clause-effect c =
    rw c.done.ensures
    (decided_effect (server_of c.args.memory.now) c.requires.sound c.args.c c.args.m.now c.args.decision D.AcceptHello c.in-AcceptHello.is c.requires.performable)

pub returns-in-UnsupportedRevision-clause-effect : goal.returns-in-UnsupportedRevision-clause-effect
returns-in-UnsupportedRevision-clause-effect c =
    rw c.done-in-UnsupportedRevision.ensures
    (decided_effect (server_of c.args.memory.now) c.requires.sound c.args.c c.args.m.now c.args.decision D.UnsupportedRevision c.in-UnsupportedRevision.is c.requires.performable)

pub returns-in-StoreNew-clause-effect : goal.returns-in-StoreNew-clause-effect
returns-in-StoreNew-clause-effect c =
    rw (c.done-in-StoreNew.ensures, c.size.ensures, c.add_entry.ensures, c.new_entry-entry.ensures.entry, c.name.ensures, c.value.ensures)
    (decided_effect (server_of c.args.memory.now) c.requires.sound c.args.c c.args.m.now c.args.decision (D.StoreNew c.in-StoreNew.new) c.in-StoreNew.is c.requires.performable)

pub returns-in-StoreUpdate-clause-effect : goal.returns-in-StoreUpdate-clause-effect
unfolding store_value
returns-in-StoreUpdate-clause-effect c =
    rw (c.done-in-StoreUpdate.ensures, c.size-in-StoreUpdate.ensures, c.store_value.ensures.heads, c.store_value.ensures.bytes, c.value-in-StoreUpdate.ensures, c.from.ensures)
    (decided_effect (server_of c.args.memory.now) c.requires.sound c.args.c c.args.m.now c.args.decision (D.StoreUpdate c.in-StoreUpdate.update) c.in-StoreUpdate.is c.requires.performable)
