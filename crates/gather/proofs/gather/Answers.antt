-- `gather` is the definition: the slot begins with what is held, then what came in, and at last with what is still held.
use Rattle.std.proofs.Common.{◌+◌, ◌-◌, sym, arith, length}
use Rattle.table.specs.Table.{max_entries}
use Rattle.soundness.proofs.SoundLaws.{marks_facts}
use Rattle.protocol.specs.Memory.{server_of}
use Rattle.gather.proofs.GatherLaws.{kept_closed, kept_short, kept_moved}
use Rattle.gather.proofs.gather.Goals as goal

pub is_closed-requires : goal.is_closed-requires
is_closed-requires c = (marks_facts c.args.memory.now.marks.now c.requires.sound.marks).0

pub returns-then-is_closed-clause-kept : goal.returns-then-is_closed-clause-kept
returns-then-is_closed-clause-kept c =
    let slot = c.args.slot.now in
    kept_closed max_entries (server_of c.args.memory.now) c.args.c slot.bytes c.args.arrived.now slot.size (sym c.if-is_closed.ensures)

pub returns-clause-kept : goal.returns-clause-kept
returns-clause-kept c =
    let slot = c.args.slot.now in
    kept_moved max_entries (server_of c.args.memory.now) c.args.c slot.bytes c.args.arrived.now slot.size c.copy_into.new.out c.copy_into.ensures (omega (arith, slot.short, c.requires.few))
    (sym c.if-is_closed.ensures) _ c.settle-at.result c.settle-at.ensures.kept (omega (arith, c.settle-at.ensures.within)) c.move_down.new.bytes c.move_down.ensures.moved

pub invariant_of-slot : goal.invariant_of-slot
invariant_of-slot c =
    let slot = c.args.slot.now in
    let kept =
    kept_moved max_entries (server_of c.args.memory.now) c.args.c slot.bytes c.args.arrived.now slot.size c.copy_into.new.out c.copy_into.ensures (omega (arith, slot.short, c.requires.few))
    (sym c.if-is_closed.ensures) _ c.settle-at.result c.settle-at.ensures.kept (omega (arith, c.settle-at.ensures.within)) c.move_down.new.bytes c.move_down.ensures.moved in
    record {
      short =
          kept_short max_entries (server_of c.args.memory.now) c.args.c slot.bytes c.args.arrived.now slot.size (server_of c.settle-at.new.memory)
          (slot.size + length c.args.arrived.now - c.settle-at.result) c.move_down.new.bytes kept slot.short (omega (arith, slot.short)) (omega (arith, slot.short, c.requires.few, c.move_down.ensures.size));
    }
