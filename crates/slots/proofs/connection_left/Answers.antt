-- `connection_left` is the step of its call, and drops what is held where that is done.
use Rattle.std.proofs.Common.{sym, refl, arith}
use Rattle.protocol.specs.Memory.{server_of}
use Rattle.slots.proofs.StepLaws.{left_within, left_done, left_refused}
use Rattle.slots.proofs.connection_left.Goals as goal

pub offset_bounds-slots-c : goal.offset_bounds-slots-c
offset_bounds-slots-c c =
    let mem = server_of c.args.memory.now in
    omega (arith, left_within mem _ c.args.c c.args.slots.now c.change_mark.result (c.change_mark.ensures mem.table c.requires.table) c.requires (sym c.if-is_ok.ensures.value))

pub listed : goal.listed
listed c =
    let mem = server_of c.args.memory.now in
    omega (arith, c.told-slots, left_within mem _ c.args.c c.args.slots.now c.change_mark.result (c.change_mark.ensures mem.table c.requires.table) c.requires (sym c.if-is_ok.ensures.value))

pub bounds-slots-c : goal.bounds-slots-c
bounds-slots-c c =
    let mem = server_of c.args.memory.now in
    omega (arith, left_within mem _ c.args.c c.args.slots.now c.change_mark.result (c.change_mark.ensures mem.table c.requires.table) c.requires (sym c.if-is_ok.ensures.value))

pub returns-then-is_ok-clause-state : goal.returns-then-is_ok-clause-state
returns-then-is_ok-clause-state c =
    let mem = server_of c.args.memory.now in
    left_done mem _ c.args.c c.args.slots.now c.change_mark.result (c.change_mark.ensures mem.table c.requires.table) (sym c.if-is_ok.ensures.value) _ refl

pub returns-else-is_ok-clause-state : goal.returns-else-is_ok-clause-state
returns-else-is_ok-clause-state c =
    let mem = server_of c.args.memory.now in
    left_refused mem _ c.args.c c.args.slots.now c.change_mark.result (c.change_mark.ensures mem.table c.requires.table) (sym c.if-is_ok.ensures.value)
