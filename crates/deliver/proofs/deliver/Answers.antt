-- `deliver`: 14, 2 and 3 come first, then the messages.
use Rattle.table.specs.Table.{max_entries}
use Rattle.protocol.specs.Memory.{server_of}
use Rattle.delivery.specs.Delivery.{max_messages, refused_here, deliver_at_most, deliver}
use Rattle.deliver.proofs.deliver.Goals as goal

pub returns-in-Err-clause-done : goal.returns-in-Err-clause-done
unfolding deliver
returns-in-Err-clause-done c =
    rw c.from.ensures
    (c.in-Err.ensures.answer (λ number. refused_here number 0 (server_of c.args.memory.now) c.args.out.now)
    (deliver_at_most max_messages max_entries (server_of c.args.memory.now) c.args.c c.args.input.now c.args.out.now))

pub returns-in-Ok-clause-done : goal.returns-in-Ok-clause-done
unfolding deliver
returns-in-Ok-clause-done c =
    rw c.deliver_messages.ensures.done
    (c.in-Ok.ensures.answer (λ number. refused_here number 0 (server_of c.args.memory.now) c.args.out.now)
    (deliver_at_most max_messages max_entries (server_of c.args.memory.now) c.args.c c.args.input.now c.args.out.now))
