-- `leave_after` makes a connection from 0 to 15 leave, and does nothing for the plant's own code.
use Rattle.std.proofs.Common.{ap}
use borrow.Author.Tests.{lt-ltb, le-ltb}
use Rattle.field.specs.Choice.{pick}
use Rattle.protocol.specs.Memory.{server_of}
use Rattle.protocol.specs.Run.{memory_after_run}
use Rattle.protocol.specs.Effect.{Effect}
use Rattle.line_record.specs.Held.{leaving}
use Rattle.gather.proofs.leave_after.Goals as goal

pub returns-then-c-lt-CONNECTIONS-clause-left : goal.returns-then-c-lt-CONNECTIONS-clause-left
unfolding leaving memory_after_run pick
returns-then-c-lt-CONNECTIONS-clause-left c =
    rw (lt-ltb _ _ c.if-c-lt-CONNECTIONS.true) (ap (λ (r : Effect). r.memory) (c.change_mark.ensures (server_of c.args.memory.now).table c.requires.table))

pub returns-else-c-lt-CONNECTIONS-clause-left : goal.returns-else-c-lt-CONNECTIONS-clause-left
unfolding leaving memory_after_run pick
returns-else-c-lt-CONNECTIONS-clause-left c = rw (le-ltb _ _ c.if-c-lt-CONNECTIONS.false)
