-- `message` is a client's message, or one of the plant's own code.
use borrow.Author.Tests.{lt-ltb, le-ltb}
use Rattle.field.specs.Choice.{pick}
use Rattle.line_record.specs.Held.{message_effect}
use Rattle.gather.proofs.message.Goals as goal

pub returns-then-c-lt-CONNECTIONS-clause-effect : goal.returns-then-c-lt-CONNECTIONS-clause-effect
unfolding message_effect pick
returns-then-c-lt-CONNECTIONS-clause-effect c = rw (lt-ltb _ _ c.if-c-lt-CONNECTIONS.true) c.receive.ensures.effect

pub returns-clause-effect : goal.returns-clause-effect
unfolding message_effect pick
returns-clause-effect c =
    rw (le-ltb _ _ c.if-c-lt-CONNECTIONS.false) (c.receive_local.ensures c.args.memory.now.marks.now c.requires.marks)
