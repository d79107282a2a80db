-- `is_closed` is the definition: from 0 to 15, and its mark says that it is closed.
use borrow.Author.Tests.{lt-ltb, le-ltb}
use Rattle.line_record.specs.Held.{is_closed}
use Rattle.gather.proofs.is_closed.Goals as goal

pub returns-then-c-lt-CONNECTIONS : goal.returns-then-c-lt-CONNECTIONS
unfolding is_closed
returns-then-c-lt-CONNECTIONS c = rw (lt-ltb _ _ c.if-c-lt-CONNECTIONS.true)

pub returns-else-c-lt-CONNECTIONS : goal.returns-else-c-lt-CONNECTIONS
unfolding is_closed
returns-else-c-lt-CONNECTIONS c = rw (le-ltb _ _ c.if-c-lt-CONNECTIONS.false)
