-- `check_ready`: 14, 2 and 3 come first.
use Rattle.std.proofs.Common.{arith}
use Rattle.std.proofs.lemmas.Grind.{common_steps}
use Rattle.protocol.specs.Memory.{server_of}
use Rattle.deliver.proofs.ReadyLaws.{refused_unsound, refused_too_high, refused_closed, begins}
use Rattle.deliver.proofs.check_ready.Goals as goal

pub returns-then-is_none-clause-answer : goal.returns-then-is_none-clause-answer
returns-then-is_none-clause-answer c = λ refuse next. refused_unsound (server_of c.args.memory.now) c.args.c refuse next (grind (arith, common_steps))

pub returns-then-c-ge-CONNECTIONS-clause-answer : goal.returns-then-c-ge-CONNECTIONS-clause-answer
returns-then-c-ge-CONNECTIONS-clause-answer c = λ refuse next. refused_too_high (server_of c.args.memory.now) c.args.c refuse next (grind (arith, common_steps)) c.if-c-ge-CONNECTIONS.true

pub returns-then-memory-c-eq-CLOSED-clause-answer : goal.returns-then-memory-c-eq-CLOSED-clause-answer
returns-then-memory-c-eq-CLOSED-clause-answer c = λ refuse next.
    refused_closed (server_of c.args.memory.now) c.args.c refuse next (grind (arith, common_steps)) c.if-c-ge-CONNECTIONS.false c.if-memory-c-eq-CLOSED.true

pub returns-clause-answer : goal.returns-clause-answer
returns-clause-answer c = λ refuse next.
    begins (server_of c.args.memory.now) c.args.c refuse next (grind (arith, common_steps)) c.if-c-ge-CONNECTIONS.false c.if-memory-c-eq-CLOSED.false
