-- `advance` is the record at the start of some bytes, done or refused.
use Rattle.std.proofs.Common.{◌≡◌, Err, rules}
use Rattle.protocol.specs.Memory.{server_of}
use Rattle.slots.specs.Lent.{lent_record}
use Rattle.slots.specs.Slots.{state_of}
use Rattle.replay.specs.Lent.{size_of}
use Rattle.replay.proofs.RunLaws.{progress_refused, progress_found}
use Rattle.replay.proofs.advance.Goals as goal

pub returns-in_err-next-clause-answer : goal.returns-in_err-next-clause-answer
returns-in_err-next-clause-answer c =
    let refusal = c.in_err-next.field-0.0 in
    let e : c.from_residual.result ≡ Err refusal = search rules in
    rw e (progress_refused (state_of (server_of c.args.memory.now) c.args.slots.now) c.args.s.now refusal c.in_err-next.ensures.next)

pub returns-clause-answer : goal.returns-clause-answer
returns-clause-answer c =
    let next = c.in_ok-next.next in
    rw c.size_of.ensures
    (progress_found (state_of (server_of c.args.memory.now) c.args.slots.now) c.args.s.now (lent_record next) (size_of next) _ c.in_ok-next.ensures.next c.step.ensures.state)
