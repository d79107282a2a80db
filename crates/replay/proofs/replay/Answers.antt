-- `replay` is the fresh start, and the run of a record from no bytes that are held.
use Rattle.std.proofs.Common.{ap, rules}
use Rattle.answer.specs.declared.Answer.{Answer}
use Rattle.protocol.specs.Lent.{server_memory}
use Rattle.replay.proofs.StartLaws.{started, replay_refused, replay_ran}
use Rattle.replay.proofs.replay.Goals as goal

pub returns-then-started-ne-DONE : goal.returns-then-started-ne-DONE
returns-then-started-ne-DONE c =
    let number = ap (λ (a : Answer). a.number) c.fresh-started.ensures.answer in
    replay_refused (server_memory c.args.heads.now c.args.bytes.now c.args.count.now c.args.marks.now) _ c.args.recorded.now _ number c.fresh-started.ensures.memory c.if-started-ne-DONE.true

pub run-requires : goal.run-requires
run-requires c =
    let number = ap (λ (a : Answer). a.number) c.fresh-started.ensures.answer in
    started (server_memory c.args.heads.now c.args.bytes.now c.args.count.now c.args.marks.now) _ c.args.recorded.now _ number c.fresh-started.ensures.memory c.if-started-ne-DONE.false

pub returns : goal.returns
returns c =
    let number = ap (λ (a : Answer). a.number) c.fresh-started.ensures.answer in
    replay_ran (server_memory c.args.heads.now c.args.bytes.now c.args.count.now c.args.marks.now) _ c.args.recorded.now _ number c.fresh-started.ensures.memory c.if-started-ne-DONE.false
    c.empty-slots.result c.empty-slots.ensures _ (search rules)
