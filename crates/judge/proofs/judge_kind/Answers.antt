-- `judge_kind` decides as the definition does: by the kind, the state for it, and then the message.
use Rattle.std.proofs.Common.{◌≡◌, Err, rules}
use mathlib.Core.Logic.{inl, inr}
use Rattle.field.specs.Choice.{pick}
use Rattle.protocol.specs.Judge.{judge_kind}
use Rattle.judge.proofs.DecisionLaws.{decides_refusal, decides_ignored, when_greeted, not_greeted}
use Rattle.judge.proofs.judge_kind.Goals as goal

pub returns-in-KeepAlive : goal.returns-in-KeepAlive
unfolding judge_kind pick
returns-in-KeepAlive c = λ sender l. rw c.in-KeepAlive.is (decides_ignored _ _ _ _)

pub returns-in-Hello : goal.returns-in-Hello
unfolding judge_kind pick
returns-in-Hello c = λ sender l. rw c.in-Hello.is (c.judge_hello.ensures _ sender l)

pub returns-in_err-demand_greeted-in-Assignment : goal.returns-in_err-demand_greeted-in-Assignment
unfolding judge_kind pick
returns-in_err-demand_greeted-in-Assignment c =
    let fault = c.in_err-demand_greeted-in-Assignment.field-0.0 in
    let e : c.from_residual.result ≡ Err fault = search rules in
    λ sender l. rw (e, c.in-Assignment.is, not_greeted _ _ _ fault c.in_err-demand_greeted-in-Assignment.ensures) (decides_refusal _ _ _ _)

pub returns-in_ok-demand_greeted-in-Assignment : goal.returns-in_ok-demand_greeted-in-Assignment
unfolding judge_kind pick
returns-in_ok-demand_greeted-in-Assignment c =
    λ sender l. rw (c.in-Assignment.is, when_greeted _ _ _ c.in_ok-demand_greeted-in-Assignment.ensures) (c.judge_assignment.ensures sender)

pub returns-in_err-demand_greeted-in-Update : goal.returns-in_err-demand_greeted-in-Update
unfolding judge_kind pick
returns-in_err-demand_greeted-in-Update c =
    let fault = c.in_err-demand_greeted-in-Update.field-0.0 in
    let e : c.from_residual-in_err-demand_greeted-in-Update.result ≡ Err fault = search rules in
    λ sender l. rw (e, c.in-Update.is, not_greeted _ _ _ fault c.in_err-demand_greeted-in-Update.ensures) (decides_refusal _ _ _ _)

pub returns-in_ok-demand_greeted-in-Update : goal.returns-in_ok-demand_greeted-in-Update
unfolding judge_kind pick
returns-in_ok-demand_greeted-in-Update c =
    λ sender l. rw (c.in-Update.is, when_greeted _ _ _ c.in_ok-demand_greeted-in-Update.ensures) (c.judge_update.ensures sender)

pub returns-in-Unsupported : goal.returns-in-Unsupported
unfolding judge_kind pick
returns-in-Unsupported c = λ sender l. elim c.in-Unsupported.is [
  | inl h ↦ rw (h, c.new.ensures) (decides_refusal _ _ _ _)
  | inr h ↦ rw (h, c.new.ensures) (decides_refusal _ _ _ _)
]
