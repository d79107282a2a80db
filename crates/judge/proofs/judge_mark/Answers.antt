-- `judge_mark` decides as the definition does: connection number, and then whether the connection may.
use Rattle.std.proofs.Common.{sym}
use Rattle.judge.proofs.DecisionLaws.{mark_too_high, mark_wrong_state, mark_changed}
use Rattle.judge.proofs.judge_mark.Goals as goal

pub returns-then-c-ge-CONNECTIONS : goal.returns-then-c-ge-CONNECTIONS
returns-then-c-ge-CONNECTIONS c = λ limit es. rw c.new.ensures (mark_too_high limit es c.args.marks.now c.args.c c.args.change c.if-c-ge-CONNECTIONS.true)

pub returns-then-not-is_allowed : goal.returns-then-not-is_allowed
returns-then-not-is_allowed c =
    λ limit es.
    rw c.new-then-not-is_allowed.ensures (mark_wrong_state limit es c.args.marks.now c.args.c c.args.change c.if-c-ge-CONNECTIONS.false (sym c.if-not-is_allowed.ensures))

pub returns : goal.returns
returns c = λ limit es. mark_changed limit es c.args.marks.now c.args.c c.args.change c.if-c-ge-CONNECTIONS.false (sym c.if-not-is_allowed.ensures)
