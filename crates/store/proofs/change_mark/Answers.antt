use Rattle.std.proofs.Common.{◌≡◌, Err, [], rules, arith}
use Rattle.store.proofs.MarkLaws.{mark_refused, mark_made}
use Rattle.store.proofs.change_mark.Goals as goal

pub bounds-marks-c : goal.bounds-marks-c
bounds-marks-c c = omega (arith, c.requires, (c.in_ok-judge_mark.ensures 0 []).markable)

pub returns-in_err-judge_mark : goal.returns-in_err-judge_mark
returns-in_err-judge_mark c =
    let fault = c.in_err-judge_mark.field-0.0 in
    let e : c.from_residual.result ≡ Err fault = search rules in
    λ limit es table out. rw (e, ← (c.in_err-judge_mark.ensures limit es).verdict) (mark_refused c.args.change c.args.c table c.args.marks.now out fault)

pub returns : goal.returns
returns c =
    λ limit es table out.
    rw (c.mark.ensures, ← (c.in_ok-judge_mark.ensures limit es).verdict) (mark_made c.args.change c.args.c table c.args.marks.now out)
