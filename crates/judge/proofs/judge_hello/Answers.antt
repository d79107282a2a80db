use Rattle.std.proofs.Common.{◌≡◌, Ok, Err, rules}
use Rattle.field.specs.Field.{number_at}
use Rattle.judge.proofs.DecisionLaws.{hello_wrong_state, hello_cut, hello_accepted, hello_unsupported}
use Rattle.judge.proofs.judge_hello.Goals as goal

pub returns-then-mark-ne-OPEN : goal.returns-then-mark-ne-OPEN
returns-then-mark-ne-OPEN c = λ count sender l. rw c.new.ensures (hello_wrong_state count sender c.args.mark c.args.m.now c.if-mark-ne-OPEN.true)

pub returns-in_err-revision : goal.returns-in_err-revision
returns-in_err-revision c =
    let fault = c.in_err-revision.field-0.0 in
    let e : c.from_residual.result ≡ Err fault = search rules in
    let cut : Err fault ≡ number_at c.args.m.now 1 = search rules in
    λ count sender l. rw e (hello_cut count sender c.args.mark c.args.m.now fault (search rules) cut)

pub returns-then-revision-eq-REVISION : goal.returns-then-revision-eq-REVISION
returns-then-revision-eq-REVISION c =
    let there : Ok c.in_ok-revision.revision ≡ number_at c.args.m.now 1 = search rules in
    λ count sender l. hello_accepted count sender c.args.mark c.args.m.now c.in_ok-revision.revision (search rules) there (search rules) l

pub returns : goal.returns
returns c =
    let there : Ok c.in_ok-revision.revision ≡ number_at c.args.m.now 1 = search rules in
    λ count sender l. hello_unsupported count sender c.args.mark c.args.m.now c.in_ok-revision.revision (search rules) there (search rules) l
