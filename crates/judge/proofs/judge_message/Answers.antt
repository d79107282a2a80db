-- `judge_message` decides as the definition does: the first byte is there and is a kind's, or the message is refused.
use Rattle.std.proofs.Common.{◌≡◌, Ok, Err, rules, length, le-leb}
use borrow.Author.Tests.{lt-leb, ne_eqb}
use Rattle.field.specs.Choice.{pick}
use Rattle.field.specs.Field.{octet_at}
use Rattle.message.specs.declared.Kind.TheVariants as K
use Rattle.message.proofs.KindLaws.{byte_of, unknown_of}
use Rattle.field.proofs.FieldLaws.{octet_there, octet_missing}
use Rattle.protocol.specs.Judge.{judge_message, judge_kind}
use Rattle.judge.proofs.DecisionLaws.{decides_refusal}
use Rattle.judge.proofs.judge_message.Goals as goal

pub returns-in_err-byte : goal.returns-in_err-byte
unfolding judge_message pick
returns-in_err-byte c =
    let fault = c.in_err-byte.field-0.0 in
    let e : c.from_residual.result ≡ Err fault = search rules in
    let cut : Err fault ≡ octet_at c.args.m.now 0 = search rules in
    let missing = octet_missing c.args.m.now 0 fault cut in
    λ sender l. rw (e, missing.1, lt-leb 1 (length c.args.m.now) missing.0) (decides_refusal _ _ _ _)

pub returns-in-Ok : goal.returns-in-Ok
unfolding judge_message pick
returns-in-Ok c =
    let there : Ok c.in_ok-byte.byte ≡ octet_at c.args.m.now 0 = search rules in
    let h = octet_there c.args.m.now 0 c.in_ok-byte.byte there in
    λ sender l. rw (le-leb 1 (length c.args.m.now) h.0, ← h.1, byte_of c.in-Ok.ensures) (c.judge_kind.ensures sender l)

pub returns-in-Err : goal.returns-in-Err
unfolding judge_message judge_kind pick
returns-in-Err c =
    let there : Ok c.in_ok-byte.byte ≡ octet_at c.args.m.now 0 = search rules in
    let h = octet_there c.args.m.now 0 c.in_ok-byte.byte there in
    let u = unknown_of c.in-Err.ensures in
    let other = u.1 in
    λ sender l.
    rw (
      c.new-in-Err.ensures,
      u.0,
      le-leb 1 (length c.args.m.now) h.0,
      ← h.1,
      ne_eqb _ _ (other K.KeepAlive),
      ne_eqb _ _ (other K.Hello),
      ne_eqb _ _ (other K.Assignment),
      ne_eqb _ _ (other K.Update),
    ) (decides_refusal _ _ _ _)
