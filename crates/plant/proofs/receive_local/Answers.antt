-- `receive_local` reads the kind.
use Rattle.std.proofs.Common.{◌≡◌, Ok, Err, rules, le-leb, length}
use borrow.Author.Tests.{lt-leb, ne_eqb}
use Rattle.field.specs.Choice.{pick}
use Rattle.field.specs.Field.{octet_at}
use Rattle.field.proofs.FieldLaws.{octet_there, octet_missing}
use Rattle.message.specs.declared.Kind.TheVariants as K
use Rattle.message.proofs.KindLaws.{byte_of, unknown_of}
use Rattle.line_record.specs.Plant.{plant_message}
use Rattle.line_record.specs.Held.{plant_effect}
use Rattle.plant.proofs.receive_local.Goals as goal

pub returns-in_err-kind-in-Ok : goal.returns-in_err-kind-in-Ok
unfolding plant_message plant_effect pick
returns-in_err-kind-in-Ok c =
    let refusal = c.in_err-kind-in-Ok.field-0.0 in
    let e : c.from_residual.result ≡ Err refusal = search rules in
    let there : Ok c.in-Ok.byte ≡ octet_at c.args.m.now 0 = search rules in
    let h = octet_there c.args.m.now 0 c.in-Ok.byte there in
    let u = unknown_of c.in_err-kind-in-Ok.ensures in
    let other = u.1 in
    λ marks sound.
    rw (e, u.0, le-leb 1 (length c.args.m.now) h.0, ← h.1, ne_eqb _ _ (other K.Assignment), ne_eqb _ _ (other K.Update))

pub receive_kind-requires-clause-kind : goal.receive_kind-requires-clause-kind
receive_kind-requires-clause-kind c =
    let there : Ok c.in-Ok.byte ≡ octet_at c.args.m.now 0 = search rules in
    rw (← byte_of c.in_ok-kind-in-Ok.ensures) there

pub returns-in-Err : goal.returns-in-Err
unfolding plant_message plant_effect pick
returns-in-Err c =
    let m = c.args.m.now in
    let cut : Err c.in-Err.field-0 ≡ octet_at m 0 = search rules in
    λ marks sound. rw (lt-leb 1 (length m) (octet_missing m 0 c.in-Err.field-0 cut).0)
