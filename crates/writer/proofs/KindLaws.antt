-- A byte that is no kind's.
use Rattle.std.proofs.Common.{◌≡◌, refl, Err}
use borrow.Author.Tests.{ne_eqb}
use Rattle.field.specs.Choice.{pick}
use Rattle.field.specs.Field.{fault_at}
use Rattle.field.specs.Refusal.{refusal_number}
use Rattle.field.specs.declared.Refusal.{Refusal}
use Rattle.message.specs.Kinds.{IsKindOf}
use Rattle.message.specs.declared.Kind.TheVariants as K
use Rattle.message.proofs.KindLaws.{unknown_of}
use Rattle.writer.specs.Writer.{Fields, Checked, check_by_kind, check}

pub unknown_refused : (f : Fields) (refusal : Refusal) → IsKindOf f.kind (Err refusal) → check f ≡ Checked.refused (fault_at (refusal_number refusal) 0)
unfolding check_by_kind pick
unknown_refused f refusal is =
    let u = unknown_of is in
    let other = u.1 in
    rw (
      u.0,
      ne_eqb _ _ (other K.KeepAlive),
      ne_eqb _ _ (other K.Hello),
      ne_eqb _ _ (other K.Unsupported),
      ne_eqb _ _ (other K.HelloComplete),
      ne_eqb _ _ (other K.Assignment),
      ne_eqb _ _ (other K.Update),
    ) refl
