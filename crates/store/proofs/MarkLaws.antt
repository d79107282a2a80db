-- What a verdict on a mark does: there is always room for no bytes, and they go to nobody.
use Rattle.std.proofs.Common.{◌≡◌, refl, ℕ, List, length, set, Ok, Err, arith, le-leb}
use Rattle.field.specs.Choice.{pick}
use Rattle.field.specs.Octets.{overwrite_at}
use Rattle.field.specs.declared.Fault.{Fault}
use Rattle.recipients.proofs.RecipientLaws.{nobody_set}
use Rattle.table.specs.Table.{TableMemory}
use Rattle.protocol.specs.Lent.{beside_marks}
use Rattle.protocol.specs.Place.{execute_with_place}
use Rattle.protocol.specs.Step.{execute}
use Rattle.judge.specs.Decision.{mark_of, mark_verdict}
use Rattle.judge.specs.declared.MarkChange.{MarkChange}
use Rattle.judge.specs.declared.MarkChange.TheVariants as K
use Rattle.store.specs.Marked.{marked}

module _ (change : MarkChange) (c : ℕ) (table : TableMemory) (marks out : List ℕ) where
  pub mark_refused : (fault : Fault) → marked (Err fault) (beside_marks table marks) out ≡ execute_with_place (beside_marks table marks) out (mark_verdict c change (Err fault))
  unfolding execute
  mark_refused fault = refl

pub mark_made : (change : MarkChange) (c : ℕ) (table : TableMemory) (marks out : List ℕ)
    → marked (Ok tt) (beside_marks table (set marks c (mark_of change))) out ≡ execute_with_place (beside_marks table marks) out (mark_verdict c change (Ok tt))
unfolding execute overwrite_at pick
mark_made K.Open c table marks out = rw (le-leb 0 (length out) (omega arith), nobody_set _) refl
mark_made K.Close c table marks out = rw (le-leb 0 (length out) (omega arith), nobody_set _) refl
