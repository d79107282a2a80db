-- Reading an entry is a call: what it answers is the number of the scalar that is read, and nothing changes.
use mathlib.Core.Path.{◌≡◌, refl, ◌∙◌}
use mathlib.Core.Bool.{Bool, true, false}
use mathlib.Core.List.{List}
use Prim.Native.Nat.{ℕ}
use native.Mathlib.Omega.{arith}
use lib.Dec.{ltb}
use lib.ListN.{length}
use borrow.Author.Tests.{le-leb}
use Rattle.field.specs.Choice.{pick}
use Rattle.field.specs.Octets.{overwrite_at}
use Rattle.scalar.specs.Scalar.{scalar_of}
use Rattle.scalar.specs.declared.Scalar.{Scalar}
use Rattle.field.specs.declared.Refusal.TheVariants.{UnknownId, Unsound}
use Rattle.std.specs.Prelude.{Ok, Err}
use Rattle.table.specs.Table.{entry_at}
use Rattle.table.proofs.TabulateLaws.{length_entries}
use Rattle.soundness.specs.Sound.{sound_table}
use Rattle.recipients.proofs.RecipientLaws.{nobody_set}
use Rattle.protocol.specs.Judge.{read_done, refuse_call, judge}
use Rattle.protocol.specs.Step.{ServerMemory, refusal, execute, call_step, read_scalar, number_of}
use Rattle.protocol.specs.Answered.{ReadAnswered}

module _ (mem : ServerMemory) (out : List ℕ) where
  read_done_lem : execute mem out read_done ≡ refusal mem out 0
  unfolding execute overwrite_at pick
  read_done_lem = rw (le-leb 0 (length out) (omega arith), nobody_set mem.marks)

  -- the same tests decide both
  decided : (sound held : Bool) (read : Scalar)
      → pick sound (execute mem out (pick held read_done (refuse_call 6))) (refusal mem out 14)
      ≡ refusal mem out (number_of (pick sound (pick held (Ok read) (Err UnknownId)) (Err Unsound)))
  unfolding execute pick
  decided true true read = read_done_lem
  decided true false read = refl
  decided false held read = refl

pub read_answered : ReadAnswered
unfolding call_step judge read_scalar
read_answered mem out limit id =
    let e = entry_at mem.table.heads mem.table.bytes id in
    rw (length_entries mem.table)
    (decided mem out (sound_table limit mem.table) (ltb id mem.table.count) (scalar_of e.type e.value))
