-- A call that is not done leaves the heads' numbers as they were: "A refusal (1 to 14) .. changes no lent memory", and of 16 "nothing changes".
use mathlib.Core.Path.{◌≡◌, sym, ap, subst}
use mathlib.Core.Logic.{◌≢◌}
use mathlib.Core.Bool.{false}
use mathlib.Core.List.{List}
use Prim.Native.Nat.{ℕ}
use Rattle.std.specs.Prelude.{eqb}
use Rattle.std.proofs.Common.{rules}
use Rattle.field.specs.Answer.{done}
use Rattle.field.specs.Place.{WithPlace}
use Rattle.table.specs.Table.{TableMemory, table_memory}
use Rattle.answer.specs.declared.Answer.{Answer}
use Rattle.protocol.specs.Step.{ServerMemory, LentCall, CallResult}
use Rattle.protocol.specs.Copy.{CopyResult}
use Rattle.protocol.specs.Place.{step_with_place, copy_with_place}
use Rattle.protocol.specs.Lent.{server_memory, answered}
use Rattle.protocol.specs.Answered.{RightlyAnswered, CopyRightlyAnswered}
use Rattle.protocol.proofs.AnswerLaws.{call_answered}
use Rattle.protocol.proofs.CopyLaws.{copy_answered}
use Rattle.client.specs.declared.Copied.{Copied}
use Rattle.client.specs.Lent.{copied}

pub not_done : (number : ℕ) → eqb number done ≡ false → number ≢ done
not_done number unlike same = search (rules, unlike, same)

pub call_keeps : (limit : ℕ) (mem : ServerMemory) (k : LentCall) (a : Answer) (heads bytes : List ℕ) (count : ℕ) (marks out : List ℕ)
    → answered a (server_memory heads bytes count marks) out ≡ step_with_place limit mem k → eqb a.number done ≡ false → heads ≡ mem.table.heads
call_keeps limit mem k a heads bytes count marks out e ne = ap (λ (m : ServerMemory). m.table.heads) ((subst (λ (r : WithPlace CallResult). RightlyAnswered mem k.output r.result) (sym e) (call_answered limit mem k)).unchanged (not_done a.number ne)).0

-- a message to the copy
pub copy_keeps : (limit : ℕ) (m : TableMemory) (message : List ℕ) (a : Copied) (heads bytes : List ℕ) (count : ℕ)
    → copied a (table_memory heads bytes count) ≡ copy_with_place limit m message → eqb a.number done ≡ false → heads ≡ m.heads
copy_keeps limit m message a heads bytes count e ne = ap (λ (t : TableMemory). t.heads) ((subst (λ (r : WithPlace CopyResult). CopyRightlyAnswered m r.result) (sym e) (copy_answered limit m message)).unchanged (not_done a.number ne))
