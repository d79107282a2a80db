-- A call on heads: the call on their numbers, with its promises read on the heads.
use mathlib.Core.Path.{◌≡◌, refl, sym, ap, ◌∙◌}
use mathlib.Core.Bool.{Bool, true, false}
use mathlib.Core.List.{List}
use Prim.Native.Nat.{ℕ, ◌<◌}
use lib.ListN.{length, drop}
use Rattle.std.specs.Prelude.{eqb}
use Rattle.field.specs.Answer.{done}
use Rattle.table.specs.Table.{table_memory, max_entries}
use Rattle.answer.specs.declared.Answer.{Answer}
use Rattle.heads.specs.declared.Head.{Head}
use Rattle.heads.specs.Heads.{flat_heads}
use Rattle.heads.proofs.HeadLaws.{length_few}
use Rattle.protocol.specs.Step.{LentCall}
use Rattle.protocol.specs.Place.{step_with_place, copy_with_place}
use Rattle.protocol.specs.Lent.{server_memory, answered}
use Rattle.client.specs.declared.Copied.{Copied}
use Rattle.client.specs.Lent.{copied}
use Rattle.flat.specs.declared.ScalarAnswer.{ScalarAnswer}
use Rattle.nt2.specs.Lent.{lent, lent_table, Started, heads_answered, heads_step, EntryRead, CopyStarted, heads_copied, heads_copy_message}
use Rattle.nt2.proofs.Beside.{beside}
use Rattle.nt2.proofs.Results.{too_few, copied_nothing, read_nothing}
use Rattle.nt2.proofs.FewLaws as F
use Rattle.nt2.proofs.UnchangedLaws.{call_keeps, copy_keeps}

-- ---- too few heads

module _ (hs : List Head) (bytes : List ℕ) (count : ℕ) (few : length hs < max_entries) where
  pub few_read : (count' id : ℕ) (r : ScalarAnswer) → r ≡ read_nothing → count' ≡ count → EntryRead (lent_table hs bytes count) id r (lent_table hs bytes count')
  few_read count' id r is same = rw (is, same) (F.read_few (flat_heads hs) bytes count (length_few hs few) id, refl)

  pub few_copied : (message : List ℕ) → heads_copied copied_nothing (lent_table hs bytes count) ≡ heads_copy_message (lent_table hs bytes count) message
  few_copied message = beside (F.copy_few (flat_heads hs) bytes count (length_few hs few) message) refl

  pub few_copy_started : (count' : ℕ) (r : Answer) → r ≡ too_few → count' ≡ count → CopyStarted (lent_table hs bytes count) r (lent_table hs bytes count')
  few_copy_started count' r is same = rw (is, same) (F.copy_fresh_few (flat_heads hs) bytes count (length_few hs few))

  module _ (marks : List ℕ) where
    pub few_started : (count' : ℕ) (marks' : List ℕ) (r : Answer) → r ≡ too_few → count' ≡ count → marks' ≡ marks
        → Started (lent hs bytes count marks) r (lent hs bytes count' marks')
    few_started count' marks' r is same same_marks = rw (is, same, same_marks) (F.fresh_few (flat_heads hs) bytes count (length_few hs few) marks)

    pub few_answered : (k : LentCall) → heads_answered too_few (lent hs bytes count marks) k.output ≡ heads_step (lent hs bytes count marks) k
    few_answered k = beside (F.call_few (flat_heads hs) bytes count (length_few hs few) marks k) refl

-- ---- calls that only read the heads

pub read_call : (hs : List Head) (bytes marks marks' out : List ℕ) (count count' : ℕ) (k : LentCall) (r : Answer)
    → answered r (server_memory (flat_heads hs) bytes count' marks') out ≡ step_with_place max_entries (server_memory (flat_heads hs) bytes count marks) k
    → heads_answered r (lent hs bytes count' marks') out ≡ heads_step (lent hs bytes count marks) k
read_call hs bytes marks marks' out count count' k r e = beside e refl

-- ---- calls that may change heads, which are then made of the numbers again

-- the numbers that a call left are the heads' afterwards: stored where heads may have changed, and else those that were there
pub stored_is : (changes : Bool) (hs after : List Head) (ys : List ℕ) → (changes ≡ true → flat_heads after ≡ ys) → (changes ≡ false → after ≡ hs)
    → (changes ≡ false → ys ≡ flat_heads hs) → flat_heads after ≡ ys
stored_is true hs after ys changed unchanged kept = changed refl
stored_is false hs after ys changed unchanged kept = ap flat_heads (unchanged refl) ∙ sym (kept refl)

module _ (hs after : List Head) (ys bytes bytes' : List ℕ) (count count' : ℕ) where
  pub stored_call : (marks marks' out : List ℕ) (k : LentCall) (r : Answer)
      → (eqb r.number done ≡ true → flat_heads after ≡ ys) → (eqb r.number done ≡ false → after ≡ hs) → drop max_entries after ≡ drop max_entries hs
      → answered r (server_memory ys bytes' count' marks') out ≡ step_with_place max_entries (server_memory (flat_heads hs) bytes count marks) k
      → heads_answered r (lent after bytes' count' marks') out ≡ heads_step (lent hs bytes count marks) k
  stored_call marks marks' out k r changed unchanged past e =
      let same : flat_heads after ≡ ys = stored_is (eqb r.number done) hs after ys changed unchanged (call_keeps _ _ _ r _ _ _ _ _ e) in
      beside (rw same e) past

  pub stored_copy : (message : List ℕ) (r : Copied)
      → (eqb r.number done ≡ true → flat_heads after ≡ ys) → (eqb r.number done ≡ false → after ≡ hs) → drop max_entries after ≡ drop max_entries hs
      → copied r (table_memory ys bytes' count') ≡ copy_with_place max_entries (table_memory (flat_heads hs) bytes count) message
      → heads_copied r (lent_table after bytes' count') ≡ heads_copy_message (lent_table hs bytes count) message
  stored_copy message r changed unchanged past e =
      let same : flat_heads after ≡ ys = stored_is (eqb r.number done) hs after ys changed unchanged (copy_keeps _ _ _ r _ _ _ e) in
      beside (rw same e) past
