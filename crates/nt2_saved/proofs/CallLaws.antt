-- Fewer heads than a table has: saving and loading answer 14, and nothing changes. And a load that is not done leaves the heads' numbers as they were.
use mathlib.Core.Path.{◌≡◌, refl, sym, ap, subst}
use mathlib.Core.Bool.{true, false}
use mathlib.Core.Logic.{◌≢◌}
use mathlib.Core.List.{List}
use Prim.Native.Nat.{ℕ, ◌<◌}
use lib.ListN.{length, drop}
use Rattle.std.specs.Prelude.{eqb}
use Rattle.field.specs.Answer.{done}
use Rattle.field.specs.Choice.{pick}
use Rattle.table.specs.Table.{TableMemory, table_memory, max_entries}
use Rattle.answer.specs.declared.Answer.{Answer}
use Rattle.heads.specs.declared.Head.{Head}
use Rattle.heads.specs.Heads.{head_numbers, flat_heads}
use Rattle.heads.proofs.HeadLaws.{length_few}
use Rattle.saved.specs.Calls.{save_result, save, LoadResult, load_result, load}
use Rattle.saved.proofs.LoadedLaws.{refused_load_keeps}
use Rattle.nt2.specs.Lent.{lent, lent_table, heads_loaded, heads_load}
use Rattle.nt2.proofs.Beside.{beside}
use Rattle.nt2.proofs.Calls.{stored_is}
use Rattle.nt2.proofs.UnchangedLaws.{not_done}
use Rattle.nt2.proofs.Results.{too_few}
use Rattle.nt2_saved.specs.Lent.{heads_save}
use Rattle.nt2.proofs.FewLaws.{table_few}

module _ (heads bytes : List ℕ) (count : ℕ) (few : length heads < head_numbers) where
  pub save_few : (out : List ℕ) → save_result too_few out ≡ save max_entries (table_memory heads bytes count) out
  unfolding save pick
  save_few out = rw (table_few heads bytes count few)

  pub load_few : (marks saved : List ℕ) → load_result too_few (table_memory heads bytes count) ≡ load max_entries (table_memory heads bytes count) marks saved
  unfolding load pick
  load_few marks saved = rw (table_few heads bytes count few)

pub load_keeps : (limit : ℕ) (m : TableMemory) (marks saved : List ℕ) (a : Answer) (heads bytes : List ℕ) (count : ℕ)
    → load_result a (table_memory heads bytes count) ≡ load limit m marks saved → eqb a.number done ≡ false → heads ≡ m.heads
load_keeps limit m marks saved a heads bytes count e unlike =
    ap (λ (t : TableMemory). t.heads) (subst (λ (r : LoadResult). r.answer.number ≢ 0 → r.table ≡ m) (sym e) (refused_load_keeps limit m marks saved) (not_done a.number unlike))

-- ---- the calls on heads

module _ (hs : List Head) (bytes : List ℕ) (count : ℕ) (few : length hs < max_entries) where
  pub few_saved : (out : List ℕ) → save_result too_few out ≡ heads_save (lent_table hs bytes count) out
  few_saved out = save_few (flat_heads hs) bytes count (length_few hs few) out

  pub few_loaded : (marks saved : List ℕ) → heads_loaded too_few (lent_table hs bytes count) ≡ heads_load (lent hs bytes count marks) saved
  few_loaded marks saved = beside (load_few (flat_heads hs) bytes count (length_few hs few) marks saved) refl

pub loaded_call : (hs after : List Head) (ys bytes bytes' marks saved : List ℕ) (count count' : ℕ) (r : Answer)
    → (eqb r.number done ≡ true → flat_heads after ≡ ys) → (eqb r.number done ≡ false → after ≡ hs) → drop max_entries after ≡ drop max_entries hs
    → load_result r (table_memory ys bytes' count') ≡ load max_entries (table_memory (flat_heads hs) bytes count) marks saved
    → heads_loaded r (lent_table after bytes' count') ≡ heads_load (lent hs bytes count marks) saved
loaded_call hs after ys bytes bytes' marks saved count count' r changed unchanged past e =
    let same : flat_heads after ≡ ys = stored_is (eqb r.number done) hs after ys changed unchanged (load_keeps _ _ _ _ r _ _ _ e) in
    beside (rw same e) past
