-- Fewer heads than a table has: a delivery answers 14, and nothing changes. With enough of them it is that on their numbers.
use mathlib.Core.Path.{◌≡◌, refl}
use mathlib.Core.List.{List}
use Prim.Native.Nat.{ℕ, ◌<◌}
use lib.ListN.{length, drop}
use Rattle.field.specs.Answer.{unsound}
use Rattle.field.specs.Choice.{pick}
use Rattle.table.specs.Table.{max_entries}
use Rattle.heads.specs.declared.Head.{Head}
use Rattle.heads.specs.Heads.{head_numbers, flat_heads}
use Rattle.heads.proofs.HeadLaws.{length_few}
use Rattle.protocol.specs.Lent.{server_memory}
use Rattle.delivery.specs.Delivery.{deliver}
use Rattle.deliver.specs.Lent.{delivered, refused_answer}
use Rattle.deliver.specs.declared.Delivered.{Delivered}
use Rattle.nt2.specs.Lent.{lent}
use Rattle.nt2.proofs.Beside.{beside}
use Rattle.nt2.proofs.FewLaws.{table_few}
use Rattle.nt2_deliver.specs.Lent.{heads_delivered, heads_delivery}

abbrev pub delivered_nothing : Delivered
delivered_nothing = refused_answer unsound 0 0 0 0

pub deliver_few : (heads bytes : List ℕ) (count : ℕ) → length heads < head_numbers → (marks : List ℕ) (c : ℕ) (input out : List ℕ)
    → delivered delivered_nothing (server_memory heads bytes count marks) out ≡ deliver max_entries (server_memory heads bytes count marks) c input out
unfolding deliver pick
deliver_few heads bytes count few marks c input out = rw (table_few heads bytes count few)

-- ---- the call on heads

pub few_delivered : (hs : List Head) (bytes : List ℕ) (count : ℕ) → length hs < max_entries → (marks : List ℕ) (c : ℕ) (input out : List ℕ)
    → heads_delivered delivered_nothing (lent hs bytes count marks) out ≡ heads_delivery (lent hs bytes count marks) c input out
few_delivered hs bytes count few marks c input out = beside (deliver_few (flat_heads hs) bytes count (length_few hs few) marks c input out) refl

pub delivered_call : (hs after : List Head) (ys bytes bytes' marks marks' input out out' : List ℕ) (count count' c : ℕ) (r : Delivered)
    → flat_heads after ≡ ys → drop max_entries after ≡ drop max_entries hs
    → delivered r (server_memory ys bytes' count' marks') out' ≡ deliver max_entries (server_memory (flat_heads hs) bytes count marks) c input out
    → heads_delivered r (lent after bytes' count' marks') out' ≡ heads_delivery (lent hs bytes count marks) c input out
delivered_call hs after ys bytes bytes' marks marks' input out out' count count' c r same past e = beside (rw same e) past
