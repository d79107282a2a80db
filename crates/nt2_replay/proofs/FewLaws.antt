-- Fewer heads than a table has: a replay answers 14, and nothing changes. With enough of them it is that on their numbers.
use mathlib.Core.Path.{◌≡◌, refl}
use mathlib.Core.List.{List}
use Prim.Native.Nat.{ℕ, ◌*◌, ◌<◌}
use lib.ListN.{length, drop}
use borrow.Author.Tests.{lt-leb}
use Rattle.field.specs.Answer.{unsound}
use Rattle.field.specs.Choice.{pick}
use Rattle.table.specs.Table.{max_entries, head_size}
use Rattle.soundness.specs.Sound.{large_enough}
use Rattle.heads.specs.declared.Head.{Head}
use Rattle.heads.specs.Heads.{head_numbers, flat_heads}
use Rattle.heads.proofs.HeadLaws.{length_few}
use Rattle.protocol.specs.Step.{fresh_start}
use Rattle.protocol.specs.Lent.{server_memory}
use Rattle.line_record.specs.Replay.{replay, result_of}
use Rattle.replay.specs.Lent.{replayed}
use Rattle.replay.specs.declared.Replayed.{Replayed}
use Rattle.nt2.specs.Lent.{lent}
use Rattle.nt2.proofs.Beside.{beside}
use Rattle.nt2_replay.specs.Lent.{heads_replayed, heads_replay}

abbrev pub replayed_nothing : Replayed
replayed_nothing = record { number = unsound; records = 0 }

pub replay_few : (heads bytes : List ℕ) (count : ℕ) → length heads < head_numbers → (marks recorded : List ℕ)
    → replayed replayed_nothing (server_memory heads bytes count marks) ≡ result_of (replay max_entries (server_memory heads bytes count marks) recorded)
unfolding replay fresh_start large_enough pick
replay_few heads bytes count few marks recorded = rw (lt-leb (head_size * max_entries) (length heads) few)

-- ---- the call on heads

pub few_replayed : (hs : List Head) (bytes : List ℕ) (count : ℕ) → length hs < max_entries → (marks recorded : List ℕ)
    → heads_replayed replayed_nothing (lent hs bytes count marks) ≡ heads_replay (lent hs bytes count marks) recorded
few_replayed hs bytes count few marks recorded = beside (replay_few (flat_heads hs) bytes count (length_few hs few) marks recorded) refl

pub replayed_call : (hs after : List Head) (ys bytes bytes' marks marks' recorded : List ℕ) (count count' : ℕ) (r : Replayed)
    → flat_heads after ≡ ys → drop max_entries after ≡ drop max_entries hs
    → replayed r (server_memory ys bytes' count' marks') ≡ result_of (replay max_entries (server_memory (flat_heads hs) bytes count marks) recorded)
    → heads_replayed r (lent after bytes' count' marks') ≡ heads_replay (lent hs bytes count marks) recorded
replayed_call hs after ys bytes bytes' marks marks' recorded count count' r same past e = beside (rw same e) past
