-- `main` lends arrays of the sizes that are required, and writes what was put.
use Rattle.std.proofs.Common.{ℕ, ◌*◌, sym}
use lib.Seq.{length-take-le}
use lib.ListN.{length-replicate}
use Rattle.table.specs.Table.{max_entries, head_size, entry_size}
use Rattle.soundness.specs.Sound.{connections}
use Rattle.digits.proofs.PutLaws.{put_within}
use Rattle.replay_main.proofs.main.Goals as goal

pub put_replay-requires : goal.put_replay-requires
put_replay-requires c =
    record { table = (length-replicate {A = ℕ} (head_size * max_entries) 0, length-replicate {A = ℕ} (entry_size * max_entries) 0); marks = length-replicate {A = ℕ} connections 0 }

pub slice_bounds-write_all-end : goal.slice_bounds-write_all-end
slice_bounds-write_all-end c = sym (length-take-le c.in_ok-end.end c.put_replay.new.text (put_within c.in_ok-end.ensures.shows.shown))
