-- What a run begins on is sound, and what a load does after a fresh start and while a client is connected.
use mathlib.Core.Path.{◌≡◌}
use mathlib.Core.Logic.{◌≢◌}
use mathlib.Core.Bool.{Bool, true, ◌&&◌, and-eq-true_iff}
use Prim.Native.Nat.{ℕ, ◌≤◌, ◌<◌}
use native.Mathlib.Nat.{zero-add}
use native.Mathlib.Omega.{arith}
use lib.Dec.{leb, eqb}
use lib.ListN.{length, get_or, replicate, get_or-replicate}
use borrow.Author.Tests.{leb-true, eqb-true}
use Rattle.field.specs.Answer.{done}
use Rattle.field.specs.Octets.{overwrite_at}
use Rattle.field.proofs.ChoiceLaws.{by_test}
use Rattle.field.proofs.OverwriteLaws.{overwrite_inside}
use Rattle.soundness.specs.Sound.{large_enough, connections, closed}
use Rattle.soundness.proofs.BelowLaws.{all_at, at_all}
use Rattle.saved.specs.Calls.{load, all_closed}
use Rattle.saved.proofs.LoadedLaws.{loads_what_was_saved, loads_where_closed, loaded_is_sound, refused_load_keeps}
use Rattle.protocol.specs.Step.{ServerMemory, StartResult, fresh_start}
use Rattle.protocol.specs.Kept.{SoundMemory}
use Rattle.protocol.proofs.SoundnessLaws.{start_sound}
use Rattle.convergence.specs.Begin.{Begins, fresh, loaded, LoadsAfterFreshStart, LoadWhileConnected}

pub begins_sound : (limit : ℕ) (start : ServerMemory) → Begins limit start → SoundMemory limit start
begins_sound limit start (fresh mem started) = start_sound limit mem started
begins_sound limit start (loaded mem saved e) =
    record { table = loaded_is_sound limit mem.table mem.marks saved e; marks = (loads_where_closed limit mem.table mem.marks saved e).marks_sound }

-- ---- a load after a fresh start

-- a start that answered 0 closes all connections
record Closes (r : StartResult) : Type 0 where
  at_done : r.number ≡ 0 → all_closed r.memory.marks ≡ true

start_closes : (limit : ℕ) (mem : ServerMemory) → Closes (fresh_start limit mem)
unfolding fresh_start all_closed
start_closes limit mem =
    by_test Closes (large && leb connections (length mem.marks)) _ _
    (λ h. record { at_done = λ _. at_all connections _ (closes (leb-true _ _ ((and-eq-true_iff large (leb connections (length mem.marks))).0 h).1)) })
    (λ _. record { at_done = λ e. absurd (omega arith) })
  where
    large : Bool
    large = large_enough limit mem.table.heads mem.table.bytes

    closes : connections ≤ length mem.marks → (c : ℕ) → c < connections → eqb (get_or (overwrite_at mem.marks 0 (replicate connections closed)) c 0) closed ≡ true
    closes l c b =
        let there = rw (zero-add c) at (overwrite_inside mem.marks 0 (replicate connections closed) c (omega arith) (omega arith)) in
        rw (there, get_or-replicate {A = ℕ} connections c closed 0 b)

pub loads_after_fresh_start : LoadsAfterFreshStart
loads_after_fresh_start limit m s mem started =
    let sound = start_sound limit mem started in
    loads_what_was_saved limit m s (fresh_start limit mem).memory.table (fresh_start limit mem).memory.marks
    (record { table_sound = sound.table; marks_sound = sound.marks; closed = (start_closes limit mem).at_done started })

-- ---- a load while a client is connected

pub load_while_connected : LoadWhileConnected
unfolding all_closed
load_while_connected limit mem c b on saved =
    let r = load limit mem.table mem.marks saved in
    let refused : r.answer.number ≢ done = λ e.
    let all = (loads_where_closed limit mem.table mem.marks saved e).closed in
    on (eqb-true _ _ (all_at connections (λ (d : ℕ). eqb (get_or mem.marks d 0) closed) all c b)) in
    record { not_done = refused; unchanged = refused_load_keeps limit mem.table mem.marks saved refused }
