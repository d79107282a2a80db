-- Laws of a run: memory stays sound, and a greeted client that neither leaves nor updates follows the server.
use mathlib.Core.Path.{◌≡◌, refl}
use mathlib.Core.List.{List, [], ◌∷◌, ◌++◌}
use Prim.Native.Nat.{ℕ, ◌<◌}
use lib.ListN.{get_or}
use Rattle.table.specs.Table.{entries_of}
use Rattle.protocol.specs.Step.{ServerMemory, LentCall, call_step}
use Rattle.protocol.specs.Run.{memory_after_run, addressed_bytes, StaysWithoutOwnUpdate}
use Rattle.protocol.specs.Kept.{SoundMemory}
use Rattle.protocol.proofs.SoundnessLaws.{sound_kept}
use Rattle.convergence.proofs.Leads.{Leads, leads_none, leads_join}
use Rattle.convergence.proofs.CallLaws.{call_follows}

pub sound_run : (limit : ℕ) (mem : ServerMemory) (ks : List LentCall) → SoundMemory limit mem → SoundMemory limit (memory_after_run limit mem ks)
unfolding memory_after_run
sound_run limit mem [] s = s
sound_run limit mem (k ∷ ks) s = sound_run limit (call_step limit mem k).memory ks (sound_kept limit mem s k)

pub run_append : (limit : ℕ) (mem : ServerMemory) (ks ls : List LentCall) → memory_after_run limit mem (ks ++ ls) ≡ memory_after_run limit (memory_after_run limit mem ks) ls
unfolding memory_after_run
run_append limit mem [] ls = refl
run_append limit mem (k ∷ ks) ls = run_append limit (call_step limit mem k).memory ks ls

-- what a greeted client that neither leaves nor updates is sent leads its copy along with the server
pub run_follows : (limit : ℕ) (mem : ServerMemory) (c : ℕ) (ks : List LentCall) → SoundMemory limit mem → c < 16 → get_or mem.marks c 0 ≡ 2
    → StaysWithoutOwnUpdate limit mem c ks
    → (get_or (memory_after_run limit mem ks).marks c 0 ≡ 2)
    × Leads limit (entries_of mem.table) (addressed_bytes limit mem c ks) (entries_of (memory_after_run limit mem ks).table)
unfolding memory_after_run addressed_bytes StaysWithoutOwnUpdate
run_follows limit mem c [] s b g q = (g, leads_none limit (entries_of mem.table))
run_follows limit mem c (k ∷ ks) s b g q =
    let one = (call_follows limit mem s k).on c b g q.0 in
    let others = run_follows limit (call_step limit mem k).memory c ks (sound_kept limit mem s k) b one.greeted q.1 in
    (others.0, leads_join limit _ _ _ _ _ one.leads others.1)
