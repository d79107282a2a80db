-- Demand 3: a single statement about a whole run.
use mathlib.Core.Path.{◌≡◌, sym, ap, ◌∙◌}
use mathlib.Core.Bool.{true}
use mathlib.Core.List.{List, [], ◌∷◌}
use Prim.Native.Nat.{ℕ, ◌<◌}
use native.Mathlib.Omega.{arith}
use lib.ListN.{length, get_or}
use Rattle.message.specs.Layout.{Entry}
use Rattle.table.specs.Table.{TableMemory, entries_of, default_entry}
use Rattle.soundness.specs.Sound.{sound_table}
use Rattle.protocol.specs.Step.{ServerMemory, LentCall, call_step}
use Rattle.protocol.specs.Copy.{copy_fresh_start}
use Rattle.protocol.specs.Run.{memory_after_run, addressed_bytes, hello_call, StaysWithoutOwnUpdate}
use Rattle.convergence.specs.Demand.{SameEntries, CopyHoldsServerEntries, Demand3}
use Rattle.table.proofs.TabulateLaws.{length_entries, entry_get}
use Rattle.protocol.proofs.CopyLaws.{copy_start_sound}
use Rattle.protocol.specs.Kept.{SoundMemory}
use Rattle.protocol.proofs.SoundnessLaws.{sound_kept}
use Rattle.convergence.proofs.BeginLaws.{begins_sound}
use Rattle.convergence.proofs.Leads.{leads_join, leads_end}
use Rattle.convergence.proofs.RunLaws.{sound_run, run_append, run_follows}
use Rattle.convergence.proofs.HelloLaws.{hello_accepted}

pub same_entries : (a b : TableMemory) → entries_of a ≡ entries_of b → SameEntries a b
same_entries a b e =
    let n : a.count ≡ b.count = sym (length_entries a) ∙ ap length e ∙ length_entries b in
    record { counts = n; entries = λ id l. sym (entry_get a id default_entry (omega arith)) ∙ ap (λ (es : List Entry). get_or es id default_entry) e ∙ entry_get b id default_entry l }

-- from any sound memory
since_hello : (limit : ℕ) (mem : ServerMemory) → SoundMemory limit mem → (c : ℕ) → c < 16 → (rest out : List ℕ) (after : List LentCall)
    → (call_step limit mem (hello_call c rest out)).number ≡ 0
    → StaysWithoutOwnUpdate limit (call_step limit mem (hello_call c rest out)).memory c after
    → (copy : TableMemory) → sound_table limit copy ≡ true → entries_of copy ≡ []
    → CopyHoldsServerEntries limit copy (addressed_bytes limit mem c (hello_call c rest out ∷ after)) (memory_after_run limit mem (hello_call c rest out ∷ after)).table
unfolding memory_after_run addressed_bytes
since_hello limit mem s c b rest out after e q copy sound empty =
    let k = hello_call c rest out in
    let hello = (hello_accepted limit mem s c b rest out).at_done e in
    let others = run_follows limit (call_step limit mem k).memory c after (sound_kept limit mem s k) b hello.1 q in
    let reached = leads_end limit [] _ _ (leads_join limit [] _ _ _ _ hello.2 others.1) copy (record { sound = sound; held = empty }) in
    record { end = reached.end; reads = reached.reads; same = same_entries reached.end _ reached.holds.held }

pub demand_3 : Demand3
demand_3 limit start begins before c b rest out e after q copy copy_started =
    let now = sound_run limit start before (begins_sound limit start begins) in
    let fresh = copy_start_sound limit copy copy_started in
    rw (run_append limit start before (hello_call c rest out ∷ after))
    (since_hello limit (memory_after_run limit start before) now c b rest out after e q (copy_fresh_start limit copy).memory fresh.0 fresh.1)
