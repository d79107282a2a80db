-- "the last such hello counts": after an accepted hello of a client that does not leave, none of its hellos is accepted.
use mathlib.Core.Path.{◌≡◌}
use mathlib.Core.List.{List, [], ◌∷◌, ◌++◌}
use Prim.Native.Nat.{ℕ, ◌<◌}
use native.Mathlib.Omega.{arith}
use lib.ListN.{get_or}
use Rattle.field.proofs.ChoiceLaws.{by_test}
use Rattle.table.specs.Table.{entries_of}
use Rattle.protocol.specs.Judge.{Verdict, refuse, accept_hello, store_update, store_new, unsupported_revision, close_mark, open_mark, read_done, ignore}
use Rattle.protocol.specs.Step.{ServerMemory, LentCall, CallResult, execute, call_step}
use Rattle.protocol.specs.Run.{memory_after_run, hello_call, StaysWithoutOwnUpdate}
use Rattle.protocol.specs.Kept.{SoundMemory}
use Rattle.protocol.proofs.SoundnessLaws.{sound_kept}
use Rattle.convergence.specs.Beside.{LastHelloCounts}
use Rattle.convergence.proofs.BeginLaws.{begins_sound}
use Rattle.convergence.proofs.RunLaws.{sound_run, run_follows}
use Rattle.convergence.proofs.HelloLaws.{HelloIs, hello_is, hello_accepted}

record NotDone (r : CallResult) : Type 0 where
  at_done : r.number ≡ 0 → ⊥

hello_refused : (mem : ServerMemory) (c : ℕ) (out : List ℕ) (v : Verdict) → HelloIs mem.marks c v → get_or mem.marks c 0 ≡ 2 → NotDone (execute mem out v)
unfolding execute
hello_refused mem c out (ignore taken) x'' g = elim x'' [ ]
hello_refused mem c out read_done x3 g = elim x3 [ ]
hello_refused mem c out (open_mark _) x4 g = elim x4 [ ]
hello_refused mem c out (close_mark _) x5 g = elim x5 [ ]
hello_refused mem c out (unsupported_revision _) x6 g = elim x6 [ ]
hello_refused mem c out (store_new _ taken) x8 g = elim x8 [ ]
hello_refused mem c out (store_update id number value taken to) x8 g = elim x8 [ ]
hello_refused mem c out (refuse fault) (HelloIs.refused h) g = record { at_done = λ e. omega arith }
hello_refused mem c out (accept_hello d) (HelloIs.welcomed h) g = absurd (omega arith)

-- "Hello: open connections only (3 if greeted)": a hello of a greeted client is not answered 0, whatever the table holds
pub no_second_hello : (limit : ℕ) (mem : ServerMemory) (c : ℕ) (rest out : List ℕ) → get_or mem.marks c 0 ≡ 2
    → (call_step limit mem (hello_call c rest out)).number ≡ 0 → ⊥
unfolding call_step
no_second_hello limit mem c rest out g e = step.at_done e
  where
    step : NotDone (call_step limit mem (hello_call c rest out))
    step =
        by_test NotDone _ _ _
        (λ _. hello_refused mem c out _ (hello_is limit (entries_of mem.table) mem.marks c rest) g)
        (λ _. record { at_done = λ q. omega arith })

-- a greeted client stays greeted in a run in which it does not leave
pub stays_greeted : (limit : ℕ) (mem : ServerMemory) (c : ℕ) (ks : List LentCall) → SoundMemory limit mem → c < 16 → get_or mem.marks c 0 ≡ 2
    → StaysWithoutOwnUpdate limit mem c ks → get_or (memory_after_run limit mem ks).marks c 0 ≡ 2
stays_greeted limit mem c ks s b g q = (run_follows limit mem c ks s b g q).0

stays_front : (limit : ℕ) (mem : ServerMemory) (c : ℕ) (ks ls : List LentCall) → StaysWithoutOwnUpdate limit mem c (ks ++ ls) → StaysWithoutOwnUpdate limit mem c ks
unfolding StaysWithoutOwnUpdate
stays_front limit mem c [] ls q = tt
stays_front limit mem c (k ∷ ks) ls q = (q.0, stays_front limit (call_step limit mem k).memory c ks ls q.1)

pub last_hello_counts : LastHelloCounts
last_hello_counts limit start begins before c b rest out e some rest' out' others q =
    let now = memory_after_run limit start before in
    let s : SoundMemory limit now = sound_run limit start before (begins_sound limit start begins) in
    let next = (call_step limit now (hello_call c rest out)).memory in
    let g : get_or next.marks c 0 ≡ 2 = ((hello_accepted limit now s c b rest out).at_done e).1 in
    no_second_hello limit (memory_after_run limit next some) c rest' out'
    (stays_greeted limit next c some (sound_kept limit now s (hello_call c rest out)) b g (stays_front limit next c some (hello_call c rest' out' ∷ others) q))
