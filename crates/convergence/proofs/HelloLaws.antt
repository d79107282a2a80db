-- A client's hello for 0x0200: whose is accepted, and that the answer builds the copy.
use mathlib.Core.Path.{◌≡◌, refl}
use mathlib.Core.List.{List, [], ◌++◌}
use Prim.Native.Nat.{ℕ, suc, ◌≤◌, ◌<◌}
use native.Mathlib.Omega.{arith}
use lib.Dec.{leb, ltb, eqb}
use lib.ListN.{length, get_or}
use lib.Seq.{get_or-set_same}
use borrow.Author.Tests.{leb-true, le-leb, eq-eqb, eqb-true}
use Rattle.field.specs.Field.{fault_at}
use Rattle.field.specs.declared.Fault.{Fault}
use Rattle.field.specs.Choice.{pick}
use Rattle.field.specs.Octets.{encode16, decode16, overwrite_at}
use Rattle.field.proofs.ChoiceLaws.{by_test, pick_true}
use Rattle.message.specs.Layout.{Entry, hello_kind, revision_bytes}
use Rattle.table.specs.Table.{entries_of}
use Rattle.soundness.proofs.SoundLaws.{marks_facts}
use Rattle.recipients.specs.Recipients.{sender, recipient_set}
use Rattle.hello.specs.Hello.{hello_answer}
use Rattle.protocol.specs.Judge.{client_message, Verdict, refuse, refuse_call, accept_hello, protocol_revision, judge_hello, judge_kind, judge_message, judge, store_update, store_new, unsupported_revision, close_mark, open_mark, read_done, ignore}
use Rattle.protocol.specs.Step.{ServerMemory, CallResult, with_mark, execute, call_step}
use Rattle.protocol.specs.Run.{addressed_by_call, hello_call}
use Rattle.soundness.proofs.StoredLaws.{entries_well_formed, entries_differ, entries_fit}
use Rattle.protocol.specs.Kept.{SoundMemory}
use Rattle.protocol.proofs.SoundnessLaws.{step_is}
use Rattle.convergence.proofs.Leads.{Leads, leads_hello}
use Rattle.convergence.proofs.CallLaws.{addressed_done}

-- a hello for 0x0200 is accepted of an open connection, and refused otherwise
pub hello_verdict : (limit : ℕ) (es : List Entry) (marks : List ℕ) (c : ℕ) (rest : List ℕ)
    → judge limit es marks (client_message c (revision_bytes hello_kind protocol_revision ++ rest))
    ≡ pick (ltb c 16) (pick (eqb (get_or marks c 0) 0) (refuse_call 3) (pick (eqb (get_or marks c 0) 1) (accept_hello c) (refuse_call 3))) (refuse_call 2)
unfolding judge judge_message judge_kind judge_hello revision_bytes encode16 decode16 pick
hello_verdict limit es marks c rest =
    rw (le-leb 1 (suc (suc (suc (length rest)))) (omega arith), le-leb 3 (suc (suc (suc (length rest)))) (omega arith))

pub data HelloIs (marks : List ℕ) (c : ℕ) : Verdict → Type 0 where
  refused : {fault : Fault} → 0 < fault.number → HelloIs marks c (refuse fault)
  welcomed : get_or marks c 0 ≡ 1 → HelloIs marks c (accept_hello c)

pub hello_is : (limit : ℕ) (es : List Entry) (marks : List ℕ) (c : ℕ) (rest : List ℕ)
    → HelloIs marks c (judge limit es marks (client_message c (revision_bytes hello_kind protocol_revision ++ rest)))
hello_is limit es marks c rest =
    rw (hello_verdict limit es marks c rest)
    (by_test (HelloIs marks c) _ _ _ (λ _.
    by_test (HelloIs marks c) _ _ _ (λ _. refused {fault = fault_at 3 0} (omega arith)) (λ _.
    by_test (HelloIs marks c) _ _ _ (λ mark. welcomed (eqb-true _ _ mark)) (λ _. refused {fault = fault_at 3 0} (omega arith))))
    (λ _. refused {fault = fault_at 2 0} (omega arith)))

-- an accepted hello: the client was not greeted and then is, and its answer builds the copy
pub record Accepted (limit : ℕ) (mem : ServerMemory) (c : ℕ) (r : CallResult) : Type 0 where
  pub at_done : r.number ≡ 0
      → (get_or mem.marks c 0 ≡ 1) × (get_or r.memory.marks c 0 ≡ 2) × Leads limit [] (addressed_by_call c r) (entries_of r.memory.table)

accepted_hello : (limit : ℕ) (mem : ServerMemory) → SoundMemory limit mem → (c : ℕ) → c < 16 → (out : List ℕ) (v : Verdict) → HelloIs mem.marks c v
    → Accepted limit mem c (execute mem out v)
unfolding execute
accepted_hello limit mem s c b out (ignore taken) x' = elim x' [ ]
accepted_hello limit mem s c b out read_done x'' = elim x'' [ ]
accepted_hello limit mem s c b out (open_mark _) x3 = elim x3 [ ]
accepted_hello limit mem s c b out (close_mark _) x4 = elim x4 [ ]
accepted_hello limit mem s c b out (unsupported_revision _) x5 = elim x5 [ ]
accepted_hello limit mem s c b out (store_new _ taken) x7 = elim x7 [ ]
accepted_hello limit mem s c b out (store_update id number value taken to) x7 = elim x7 [ ]
accepted_hello limit mem s c b out (refuse fault) (refused h) = record { at_done = λ e. absurd (omega arith) }
accepted_hello limit mem s c b out (accept_hello d) (welcomed h) =
    by_test (Accepted limit mem c) (leb (length bytes) (length out)) _ _
    (λ room. record { at_done = λ _. (h, get_or-set_same mem.marks c 2 0 (omega (arith, (marks_facts mem.marks s.marks).0)), told (leb-true _ _ room)) })
    (λ _. record { at_done = λ e. absurd (omega arith) })
  where
    bytes : List ℕ
    bytes = hello_answer 0 (entries_of mem.table)

    told : length bytes ≤ length out
        → Leads limit [] (addressed_by_call c (record { number = 0; taken = 3; sent = length bytes; recipients = recipient_set (sender c) mem.marks; memory = with_mark mem c 2; output = overwrite_at out 0 bytes })) (entries_of mem.table)
    told room =
        rw (addressed_done c 3 out bytes (sender c) mem.marks (with_mark mem c 2) b room, eq-eqb c c refl, pick_true bytes [] refl)
        (leads_hello limit [] (entries_of mem.table) (entries_well_formed limit mem.table s.table) (entries_differ limit mem.table s.table) (omega (arith, entries_fit limit mem.table s.table)))

pub hello_accepted : (limit : ℕ) (mem : ServerMemory) → SoundMemory limit mem → (c : ℕ) → c < 16 → (rest out : List ℕ)
    → Accepted limit mem c (call_step limit mem (hello_call c rest out))
hello_accepted limit mem s c b rest out =
    rw (step_is limit mem s (hello_call c rest out))
    (accepted_hello limit mem s c b out _ (hello_is limit (entries_of mem.table) mem.marks c rest))
