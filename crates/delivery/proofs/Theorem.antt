-- Demand 3 of runs in which deliveries stand beside other calls.
use mathlib.Core.Path.{◌≡◌, refl, sym, ap, ap₂, ◌∙◌}
use mathlib.Core.List.{List, [], ◌∷◌, ◌++◌, append_assoc, append-nil}
use Prim.Native.Nat.{ℕ}
use lib.ListN.{length, drop}
use lib.Seq.{drop-append_seam}
use Rattle.protocol.specs.Step.{ServerMemory, LentCall, call_step}
use Rattle.protocol.specs.Run.{memory_after_run, addressed_bytes, hello_call}
use Rattle.convergence.proofs.RunLaws.{run_append}
use Rattle.convergence.proofs.Theorem.{demand_3}
use Rattle.delivery.specs.Sent.{Sending, sent_by_call, sent_by_calls, addressed_to}
use Rattle.delivery.specs.Demand.{Item, single, delivery, memory_after, sent_by, calls_of_item, memory_after_items, sent_by_items, calls_of_items, sent_since, DeliveriesDemand3}
use Rattle.delivery.proofs.SentLaws.{same_addressed, delivery_is_calls}

sent_append : (limit : ℕ) (mem : ServerMemory) (ks ls : List LentCall)
    → sent_by_calls limit mem (ks ++ ls) ≡ sent_by_calls limit mem ks ++ sent_by_calls limit (memory_after_run limit mem ks) ls
unfolding sent_by_calls memory_after_run
sent_append limit mem [] ls = refl
sent_append limit mem (k ∷ ks) ls =
    let one = sent_by_call (call_step limit mem k) in
    let after = (call_step limit mem k).memory in
    ap (λ (x : List Sending). one ++ x) (sent_append limit after ks ls)
    ∙ sym (append_assoc one (sent_by_calls limit after ks) (sent_by_calls limit (memory_after_run limit after ks) ls))

-- ---- items are their calls

item_memory : (limit : ℕ) (mem : ServerMemory) (x : Item) → memory_after limit mem x ≡ memory_after_run limit mem (calls_of_item limit mem x)
unfolding memory_after_run
item_memory limit mem (single k) = refl
item_memory limit mem (delivery c input out) = (delivery_is_calls limit mem c input out).memory

item_sent : (limit : ℕ) (mem : ServerMemory) (x : Item) → sent_by limit mem x ≡ sent_by_calls limit mem (calls_of_item limit mem x)
unfolding sent_by_calls
item_sent limit mem (single k) = sym (append-nil (sent_by_call (call_step limit mem k)))
item_sent limit mem (delivery c input out) = (delivery_is_calls limit mem c input out).sent

items_memory : (limit : ℕ) (mem : ServerMemory) (xs : List Item) → memory_after_items limit mem xs ≡ memory_after_run limit mem (calls_of_items limit mem xs)
unfolding memory_after_items calls_of_items memory_after_run
items_memory limit mem [] = refl
items_memory limit mem (x ∷ xs) =
    let after = memory_after limit mem x in
    items_memory limit after xs
    ∙ ap (λ (m : ServerMemory). memory_after_run limit m (calls_of_items limit after xs)) (item_memory limit mem x)
    ∙ sym (run_append limit mem (calls_of_item limit mem x) (calls_of_items limit after xs))

items_sent : (limit : ℕ) (mem : ServerMemory) (xs : List Item) → sent_by_items limit mem xs ≡ sent_by_calls limit mem (calls_of_items limit mem xs)
unfolding sent_by_items calls_of_items sent_by_calls
items_sent limit mem [] = refl
items_sent limit mem (x ∷ xs) =
    let after = memory_after limit mem x in
    ap₂ (λ (y z : List Sending). y ++ z) (item_sent limit mem x)
    (items_sent limit after xs ∙ ap (λ (m : ServerMemory). sent_by_calls limit m (calls_of_items limit after xs)) (item_memory limit mem x))
    ∙ sym (sent_append limit mem (calls_of_item limit mem x) (calls_of_items limit after xs))

-- ---- demand 3

pub deliveries_demand_3 : DeliveriesDemand3
deliveries_demand_3 limit start begins items before c b rest out after calls e stays copy copy_started =
    let since = hello_call c rest out ∷ after in
    let now = memory_after_run limit start before in
    let memory : memory_after_items limit start items ≡ memory_after_run limit start (before ++ since) =
    items_memory limit start items ∙ ap (memory_after_run limit start) calls in
    let sent : sent_since limit start before items ≡ sent_by_calls limit now since =
    ap (drop (length (sent_by_calls limit start before))) (items_sent limit start items ∙ ap (sent_by_calls limit start) calls ∙ sent_append limit start before since)
    ∙ drop-append_seam (sent_by_calls limit start before) (sent_by_calls limit now since) in
    let bytes : addressed_to c (sent_since limit start before items) ≡ addressed_bytes limit now c since =
    ap (addressed_to c) sent ∙ same_addressed limit now c since in
    rw (bytes, memory) (demand_3 limit start begins before c b rest out e after stays copy copy_started)
