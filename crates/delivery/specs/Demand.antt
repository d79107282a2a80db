-- Demand 3 of runs in which deliveries stand beside other calls.
use Rattle.std.specs.Prelude.{ℕ, ◌<◌, List, [], ◌∷◌, ◌++◌, ◌≡◌, length, drop}
use Rattle.field.specs.Answer.{done}
use Rattle.table.specs.Table.{TableMemory}
use Rattle.soundness.specs.Sound.{connections}
use Rattle.protocol.specs.Step.{ServerMemory, LentCall, call_step}
use Rattle.protocol.specs.Run.{memory_after_run, hello_call, StaysWithoutOwnUpdate}
use Rattle.protocol.specs.Copy.{copy_fresh_start}
use Rattle.convergence.specs.Begin.{Begins}
use Rattle.convergence.specs.Demand.{CopyHoldsServerEntries}
use Rattle.delivery.specs.Delivery.{deliver, calls_of}
use Rattle.delivery.specs.Sent.{Sending, sent_by_call, sent_by_calls, sent_by_delivery, addressed_to}

-- an item of a run: a call, or a delivery of connection c, each lent an output
pub data Item : Type 0 where
  single : LentCall → Item
  delivery : (c : ℕ) (input out : List ℕ) → Item

-- what an item does, by its own promise: memory after it, and what it sends
abbrev pub memory_after : (limit : ℕ) → ServerMemory → Item → ServerMemory
memory_after limit mem (single k) = (call_step limit mem k).memory
memory_after limit mem (delivery c input out) = (deliver limit mem c input out).memory

abbrev pub sent_by : (limit : ℕ) → ServerMemory → Item → List Sending
sent_by limit mem (single k) = sent_by_call (call_step limit mem k)
sent_by limit mem (delivery c input out) = sent_by_delivery (deliver limit mem c input out)

-- "demand 3 counts each message judged as one call of its list"
abbrev pub calls_of_item : (limit : ℕ) → ServerMemory → Item → List LentCall
calls_of_item limit mem (single k) = k ∷ []
calls_of_item limit mem (delivery c input out) = calls_of limit mem c input out

-- the same of a run
unfoldable pub memory_after_items : (limit : ℕ) → ServerMemory → List Item → ServerMemory
memory_after_items limit mem [] = mem
memory_after_items limit mem (x ∷ xs) = memory_after_items limit (memory_after limit mem x) xs

unfoldable pub sent_by_items : (limit : ℕ) → ServerMemory → List Item → List Sending
sent_by_items limit mem [] = []
sent_by_items limit mem (x ∷ xs) = sent_by limit mem x ++ sent_by_items limit (memory_after limit mem x) xs

unfoldable pub calls_of_items : (limit : ℕ) → ServerMemory → List Item → List LentCall
calls_of_items limit mem [] = []
calls_of_items limit mem (x ∷ xs) = calls_of_item limit mem x ++ calls_of_items limit (memory_after limit mem x) xs

-- what a run sends behind its first calls: each of these that answered 0 sent one `Sending`, and they are left out
abbrev pub sent_since : (limit : ℕ) → ServerMemory → (before : List LentCall) → List Item → List Sending
sent_since limit mem before items = drop (length (sent_by_calls limit mem before)) (sent_by_items limit mem items)

-- Demand 3, "a single statement about the whole run", whose calls are made one by one or in deliveries
abbrev pub DeliveriesDemand3 : Type 0
DeliveriesDemand3 =
    (limit : ℕ)
    -- "It begins after a fresh start that answered 0, on memory with any contents.";
    -- "A run in demand 3 may start from a fresh start or from a load that is done."
    (start : ServerMemory) → Begins limit start
    -- any calls and deliveries, each lent "an output of any length"
    → (items : List Item)
    -- among their calls, one by one: "Its hello is accepted where its message is a hello for 0x0200 and the answer is 0"
    → (before : List LentCall) (c : ℕ) → c < connections → (rest out : List ℕ) (after : List LentCall)
    → calls_of_items limit start items ≡ before ++ (hello_call c rest out ∷ after)
    → (call_step limit (memory_after_run limit start before) (hello_call c rest out)).number ≡ done
    -- since then it has not left, and no own update of it is applied
    → StaysWithoutOwnUpdate limit (call_step limit (memory_after_run limit start before) (hello_call c rest out)).memory c after
    -- "The empty copy is a copy after its fresh start, on large enough memory with any contents."
    → (copy : TableMemory) → (copy_fresh_start limit copy).number ≡ done
    -- what is addressed to the client "from the accepted hello's call on and with that call" is read, and the copy holds the server's entries
    → CopyHoldsServerEntries limit (copy_fresh_start limit copy).memory
    (addressed_to c (sent_since limit start before items))
    (memory_after_items limit start items).table
