-- Demand 3 of the exported calls, over heads, with deliveries among them.
use Rattle.std.specs.Prelude.{ℕ, ◌<◌, List, [], ◌∷◌, ◌++◌, ◌≡◌, length, drop}
use Rattle.field.specs.Answer.{done}
use Rattle.table.specs.Table.{max_entries}
use Rattle.soundness.specs.Sound.{connections}
use Rattle.answer.specs.declared.Answer.{Answer}
use Rattle.protocol.specs.Step.{LentCall, call_step}
use Rattle.protocol.specs.Lent.{answered}
use Rattle.protocol.specs.Run.{memory_after_run, hello_call, StaysWithoutOwnUpdate}
use Rattle.delivery.specs.Delivery.{calls_of}
use Rattle.delivery.specs.Sent.{Sending, sent_by_call, sent_by_calls, sent_by_delivery, addressed_to}
use Rattle.deliver.specs.Lent.{delivered}
use Rattle.deliver.specs.declared.Delivered.{Delivered}
use Rattle.flat.specs.declared.ScalarAnswer.{ScalarAnswer}
use Rattle.nt2.specs.Lent.{HeadsTable, HeadsServer, server_of, heads_answered, heads_step, EntryRead, CopyStarted}
use Rattle.nt2.specs.Demand.{Begun, ReadsToSameEntries}
use Rattle.nt2_deliver.specs.Lent.{heads_delivered, heads_delivery}

-- a run from one memory to another, the calls that it counts as, and what it sent by its answers and outputs, each as its promise says:
-- `nt2_open`, `nt2_leave`, `nt2_receive`, `nt2_create` and `nt2_write`; `nt2_deliver`; and between them `nt2_read`
pub data Run : HeadsServer → List LentCall → List Sending → HeadsServer → Type 0 where
  no_more : {m : HeadsServer} → Run m [] [] m
  called : {m after end : HeadsServer} {calls : List LentCall} {sent : List Sending} (k : LentCall) (r : Answer) (out : List ℕ)
      → heads_answered r after out ≡ heads_step m k → Run after calls sent end
      → Run m (k ∷ calls) (sent_by_call (answered r (server_of after) out).result ++ sent) end
  -- "demand 3 counts each message judged as one call of its list, and the bytes behind a heading go to the recipients named there"
  delivery : {m after end : HeadsServer} {calls : List LentCall} {sent : List Sending} (c : ℕ) (input out : List ℕ) (r : Delivered) (output : List ℕ)
      → heads_delivered r after output ≡ heads_delivery m c input out → Run after calls sent end
      → Run m (calls_of max_entries (server_of m) c input out ++ calls) (sent_by_delivery (delivered r (server_of after) output) ++ sent) end
  read : {m end : HeadsServer} {after : HeadsTable} {calls : List LentCall} {sent : List Sending} (id : ℕ) (r : ScalarAnswer)
      → EntryRead m.table id r after → Run (record { table = after; marks = m.marks }) calls sent end → Run m calls sent end

-- Demand 3, "a single statement about the whole run"
abbrev pub ExportedDeliveriesDemand3 : Type 0
ExportedDeliveriesDemand3 =
    -- "It begins after a fresh start that answered 0, on memory with any contents.";
    -- "A run in demand 3 may start from a fresh start or from a load that is done."
    (start : HeadsServer) → Begun start
    -- any calls and deliveries, each lent "an output of any length"; among the calls that they count as is an accepted hello:
    -- "its message is a hello for 0x0200 and the answer is 0". A delivery answers no number for each of its messages, so this is said by the step
    → (before : List LentCall) (c : ℕ) → c < connections → (rest out : List ℕ) (after : List LentCall) (sent : List Sending) (server : HeadsServer)
    → Run start (before ++ (hello_call c rest out ∷ after)) sent server
    → (call_step max_entries (memory_after_run max_entries (server_of start) before) (hello_call c rest out)).number ≡ done
    -- since then the client has not left, and no own update of it is applied
    → StaysWithoutOwnUpdate max_entries (call_step max_entries (memory_after_run max_entries (server_of start) before) (hello_call c rest out)).memory c after
    -- "The empty copy is a copy after its fresh start, on large enough memory with any contents."
    → (lent copy : HeadsTable) (s : Answer) → CopyStarted lent s copy → s.number ≡ done
    -- what was sent to the client "from the accepted hello's call on and with that call" is read into the copy
    → ReadsToSameEntries copy (addressed_to c (drop (length (sent_by_calls max_entries (server_of start) before)) sent)) server
