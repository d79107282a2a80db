-- Demand 3 of the exported calls, over heads: a run is made of calls that keep their promises.
use Rattle.std.specs.Prelude.{ℕ, ◌≤◌, ◌<◌, false, List, [], ◌∷◌, ◌++◌, ◌≡◌, ◌⊎◌, length, drop}
use Rattle.field.specs.Answer.{done, ignored}
use Rattle.soundness.specs.Sound.{connections}
use Rattle.answer.specs.declared.Answer.{Answer}
use Rattle.protocol.specs.Step.{LentCall, CallResult}
use Rattle.protocol.specs.Lent.{answered}
use Rattle.protocol.specs.Run.{addressed_by_call, hello_call, leaves_or_updates}
use Rattle.client.specs.declared.Copied.{Copied}
use Rattle.flat.specs.declared.ScalarAnswer.{ScalarAnswer}
use Rattle.convergence.specs.Demand.{SameEntries}
use Rattle.nt2.specs.Lent.{HeadsTable, HeadsServer, table_of, server_of, Started, heads_answered, heads_step, heads_loaded, heads_load, EntryRead, CopyStarted, heads_copied, heads_copy_message}

-- "A run in demand 3 may start from a fresh start or from a load that is done.": the memory that such a call left
pub data Begun : HeadsServer → Type 0 where
  fresh : (mem : HeadsServer) (r : Answer) (start : HeadsServer) → Started mem r start → r.number ≡ done → Begun start
  loaded : (mem : HeadsServer) (saved : List ℕ) (r : Answer) (after : HeadsTable)
      → heads_loaded r after ≡ heads_load mem saved → r.number ≡ done → Begun (record { table = after; marks = mem.marks })

-- a call, and what it answered and left
pub record Made : Type 0 where
  pub call : LentCall
  pub result : CallResult

abbrev pub made : LentCall → CallResult → Made
made call result = record { call = call; result = result }

-- a run of calls from one memory to another, each as its promise says: `nt2_open`, `nt2_leave`, `nt2_receive`, `nt2_create` and
-- `nt2_write`; and between them `nt2_read`
pub data Run : HeadsServer → List Made → HeadsServer → Type 0 where
  no_more : {m : HeadsServer} → Run m [] m
  called : {m after end : HeadsServer} {rest : List Made} (k : LentCall) (r : Answer) (out : List ℕ)
      → heads_answered r after out ≡ heads_step m k → Run after rest end → Run m (made k (answered r (server_of after) out).result ∷ rest) end
  read : {m end : HeadsServer} {after : HeadsTable} {rest : List Made} (id : ℕ) (r : ScalarAnswer)
      → EntryRead m.table id r after → Run (record { table = after; marks = m.marks }) rest end → Run m rest end

-- the bytes addressed to client c, "joined in the order of the calls"
unfoldable pub addressed : ℕ → List Made → List ℕ
addressed c [] = []
addressed c (k ∷ ks) = addressed_by_call c k.result ++ addressed c ks

-- no call of these that answered 0 is c's leaving or c's own update
unfoldable pub Stays : ℕ → List Made → Type 0
Stays c [] = Unit {0}
Stays c (k ∷ ks) = (k.result.number ≡ done → leaves_or_updates c k.call.call ≡ false) × Stays c ks

-- "The client half takes the first message, then the next from the bytes after it, until none are left":
-- a copy and the bytes that are left, after some calls of `nt2_copy_receive`
pub data Reading (copy : HeadsTable) (bytes : List ℕ) : HeadsTable → List ℕ → Type 0 where
  begun : Reading copy bytes copy bytes
  taken : {m after : HeadsTable} {left : List ℕ} (r : Copied) → Reading copy bytes m left → 0 < length left
      → heads_copied r after ≡ heads_copy_message m left → Reading copy bytes after (drop r.taken left)

-- the bytes are read to their end, and the copy then holds the server's entries: every call returns, so while bytes are left there is a next one
pub record ReadsToSameEntries (copy : HeadsTable) (bytes : List ℕ) (server : HeadsServer) : Type 0 where
  -- "Each of these calls answers 0 or 16", and takes some of the bytes that are left
  pub each : {m : HeadsTable} {left : List ℕ} → Reading copy bytes m left → 0 < length left → (r : Copied) (after : HeadsTable)
      → heads_copied r after ≡ heads_copy_message m left
      → ((r.number ≡ done) ⊎ (r.number ≡ ignored)) × (0 < r.taken) × (r.taken ≤ length left)
  -- "At the end both counts are equal, and for each ID below the count so are type and number and, byte for byte, name and encoded value."
  pub end : {m : HeadsTable} → Reading copy bytes m [] → SameEntries (table_of m) (table_of server.table)

-- Demand 3, "a single statement about the whole run"
abbrev pub ExportedDemand3 : Type 0
ExportedDemand3 =
    -- "It begins after a fresh start that answered 0, on memory with any contents.";
    -- "A run in demand 3 may start from a fresh start or from a load that is done."
    (start : HeadsServer) → Begun start
    -- any calls, each lent "an output of any length"
    → (before : List Made) (m : HeadsServer) → Run start before m
    -- "A client is a connection, 0 to 15. Its hello is accepted where its message is a hello for 0x0200 and the answer is 0"
    → (c : ℕ) → c < connections → (rest out : List ℕ) (hello : CallResult) → hello.number ≡ done
    -- "from the accepted hello's call on and with that call" any calls, in which it has not left and no own update of it is applied
    → (after : List Made) (server : HeadsServer) → Run m (made (hello_call c rest out) hello ∷ after) server → Stays c after
    -- "The empty copy is a copy after its fresh start, on large enough memory with any contents."
    → (lent copy : HeadsTable) (s : Answer) → CopyStarted lent s copy → s.number ≡ done
    -- what is addressed to the client is read into the copy
    → ReadsToSameEntries copy (addressed c (made (hello_call c rest out) hello ∷ after)) server
