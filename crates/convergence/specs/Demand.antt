-- Demand 3: what a client's copy holds after a run.
use Rattle.std.specs.Prelude.{ℕ, ◌<◌, List, [], ◌∷◌, ◌++◌, ◌≡◌, ◌⊎◌, length, drop}
use Rattle.field.specs.Answer.{done, ignored}
use Rattle.table.specs.Table.{TableMemory, entry_at}
use Rattle.soundness.specs.Sound.{connections}
use Rattle.protocol.specs.Step.{ServerMemory, LentCall, call_step}
use Rattle.protocol.specs.Run.{memory_after_run, addressed_bytes, hello_call, StaysWithoutOwnUpdate}
use Rattle.protocol.specs.Copy.{copy_message, copy_fresh_start}
use Rattle.convergence.specs.Begin.{Begins}

-- "The client half takes the first message, then the next from the bytes after it, until none are left":
-- the bytes are read into a copy, which becomes another; "Each of these calls answers 0 or 16"
pub data ReadsInto (limit : ℕ) : TableMemory → List ℕ → TableMemory → Type 0 where
  none_left : {m : TableMemory} → ReadsInto limit m [] m
  one_read : {m m' : TableMemory} {bytes : List ℕ} → 0 < length bytes
      → ((copy_message limit m bytes).number ≡ done) ⊎ ((copy_message limit m bytes).number ≡ ignored)
      → ReadsInto limit (copy_message limit m bytes).memory (drop (copy_message limit m bytes).taken bytes) m'
      → ReadsInto limit m bytes m'

-- "At the end both counts are equal, and for each ID below the count so are type and number and, byte for byte, name and encoded value."
pub record SameEntries (copy server : TableMemory) : Type 0 where
  pub counts : copy.count ≡ server.count
  pub entries : (id : ℕ) → id < server.count → entry_at copy.heads copy.bytes id ≡ entry_at server.heads server.bytes id

-- reading the bytes into a copy refuses nothing, and the copy then holds the server's entries
pub record CopyHoldsServerEntries (limit : ℕ) (copy : TableMemory) (bytes : List ℕ) (server : TableMemory) : Type 0 where
  pub end : TableMemory
  pub reads : ReadsInto limit copy bytes end
  pub same : SameEntries end server

-- Demand 3, "a single statement about the whole run"
abbrev pub Demand3 : Type 0
Demand3 =
    (limit : ℕ)
    -- "It begins after a fresh start that answered 0, on memory with any contents.";
    -- "A run in demand 3 may start from a fresh start or from a load that is done."
    (start : ServerMemory) → Begins limit start
    -- any calls, each lent "an output of any length"
    → (before : List LentCall)
    -- "A client is a connection, 0 to 15. Its hello is accepted where its message is a hello for 0x0200 and the answer is 0"
    → (c : ℕ) → c < connections → (rest out : List ℕ)
    → (call_step limit (memory_after_run limit start before) (hello_call c rest out)).number ≡ done
    -- any calls, in which it has not left and no own update of it is applied
    → (after : List LentCall)
    → StaysWithoutOwnUpdate limit (call_step limit (memory_after_run limit start before) (hello_call c rest out)).memory c after
    -- "The empty copy is a copy after its fresh start, on large enough memory with any contents."
    → (copy : TableMemory) → (copy_fresh_start limit copy).number ≡ done
    -- the bytes "from the accepted hello's call on and with that call" are read, and the copy holds the server's entries
    → CopyHoldsServerEntries limit (copy_fresh_start limit copy).memory
    (addressed_bytes limit (memory_after_run limit start before) c (hello_call c rest out ∷ after))
    (memory_after_run limit start (before ++ (hello_call c rest out ∷ after))).table
