-- What a run in demand 3 begins on, and what a load does before a run and in the middle of one.
use Rattle.std.specs.Prelude.{ℕ, ◌<◌, true, List, ◌≡◌, ◌≢◌, get_or}
use Rattle.field.specs.Answer.{done}
use Rattle.table.specs.Table.{TableMemory, entries_of}
use Rattle.soundness.specs.Sound.{sound_table, connections, closed}
use Rattle.saved.specs.Form.{saved_size, saved_form}
use Rattle.saved.specs.Calls.{LoadResult, load}
use Rattle.saved.specs.Loaded.{Gives}
use Rattle.protocol.specs.Step.{ServerMemory, with_table, fresh_start}

-- "A run in demand 3 may start from a fresh start or from a load that is done.": the memory that it begins on
pub data Begins (limit : ℕ) : ServerMemory → Type 0 where
  fresh : (mem : ServerMemory) → (fresh_start limit mem).number ≡ done → Begins limit (fresh_start limit mem).memory
  loaded : (mem : ServerMemory) (saved : List ℕ) → (load limit mem.table mem.marks saved).answer.number ≡ done
      → Begins limit (with_table mem (load limit mem.table mem.marks saved).table)

-- "Loading what was saved gives the same entries", in any memory that is large enough: after a fresh start, whatever it held before
abbrev pub LoadsAfterFreshStart : Type 0
LoadsAfterFreshStart =
    (limit : ℕ) (m : TableMemory) → sound_table limit m ≡ true → (mem : ServerMemory) → (fresh_start limit mem).number ≡ done
    → Gives (entries_of m) (saved_size m.count)
    (load limit (fresh_start limit mem).memory.table (fresh_start limit mem).memory.marks (saved_form (entries_of m)))

-- a load is not done, and the table stays as it was
pub record LoadsNothing (m : TableMemory) (r : LoadResult) : Type 0 where
  pub not_done : r.answer.number ≢ done
  pub unchanged : r.table ≡ m

-- "Loading asks that all connections are closed": while one is not, nothing is loaded; on sound memory the answer is 3 (`FirstRefused` of `saved`).
-- So a load in the middle of a run changes nothing while the client of demand 3 is there
abbrev pub LoadWhileConnected : Type 0
LoadWhileConnected =
    (limit : ℕ) (mem : ServerMemory) (c : ℕ) → c < connections → get_or mem.marks c 0 ≢ closed
    → (saved : List ℕ) → LoadsNothing mem.table (load limit mem.table mem.marks saved)
