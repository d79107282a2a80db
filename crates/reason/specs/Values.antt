-- A stored value plays no part in why a message is done, ignored or refused. Proved in proofs/ValuesLaws.antt.
use Rattle.std.specs.Prelude.{ℕ, List, ◌≡◌, length, get_or}
use Rattle.message.specs.Layout.{Entry}
use Rattle.table.specs.Table.{default_entry, entries_of}
use Rattle.protocol.specs.Step.{ServerMemory}
use Rattle.protocol.specs.Kept.{SoundMemory}
use Rattle.reason.specs.Why.{why}

-- entries that are the same but for their values
pub record SameButValues (xs ys : List Entry) : Type 0 where
  pub lengths : length ys ≡ length xs
  pub names : (id : ℕ) → (get_or ys id default_entry).name ≡ (get_or xs id default_entry).name
  pub types : (id : ℕ) → (get_or ys id default_entry).type ≡ (get_or xs id default_entry).type
  pub numbers : (id : ℕ) → (get_or ys id default_entry).number ≡ (get_or xs id default_entry).number

abbrev pub ValuesNotLookedAt : Type 0
ValuesNotLookedAt =
    (limit : ℕ) (mem other : ServerMemory) → SoundMemory limit mem → SoundMemory limit other → other.marks ≡ mem.marks
    → SameButValues (entries_of mem.table) (entries_of other.table) → (c : ℕ) (m : List ℕ) → why limit other c m ≡ why limit mem c m
