-- What the copy must take is taken: for every limit, in every sound copy.
use Rattle.std.specs.Prelude.{ℕ, ◌<◌, true, false, List, [], ◌∷◌, ◌++◌, ◌≡◌, length, set}
use Rattle.field.specs.Answer.{done, ignored}
use Rattle.value.specs.Value.{IsValue}
use Rattle.message.specs.Layout.{Entry, keep_alive_kind, hello_complete_kind, unsupported_kind, kind_size, revision_length, revision_bytes, assignment_bytes, update_bytes, WellFormed}
use Rattle.table.specs.Names.{name_held}
use Rattle.table.specs.Table.{TableMemory, Holds, emptied, entries_of, store_entry, store_value, entry_of, with_update}
use Rattle.soundness.specs.Sound.{sound_table}
use Rattle.protocol.specs.Copy.{CopyResult, copy_message, copy_fresh_start}

-- "0x00, 0x03 and 0x02 give 16, the last once its revision is read, which is reported (0 is reported in every other case)"
pub record CopyIgnores (limit : ℕ) (m : TableMemory) (rest : List ℕ) : Type 0 where
  pub keep_alive_lem : copy_message limit m (keep_alive_kind ∷ rest) ≡ record { number = ignored; taken = kind_size; revision = 0; memory = m }
  pub hello_complete_lem : copy_message limit m (hello_complete_kind ∷ rest) ≡ record { number = ignored; taken = kind_size; revision = 0; memory = m }
  pub unsupported : (revision : ℕ) → copy_message limit m (revision_bytes unsupported_kind revision ++ rest)
      ≡ record { number = ignored; taken = revision_length; revision = revision; memory = m }

abbrev pub CopyIgnored : Type 0
CopyIgnored = (limit : ℕ) (m : TableMemory) → sound_table limit m ≡ true → (rest : List ℕ) → CopyIgnores limit m rest

-- a message was stored: so many bytes are taken, and the copy holds these entries
pub record CopyStored (r : CopyResult) (taken : ℕ) (after : TableMemory) (es : List Entry) : Type 0 where
  pub answered : r ≡ record { number = done; taken = taken; revision = 0; memory = after }
  pub entries : entries_of after ≡ es

-- an assignment with the next ID and a new name, in a copy that is not full: "else it is stored with its number"
abbrev pub CopyAssignmentDone : Type 0
CopyAssignmentDone =
    (limit : ℕ) (m : TableMemory) → sound_table limit m ≡ true → (e : Entry) (rest : List ℕ) → WellFormed e → name_held e.name (entries_of m) ≡ false → m.count < limit
    → CopyStored (copy_message limit m (assignment_bytes m.count e ++ rest)) (length (assignment_bytes m.count e)) (store_entry m e) (entries_of m ++ (e ∷ []))

-- "An update of a held ID is always stored."
abbrev pub CopyUpdateDone : Type 0
CopyUpdateDone =
    (limit : ℕ) (m : TableMemory) → sound_table limit m ≡ true → (id number : ℕ) (value rest : List ℕ) → id < m.count → IsValue (entry_of m id).type value
    → CopyStored (copy_message limit m (update_bytes id number value ++ rest)) (length (update_bytes id number value)) (store_value m id number value)
    (set (entries_of m) id (with_update (entry_of m id) number value))

-- "a fresh start of a copy only sets its count to 0"
abbrev pub CopyFreshStartDone : Type 0
CopyFreshStartDone =
    (limit : ℕ) (m : TableMemory) → Holds limit m.heads m.bytes → copy_fresh_start limit m ≡ record { number = done; memory = emptied m }
