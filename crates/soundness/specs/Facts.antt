-- What a sound table is, as facts. Theorems: `sound_table` is true just where they hold.
use Rattle.std.specs.Prelude.{◌≡◌, ℕ, ◌<◌, ◌≤◌, true}
use Rattle.value.specs.Value.{max_value_size}
use Rattle.message.specs.Layout.{max_name_length, WellFormed}
use Rattle.table.specs.Names.{names_differ}
use Rattle.table.specs.Table.{TableMemory, name_length_field, value_length_field, Holds, head_field, entry_at, entries_of}
use Rattle.soundness.specs.Sound.{sound_table}

-- "A sound table has a count of 0 to 64, known types, names and values that obey this paper, and names that all differ byte for byte"
pub record SoundFacts (limit : ℕ) (m : TableMemory) : Type 0 where
  pub holds : Holds limit m.heads m.bytes
  pub count_fits : m.count ≤ limit
  pub names_fit : (i : ℕ) → i < m.count → head_field m.heads i name_length_field ≤ max_name_length
  pub values_fit : (i : ℕ) → i < m.count → head_field m.heads i value_length_field ≤ max_value_size
  pub well_formed : (i : ℕ) → i < m.count → WellFormed (entry_at m.heads m.bytes i)
  pub differ : names_differ (entries_of m) ≡ true

abbrev pub SoundHasFacts : Type 0
SoundHasFacts = (limit : ℕ) (m : TableMemory) → sound_table limit m ≡ true → SoundFacts limit m

abbrev pub FactsAreSound : Type 0
FactsAreSound = (limit : ℕ) (m : TableMemory) → SoundFacts limit m → sound_table limit m ≡ true
