-- What a sound table gives to those that read from it.
use Rattle.std.proofs.Common.{◌≡◌, ℕ, ◌<◌, ◌≤◌, true, ◌&&◌, List, length, arith}
use mathlib.Core.Bool.{and-eq-true_iff}
use Rattle.value.specs.Value.{IsValue, max_value_size}
use Rattle.message.specs.Layout.{max_name_length}
use Rattle.value.proofs.ValueLaws.{value_known, known_small}
use Rattle.table.specs.Table.{TableMemory, type_field, value_length_field, head_field, HasHead, HasName, HasValue, entry_at, Holds, Named, Readable, max_entries}
use Rattle.table.proofs.SearchLaws.{has_name, has_value, name_length_lem, value_length_lem, holds_less}
use Rattle.soundness.specs.Sound.{sound_table, connections, sound_marks}
use Rattle.soundness.specs.Facts.{SoundFacts}
use Rattle.soundness.proofs.SoundLaws.{sound_facts, marks_facts}

module _ (limit : ℕ) (m : TableMemory) (h : sound_table limit m ≡ true) where
  facts : SoundFacts limit m
  facts = sound_facts limit m h

  pub sound_holds : Holds limit m.heads m.bytes
  sound_holds = facts.holds

  pub sound_count : m.count ≤ limit
  sound_count = facts.count_fits

  pub sound_named : Named m.count m.heads m.bytes
  sound_named =
      record {
        holds = holds_less m.count sound_count sound_holds;
        names_fit = facts.names_fit;
      }

  -- a stored value is one of its stored type
  pub sound_value : (i : ℕ) → i < m.count → IsValue (entry_at m.heads m.bytes i).type (entry_at m.heads m.bytes i).value
  sound_value i l = (facts.well_formed i l).value_whole

  pub sound_type : (i : ℕ) → i < m.count → head_field m.heads i type_field ≤ 0x12
  unfolding entry_at
  sound_type i l = known_small (head_field m.heads i type_field) (value_known _ _ _ (sound_value i l))

  pub sound_readable : Readable m.count m.heads m.bytes
  sound_readable = record { named = sound_named; values_fit = facts.values_fit; types_fit = λ i l. omega (arith, sound_type i l) }

-- what an entry of it has, as accessors require and answer it
pub record StoredEntry (m : TableMemory) (i : ℕ) : Type 0 where
  pub head_there : HasHead i m.heads
  pub name_there : HasName i m.heads m.bytes
  pub value_there : HasValue i m.heads m.bytes
  pub type_small : head_field m.heads i type_field ≤ 0x12
  pub value_small : head_field m.heads i value_length_field ≤ max_value_size
  pub name_small : length (entry_at m.heads m.bytes i).name ≤ max_name_length
  pub value_fits : length (entry_at m.heads m.bytes i).value ≤ max_value_size
  pub value_whole : IsValue (head_field m.heads i type_field) (entry_at m.heads m.bytes i).value

pub stored_entry : (limit : ℕ) (m : TableMemory) (i : ℕ) → sound_table limit m ≡ true → i < m.count → StoredEntry m i
unfolding entry_at
stored_entry limit m i h l =
    let readable = sound_readable limit m h in
    let name = has_name m.heads m.bytes i readable.named l in
    let value = has_value m.heads m.bytes i readable l in
    record {
      head_there = name.0;
      name_there = name;
      value_there = value;
      type_small = sound_type limit m h i l;
      value_small = readable.values_fit i l;
      name_small = omega (arith, name_length_lem m.heads m.bytes i name, readable.named.names_fit i l);
      value_fits = omega (arith, value_length_lem m.heads m.bytes i value, readable.values_fit i l);
      value_whole = sound_value limit m h i l;
    }

-- ---- a sound table with sound marks

module _ (table : TableMemory) (marks : List ℕ) (h : (sound_table max_entries table && sound_marks marks) ≡ true) where
  pub table_sound : sound_table max_entries table ≡ true
  table_sound = ((and-eq-true_iff (sound_table max_entries table) (sound_marks marks)).0 h).0

  pub sixteen_marks : connections ≤ length marks
  sixteen_marks = (marks_facts marks ((and-eq-true_iff (sound_table max_entries table) (sound_marks marks)).0 h).1).0
