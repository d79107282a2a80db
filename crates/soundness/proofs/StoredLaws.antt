-- A sound table stays sound where an entry that obeys the rules is stored, and an empty one is sound.
use Rattle.std.proofs.Common.{◌≡◌, ℕ, ◌<◌, ◌≤◌, true, false, List, [], ◌∷◌, ◌++◌, length, get_or, set, sym, refl, ◌∙◌, arith, length-append, length-set, get_or-set_other, get_or-set_same}
use native.Mathlib.Decide.{dec_lt, ℕ_discrete}
use lib.ListN.{get_or-append}
use lib.Seq.{get_or_at}
use Rattle.value.specs.Value.{max_value_size, IsValue}
use Rattle.value.proofs.ValueLaws.{value_small}
use Rattle.message.specs.Layout.{Entry, WellFormed}
use Rattle.table.specs.Names.{name_held, names_differ}
use Rattle.table.specs.Table.{TableMemory, entries_of, tabulate, emptied, default_entry, store_entry, store_value}
use Rattle.table.proofs.NamesLaws.{differ_last, differ_at, at_differ}
use Rattle.table.proofs.StoreLaws.{with_number_and_value, Fit, entries_value, fit_value, entries_new, fit_new}
use Rattle.table.proofs.TabulateLaws.{length_entries, entry_get}
use Rattle.soundness.specs.Sound.{large_enough, sound_table}
use Rattle.soundness.specs.Facts.{SoundFacts}
use Rattle.soundness.proofs.SoundLaws.{sound_facts, facts_sound, large_holds}

-- ---- entries as a list

-- every entry obeys the rules
abbrev pub AllWellFormed : List Entry → Type 0
AllWellFormed es = (i : ℕ) → i < length es → WellFormed (get_or es i default_entry)

all_last : (es : List Entry) (e : Entry) → AllWellFormed es → WellFormed e → AllWellFormed (es ++ (e ∷ []))
all_last es e h w i l = elim (dec_lt i (length es)) [
  | yes lt ↦ rw (get_or-append es (e ∷ []) default_entry i lt) (h i lt)
  | no ge ↦ (let n : length es ≡ i = omega (arith, ge, length-append es (e ∷ [])) in rw (get_or_at es e [] default_entry i n) w)
]

all_set : (es : List Entry) (k : ℕ) (e : Entry) → AllWellFormed es → WellFormed e → AllWellFormed (set es k e)
all_set es k e h w i l =
    let b : i < length es = omega (arith, length-set es k e) in elim (ℕ_discrete i k) [
      | yes q ↦ rw (q, get_or-set_same es k e default_entry (omega arith)) w
      | no ne ↦ rw (get_or-set_other es k i e default_entry ne) (h i b)
    ]

-- another number and value leaves every name
same_name : (es : List Entry) (k number : ℕ) (value : List ℕ) (i : ℕ) → i < length es
    → (get_or (with_number_and_value es k number value) i default_entry).name ≡ (get_or es i default_entry).name
unfolding with_number_and_value
same_name es k number value i l =
    let e : Entry = record { name = (get_or es k default_entry).name; type = (get_or es k default_entry).type; number = number; value = value } in elim (ℕ_discrete i k) [
      | yes q ↦ rw (q, get_or-set_same es k e default_entry (omega arith))
      | no ne ↦ rw (get_or-set_other es k i e default_entry ne)
    ]

pub length_with : (es : List Entry) (k number : ℕ) (value : List ℕ) → length (with_number_and_value es k number value) ≡ length es
unfolding with_number_and_value
length_with es k number value = simp length-set

differ_with : (es : List Entry) (k number : ℕ) (value : List ℕ) → names_differ es ≡ true → names_differ (with_number_and_value es k number value) ≡ true
differ_with es k number value h =
    at_differ (with_number_and_value es k number value) default_entry (λ i j l m q.
    let b : j < length es = omega (arith, length_with es k number value) in
    differ_at es default_entry h i j l b (sym (same_name es k number value i (omega arith)) ∙ q ∙ same_name es k number value j b))

-- ---- the table

module _ (limit : ℕ) (m : TableMemory) (s : sound_table limit m ≡ true) where
  facts : SoundFacts limit m
  facts = sound_facts limit m s

  fit : Fit limit m
  fit = record { holds = facts.holds; names_fit = facts.names_fit; values_fit = facts.values_fit }

  pub entries_well_formed : AllWellFormed (entries_of m)
  entries_well_formed i l = let b : i < m.count = omega (arith, length_entries m) in rw (entry_get m i default_entry b) (facts.well_formed i b)

  pub entries_differ : names_differ (entries_of m) ≡ true
  entries_differ = facts.differ

  pub entries_fit : length (entries_of m) ≤ limit
  entries_fit = omega (arith, length_entries m, facts.count_fits)

  -- memory that fits and whose entries obey the rules is sound
  from_entries : (m' : TableMemory) → Fit limit m' → m'.count ≤ limit → AllWellFormed (entries_of m') → names_differ (entries_of m') ≡ true → sound_table limit m' ≡ true
  from_entries m' f c w d =
      facts_sound limit m' (record {
        holds = f.holds;
        count_fits = c;
        names_fit = f.names_fit;
        values_fit = f.values_fit;
        well_formed = λ i l. rw (entry_get m' i default_entry l) at (w i (omega (arith, length_entries m')));
        differ = d;
      })

  module _ (e : Entry) (w : WellFormed e) (new : name_held e.name (entries_of m) ≡ false) (room : length (entries_of m) < limit) where
    below : m.count < limit
    below = omega (arith, length_entries m)

    small : length e.value ≤ max_value_size
    small = value_small e.type e.value (length e.value) w.value_whole

    pub stored_new : entries_of (store_entry m e) ≡ entries_of m ++ (e ∷ [])
    stored_new = entries_new fit e below w.name_fits small

    pub new_sound : sound_table limit (store_entry m e) ≡ true
    new_sound =
        from_entries (store_entry m e) (fit_new fit e below w.name_fits small) (unfold store_entry in omega (arith, below))
        (rw stored_new (all_last (entries_of m) e entries_well_formed w))
        (rw (stored_new, differ_last (entries_of m) e, entries_differ, new))

  module _ (id number : ℕ) (value : List ℕ) (held : id < length (entries_of m)) (v : IsValue (get_or (entries_of m) id default_entry).type value) where
    held_id : id < m.count
    held_id = omega (arith, length_entries m)

    small_value : length value ≤ max_value_size
    small_value = value_small (get_or (entries_of m) id default_entry).type value (length value) v

    pub stored_value : entries_of (store_value m id number value) ≡ with_number_and_value (entries_of m) id number value
    stored_value = entries_value fit id number value held_id facts.count_fits small_value

    updated : WellFormed (record { name = (get_or (entries_of m) id default_entry).name; type = (get_or (entries_of m) id default_entry).type; number = number; value = value })
    updated = let old = entries_well_formed id held in record { name_fits = old.name_fits; name_text = old.name_text; value_whole = v }

    all_value : AllWellFormed (with_number_and_value (entries_of m) id number value)
    unfolding with_number_and_value
    all_value = all_set (entries_of m) id _ entries_well_formed updated

    pub value_sound : sound_table limit (store_value m id number value) ≡ true
    value_sound =
        from_entries (store_value m id number value) (fit_value fit id number value held_id facts.count_fits small_value) (unfold store_value in facts.count_fits)
        (rw stored_value all_value)
        (rw stored_value (differ_with (entries_of m) id number value entries_differ))

-- a table that holds nothing
pub empty_sound : (limit : ℕ) (m : TableMemory) → large_enough limit m.heads m.bytes ≡ true → sound_table limit (emptied m) ≡ true
unfolding entries_of tabulate names_differ
empty_sound limit m h =
    facts_sound limit (emptied m) (record {
      holds = large_holds limit m.heads m.bytes h;
      count_fits = omega arith;
      names_fit = λ i l. absurd (omega arith);
      values_fit = λ i l. absurd (omega arith);
      well_formed = λ i l. absurd (omega arith);
      differ = refl;
    })
