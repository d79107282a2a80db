-- What a sound table and sound marks are, as facts: true gives them, and they give true.
use Rattle.std.proofs.Common.{◌≡◌, ℕ, ◌*◌, ◌<◌, ◌≤◌, Bool, true, ◌&&◌, leb, List, length, get_or, le-leb, leb-true}
use mathlib.Core.Bool.{and-eq-true_iff}
use Rattle.value.specs.Value.{max_value_size}
use Rattle.message.specs.Layout.{max_name_length, WellFormed}
use Rattle.table.specs.Names.{names_differ}
use Rattle.table.specs.Table.{TableMemory, head_size, entry_size, name_length_field, value_length_field, Holds, Named, head_field, entry_at, entries_of}
use Rattle.soundness.specs.Sound.{all_below, sound_entry, large_enough, sound_table, connections, greeted, sound_marks}
use Rattle.soundness.specs.Facts.{SoundHasFacts, FactsAreSound}
use Rattle.soundness.proofs.BelowLaws.{all_at, at_all}
use Rattle.soundness.proofs.EntryLaws.{entry_facts, facts_entry}

-- ---- memory that is large enough

pub large_holds : (limit : ℕ) (heads bytes : List ℕ) → large_enough limit heads bytes ≡ true → Holds limit heads bytes
unfolding large_enough
large_holds limit heads bytes h =
    let both = (and-eq-true_iff (leb (head_size * limit) (length heads)) (leb (entry_size * limit) (length bytes))).0 h in
    record { heads_hold = leb-true (head_size * limit) (length heads) both.0; bytes_hold = leb-true (entry_size * limit) (length bytes) both.1 }

pub holds_large : (limit : ℕ) (heads bytes : List ℕ) → Holds limit heads bytes → large_enough limit heads bytes ≡ true
unfolding large_enough
holds_large limit heads bytes h = rw (le-leb (head_size * limit) (length heads) h.heads_hold) (le-leb (entry_size * limit) (length bytes) h.bytes_hold)

-- ---- sound entries

pub entries_facts : (n : ℕ) (heads bytes : List ℕ) → all_below n (sound_entry heads bytes) ≡ true
    → (i : ℕ) → i < n → (head_field heads i name_length_field ≤ max_name_length) × (head_field heads i value_length_field ≤ max_value_size) × WellFormed (entry_at heads bytes i)
entries_facts n heads bytes s i l = entry_facts heads bytes i (all_at n (sound_entry heads bytes) s i l)

pub entries_named : (n : ℕ) (heads bytes : List ℕ) → Holds n heads bytes → all_below n (sound_entry heads bytes) ≡ true → Named n heads bytes
entries_named n heads bytes h s = record { holds = h; names_fit = λ i l. (entries_facts n heads bytes s i l).0 }

-- ---- the table

pub sound_facts : SoundHasFacts
unfolding sound_table
sound_facts limit m h =
    let large = large_enough limit m.heads m.bytes in
    let few = leb m.count limit in
    let each = all_below m.count (sound_entry m.heads m.bytes) in
    let last = (and-eq-true_iff (large && few && each) (names_differ (entries_of m))).0 h in
    let third = (and-eq-true_iff (large && few) each).0 last.0 in
    let first = (and-eq-true_iff large few).0 third.0 in
    let entry = entries_facts m.count m.heads m.bytes third.1 in
    record {
      holds = large_holds limit m.heads m.bytes first.0;
      count_fits = leb-true m.count limit first.1;
      names_fit = λ i l. (entry i l).0;
      values_fit = λ i l. (entry i l).1;
      well_formed = λ i l. (entry i l).2;
      differ = last.1;
    }

pub facts_sound : FactsAreSound
unfolding sound_table
facts_sound limit m f =
    let each =
    at_all m.count (sound_entry m.heads m.bytes) (λ i l. facts_entry m.heads m.bytes i (f.names_fit i l) (f.values_fit i l) (f.well_formed i l)) in
    rw (holds_large limit m.heads m.bytes f.holds, le-leb m.count limit f.count_fits, each) f.differ

-- memory and count fit: the entries and their names decide
pub fits_sound : (limit : ℕ) (m : TableMemory) → Holds limit m.heads m.bytes → m.count ≤ limit
    → sound_table limit m ≡ (all_below m.count (sound_entry m.heads m.bytes) && names_differ (entries_of m))
unfolding sound_table
fits_sound limit m h l = rw (holds_large limit m.heads m.bytes h, le-leb m.count limit l)

-- ---- connection marks

pub marks_facts : (marks : List ℕ) → sound_marks marks ≡ true → (connections ≤ length marks) × ((c : ℕ) → c < connections → get_or marks c 0 ≤ greeted)
unfolding sound_marks
marks_facts marks h =
    let p : ℕ → Bool = λ c. leb (get_or marks c 0) greeted in
    let both = (and-eq-true_iff (leb connections (length marks)) (all_below connections p)).0 h in
    (leb-true connections (length marks) both.0, λ c l. leb-true (get_or marks c 0) greeted (all_at connections p both.1 c l))

pub facts_marks : (marks : List ℕ) → connections ≤ length marks → ((c : ℕ) → c < connections → get_or marks c 0 ≤ greeted) → sound_marks marks ≡ true
unfolding sound_marks
facts_marks marks h g =
    rw (le-leb connections (length marks) h) (at_all connections (λ (c : ℕ). leb (get_or marks c 0) greeted) (λ c l. le-leb (get_or marks c 0) greeted (g c l)))
