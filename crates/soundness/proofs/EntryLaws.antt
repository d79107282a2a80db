-- Laws of a sound entry.
use Rattle.std.specs.Prelude.{Err, Ok}
use Rattle.field.specs.Field.{Parsed}
use Rattle.std.specs.Result.{is_ok}
use Rattle.std.proofs.Common.{◌≡◌, refl, sym, ℕ, ◌<◌, ◌≤◌, true, false, ◌&&◌, leb, List, drop, ◌∙◌, arith, length-take, le-leb, leb-true}
use mathlib.Core.Bool.{and-false, and-eq-true_iff, false≢true}
use borrow.Author.Tests.{lt-leb}
use Rattle.field.specs.Choice.{pick}
use Rattle.utf8.specs.Utf8.{is_utf8}
use Rattle.value.specs.Value.{max_value_size, known_type, parse_value, parse_lone, IsValue}
use Rattle.value.proofs.ValueLaws.{LoneIs, lone_is, lone_taken}
use Rattle.message.specs.Layout.{max_name_length, WellFormed}
use Rattle.table.specs.Table.{name_length_field, value_length_field, type_field, name_start, head_field, entry_at}
use Rattle.soundness.specs.Sound.{accepted, sound_entry}

-- ---- a value

pub value_accepted : (t : ℕ) (v : List ℕ) → IsValue t v → accepted (parse_lone t v) ≡ true
value_accepted t v h = rw (lone_taken t v h)

pub accepted_value : (t : ℕ) (v : List ℕ) → accepted (parse_lone t v) ≡ true → IsValue t v
accepted_value t v h = go (parse_lone t v) (lone_is t v) h
  where
    go : (r : Parsed) → LoneIs t v r → accepted r ≡ true → IsValue t v
    go (Err fault) LoneIs.refused e = absurd (false≢true e)
    go (Ok n) (LoneIs.taken m w) e = w

-- a type of two bytes is not known
pub type_unknown : (t : ℕ) (v : List ℕ) → 255 < t → accepted (parse_lone t v) ≡ false
unfolding parse_lone parse_value known_type pick
type_unknown t v h = rw (lt-leb t 2 (omega arith), le-leb 16 t (omega arith), lt-leb t 18 (omega arith))

accepted_is_ok : (r : Parsed) → is_ok r ≡ accepted r
accepted_is_ok (Err fault) = refl
accepted_is_ok (Ok n) = refl

-- ---- the four tests

module _ (heads bytes : List ℕ) (i : ℕ) where
  pub long_name : max_name_length < head_field heads i name_length_field → sound_entry heads bytes i ≡ false
  unfolding sound_entry
  long_name h = rw (lt-leb (head_field heads i name_length_field) max_name_length h)

  pub long_value : max_value_size < head_field heads i value_length_field → sound_entry heads bytes i ≡ false
  unfolding sound_entry
  long_value h = rw (lt-leb (head_field heads i value_length_field) max_value_size h, and-false (leb (head_field heads i name_length_field) max_name_length))

  pub bad_name_lem : is_utf8 (entry_at heads bytes i).name ≡ false → sound_entry heads bytes i ≡ false
  unfolding sound_entry
  bad_name_lem h = rw (h, and-false (leb (head_field heads i name_length_field) max_name_length && leb (head_field heads i value_length_field) max_value_size))

  pub by_value : head_field heads i name_length_field ≤ max_name_length → head_field heads i value_length_field ≤ max_value_size → is_utf8 (entry_at heads bytes i).name ≡ true
      → sound_entry heads bytes i ≡ accepted (parse_lone (head_field heads i type_field) (entry_at heads bytes i).value)
  unfolding sound_entry entry_at
  by_value h g u = rw (le-leb (head_field heads i name_length_field) max_name_length h, le-leb (head_field heads i value_length_field) max_value_size g, u)

  -- a type of two bytes is none, once the name is right
  pub wide_type : (name : List ℕ) → name ≡ (entry_at heads bytes i).name → head_field heads i name_length_field ≤ max_name_length
      → head_field heads i value_length_field ≤ max_value_size → is_utf8 name ≡ true → 255 < (entry_at heads bytes i).type → sound_entry heads bytes i ≡ false
  unfolding entry_at
  wide_type name n h g u t = by_value h g (rw n at u) ∙ type_unknown _ _ t

  -- the value decides, once the others hold
  pub value_decides : (name value : List ℕ) (type : ℕ) → name ≡ (entry_at heads bytes i).name → type ≡ (entry_at heads bytes i).type → value ≡ (entry_at heads bytes i).value
      → head_field heads i name_length_field ≤ max_name_length → head_field heads i value_length_field ≤ max_value_size → is_utf8 name ≡ true
      → is_ok (parse_lone type value) ≡ sound_entry heads bytes i
  unfolding entry_at
  value_decides name value type n t v h g u = rw (t, v) (accepted_is_ok _ ∙ sym (by_value h g (rw n at u)))

  -- ---- true gives the facts

  pub entry_facts : sound_entry heads bytes i ≡ true → (head_field heads i name_length_field ≤ max_name_length) × (head_field heads i value_length_field ≤ max_value_size) × WellFormed (entry_at heads bytes i)
  unfolding sound_entry entry_at
  entry_facts h =
      let e = entry_at heads bytes i in
      let a = leb (head_field heads i name_length_field) max_name_length in
      let b = leb (head_field heads i value_length_field) max_value_size in
      let v = accepted (parse_lone e.type e.value) in
      let last = (and-eq-true_iff (a && b && is_utf8 e.name) v).0 h in
      let text = (and-eq-true_iff (a && b) (is_utf8 e.name)).0 last.0 in
      let sizes = (and-eq-true_iff a b).0 text.0 in
      let n : head_field heads i name_length_field ≤ max_name_length = leb-true (head_field heads i name_length_field) max_name_length sizes.0 in (
        n,
        leb-true (head_field heads i value_length_field) max_value_size sizes.1,
        record {
          name_fits = omega (arith, length-take (head_field heads i name_length_field) (drop (name_start i) bytes));
          name_text = text.1;
          value_whole = accepted_value e.type e.value last.1;
        },
      )

  -- the facts give true
  pub facts_entry : head_field heads i name_length_field ≤ max_name_length → head_field heads i value_length_field ≤ max_value_size → WellFormed (entry_at heads bytes i) → sound_entry heads bytes i ≡ true
  unfolding entry_at
  facts_entry h g w =
      by_value h g w.name_text ∙ value_accepted (entry_at heads bytes i).type (entry_at heads bytes i).value w.value_whole
