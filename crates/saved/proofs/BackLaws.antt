-- An entry's record is taken, and gives the entry back.
use Rattle.std.specs.Prelude.{Ok}
use mathlib.Core.Path.{◌≡◌, refl, sym, ap, ◌∙◌}
use mathlib.Core.List.{List, [], ◌∷◌, ◌++◌}
use Prim.Native.Nat.{ℕ, ◌+◌, ◌-◌, ◌≤◌}
use native.Mathlib.Omega.{arith}
use lib.ListN.{length, drop, get_or, replicate, length-append, length-replicate}
use lib.Seq.{drop-drop, get_or-drop, take-append_seam, drop-append_seam, take_at, drop_at}
use borrow.Author.Tests.{le-leb, eq-eqb}
use Rattle.field.specs.Choice.{pick}
use Rattle.field.specs.Octets.{decode16, encode16}
use Rattle.field.proofs.OctetsLaws.{decode_encode}
use Rattle.value.specs.Value.{max_value_size}
use Rattle.value.proofs.ValueLaws.{value_small, value_known, lone_taken}
use Rattle.message.specs.Layout.{Entry, WellFormed, max_name_length}
use Rattle.table.specs.Table.{part}
use Rattle.saved.specs.Form.{entry_kind, opening_size, name_place, type_place, number_place, value_length_place, value_place, entry_record_size, entry_record}
use Rattle.saved.specs.Reading.{name_length_in, type_in, value_length_in, record_entry, parse_opening, parse_filling, parse_name_in, parse_up_to_type, parse_value_in, parse_from_type, parse_record}
use Rattle.saved.proofs.ZeroLaws.{all_zero_lem}
use Rattle.saved.proofs.RecordLaws.{NamedFacts, ValuedFacts, record_then, record_then_lem}

-- ---- the facts give that the record is taken

pub opening_taken : (kind most : ℕ) (s : List ℕ) → get_or s 0 0 ≡ kind → get_or s 1 0 ≤ most → opening_size ≤ length s → parse_opening kind most s ≡ Ok opening_size
unfolding parse_opening pick
opening_taken kind most s e l h = rw (le-leb 1 (length s) (omega arith), eq-eqb (get_or s 0 0) kind e, le-leb opening_size (length s) h, le-leb (get_or s 1 0) most l)

named_taken : (s : List ℕ) → NamedFacts s → entry_record_size ≤ length s → parse_up_to_type s ≡ Ok type_place
unfolding parse_up_to_type parse_name_in parse_filling pick
named_taken s f h =
    rw (
      opening_taken entry_kind max_name_length s f.kind_is f.name_small (omega arith),
      le-leb (name_place + name_length_in s) (length s) (omega (arith, f.name_small)),
      f.name_text,
      le-leb type_place (length s) (omega arith),
      f.name_filled,
    )

valued_taken : (s : List ℕ) → ValuedFacts s → parse_from_type s ≡ Ok entry_record_size
unfolding parse_from_type parse_value_in parse_filling pick
valued_taken s g =
    rw (
      le-leb number_place (length s) (omega (arith, g.whole)),
      value_known (type_in s) (part value_place (value_length_in s) s) _ g.value_is,
      le-leb value_length_place (length s) (omega (arith, g.whole)),
      le-leb value_place (length s) (omega (arith, g.whole)),
      le-leb (value_length_in s) max_value_size g.value_small,
      le-leb (value_place + value_length_in s) (length s) (omega (arith, g.whole, g.value_small)),
      lone_taken (type_in s) (part value_place (value_length_in s) s) g.value_is,
      le-leb entry_record_size (length s) g.whole,
      g.value_filled,
    )

facts_taken : (s : List ℕ) → NamedFacts s → ValuedFacts s → parse_record s ≡ Ok entry_record_size
unfolding parse_record
facts_taken s f g = rw (named_taken s f g.whole) (valued_taken s g)

-- ---- how long a record is

length_then : (e : Entry) (rest : List ℕ) → length e.name ≤ max_name_length → length e.value ≤ max_value_size
    → length (record_then e rest) ≡ entry_record_size + length rest
unfolding record_then encode16
length_then e rest h g = simp (length-append, length-replicate) (omega (arith, h, g))

pub length_record : (e : Entry) → length e.name ≤ max_name_length → length e.value ≤ max_value_size → length (entry_record e) ≡ entry_record_size
length_record e h g = go (length_then e [] h g)
  where
    go : length (record_then e []) ≡ entry_record_size + 0 → length (entry_record e) ≡ entry_record_size
    go l = omega (arith, l, ap length (record_then_lem e []), length-append (entry_record e) [])

-- ---- the fields of a record and what follows

module _ (e : Entry) (rest : List ℕ) (w : WellFormed e) where
  abbrev s : List ℕ
  s = record_then e rest

  abbrev n : ℕ
  n = length e.name

  abbrev v : ℕ
  v = length e.value

  small : v ≤ max_value_size
  small = value_small e.type e.value v w.value_whole

  abbrev behind_value : List ℕ
  behind_value = replicate (max_value_size - v) 0 ++ rest

  abbrev behind_type : List ℕ
  behind_type = encode16 e.number ++ (encode16 v ++ (e.value ++ behind_value))

  abbrev behind_name : List ℕ
  behind_name = replicate (max_name_length - n) 0 ++ (e.type ∷ behind_type)

  length_at : name_length_in s ≡ n
  unfolding record_then
  length_at = refl

  from_name : drop name_place s ≡ e.name ++ behind_name
  unfolding record_then
  from_name = refl

  name_at : part name_place (name_length_in s) s ≡ e.name
  name_at = rw (length_at, from_name) (take-append_seam e.name behind_name)

  from_name_filling : drop (name_place + n) s ≡ behind_name
  from_name_filling = sym (drop-drop n name_place s) ∙ rw from_name (drop-append_seam e.name behind_name)

  name_zeros : part (name_place + name_length_in s) (type_place - (name_place + name_length_in s)) s ≡ replicate (max_name_length - n) 0
  name_zeros =
      let k : type_place - (name_place + n) ≡ max_name_length - n = omega arith in
      rw (length_at, k, from_name_filling) (take_at (replicate (max_name_length - n) 0) (e.type ∷ behind_type) (max_name_length - n) (length-replicate (max_name_length - n) 0))

  from_type : drop type_place s ≡ e.type ∷ behind_type
  from_type =
      let k : type_place ≡ name_place + n + (max_name_length - n) = omega (arith, w.name_fits) in
      ap (λ (m : ℕ). drop m s) k ∙ sym (drop-drop (max_name_length - n) (name_place + n) s)
      ∙ rw from_name_filling (drop_at (replicate (max_name_length - n) 0) (e.type ∷ behind_type) (max_name_length - n) (length-replicate (max_name_length - n) 0))

  type_at : type_in s ≡ e.type
  type_at = sym (get_or-drop type_place s 0 0) ∙ ap (λ (l : List ℕ). get_or l 0 0) from_type

  from_number : drop number_place s ≡ behind_type
  from_number = sym (drop-drop 1 type_place s) ∙ ap (drop 1) from_type

  number_at : decode16 (drop number_place s) ≡ e.number
  number_at = rw from_number (decode_encode e.number (encode16 v ++ (e.value ++ behind_value)))

  from_length : drop value_length_place s ≡ encode16 v ++ (e.value ++ behind_value)
  unfolding encode16
  from_length = sym (drop-drop 2 number_place s) ∙ ap (drop 2) from_number

  value_length_at : value_length_in s ≡ v
  value_length_at = rw from_length (decode_encode v (e.value ++ behind_value))

  from_value : drop value_place s ≡ e.value ++ behind_value
  unfolding encode16
  from_value = sym (drop-drop 2 value_length_place s) ∙ ap (drop 2) from_length

  value_at : part value_place (value_length_in s) s ≡ e.value
  value_at = rw (value_length_at, from_value) (take-append_seam e.value behind_value)

  from_value_filling : drop (value_place + v) s ≡ behind_value
  from_value_filling = sym (drop-drop v value_place s) ∙ rw from_value (drop-append_seam e.value behind_value)

  value_zeros : part (value_place + value_length_in s) (entry_record_size - (value_place + value_length_in s)) s ≡ replicate (max_value_size - v) 0
  value_zeros =
      let k : entry_record_size - (value_place + v) ≡ max_value_size - v = omega arith in
      rw (value_length_at, k, from_value_filling) (take_at (replicate (max_value_size - v) 0) rest (max_value_size - v) (length-replicate (max_value_size - v) 0))

  behind : drop entry_record_size s ≡ rest
  behind =
      let k : entry_record_size ≡ value_place + v + (max_value_size - v) = omega (arith, small) in
      ap (λ (m : ℕ). drop m s) k ∙ sym (drop-drop (max_value_size - v) (value_place + v) s)
      ∙ rw from_value_filling (drop_at (replicate (max_value_size - v) 0) rest (max_value_size - v) (length-replicate (max_value_size - v) 0))

  named : NamedFacts s
  unfolding record_then
  named =
      record {
        kind_is = refl;
        name_small = omega (arith, length_at, w.name_fits);
        name_text = rw name_at w.name_text;
        name_filled = rw name_zeros (all_zero_lem (max_name_length - n));
      }

  valued : ValuedFacts s
  valued =
      record {
        whole = omega (arith, length_then e rest w.name_fits small);
        value_small = omega (arith, value_length_at, small);
        value_is = rw (type_at, value_at) w.value_whole;
        value_filled = rw value_zeros (all_zero_lem (max_value_size - v));
      }

  pub record_taken : parse_record (entry_record e ++ rest) ≡ Ok entry_record_size
  record_taken = rw (record_then_lem e rest) (facts_taken s named valued)

  pub record_rest : drop entry_record_size (entry_record e ++ rest) ≡ rest
  record_rest = rw (record_then_lem e rest) behind

  pub record_entry_lem : record_entry (entry_record e ++ rest) ≡ e
  unfolding record_entry
  record_entry_lem = rw (record_then_lem e rest) (λ i. record { name = name_at i; type = type_at i; number = number_at i; value = value_at i })
