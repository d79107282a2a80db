-- An entry's record: what is read of one that is taken, and that it is the record of that entry.
use Rattle.std.specs.Prelude.{Err, Ok}
use mathlib.Core.Path.{◌≡◌, refl, sym, ap, ◌∙◌}
use mathlib.Core.Bool.{true}
use mathlib.Core.List.{List, ◌∷◌, ◌++◌, append_assoc}
use Prim.Native.Nat.{ℕ, suc, ◌+◌, ◌-◌, ◌*◌, ◌/◌, ◌%◌, ◌≤◌}
use native.Mathlib.Numerals.{add-one}
use native.Mathlib.Omega.{arith}
use lib.ListN.{length, drop, get_or, replicate, length-take, length-drop, take-append-drop}
use lib.Seq.{drop-cons, drop-drop, length-take-le}
use borrow.Author.Tests.{leb-true, eqb-true}
use Rattle.field.specs.Answer.{incomplete, unknown_kind, unknown_type, not_utf8, too_long, bad_filling}
use Rattle.field.specs.Octets.{decode16, encode16}
use Rattle.field.specs.Field.{fault_at, fault_of, moved_by, and_then, Parsed}
use Rattle.field.specs.declared.Fault.{Fault}
use Rattle.field.proofs.ChoiceLaws.{by_test}
use Rattle.field.proofs.OctetsLaws.{decode_at}
use Rattle.utf8.specs.Utf8.{is_utf8}
use Rattle.value.specs.Value.{max_value_size, IsValue, parse_lone}
use Rattle.value.proofs.ValueLaws.{LoneIs, lone_is, lone_place}
use Rattle.message.specs.Layout.{Entry, WellFormed, max_name_length}
use Rattle.message.specs.Reader.{Bytes}
use Rattle.message.proofs.RefusalLaws.{RefusedRightly, lone_rightly}
use Rattle.table.specs.Table.{part}
use Rattle.saved.specs.Form.{entry_kind, opening_size, name_place, type_place, number_place, value_length_place, value_place, entry_record_size, filled, entry_record}
use Rattle.saved.specs.Reading.{all_zero, name_length_in, type_in, value_length_in, record_entry, parse_opening, parse_filling, parse_name_in, parse_up_to_type, parse_value_in, parse_from_type, parse_record}
use Rattle.saved.proofs.ZeroLaws.{zeros}

-- ---- how a record opens

pub data OpeningIs (kind most : ℕ) (s : List ℕ) : Parsed → Type 0 where
  refused : {fault : Fault} → 1 ≤ fault.number → fault.place ≤ 1 → OpeningIs kind most s (Err fault)
  opened : get_or s 0 0 ≡ kind → get_or s 1 0 ≤ most → opening_size ≤ length s → OpeningIs kind most s (Ok opening_size)

pub opening_is : (kind most : ℕ) (s : List ℕ) → OpeningIs kind most s (parse_opening kind most s)
unfolding parse_opening
opening_is kind most s =
    by_test Is _ _ _ (λ _.
    by_test Is _ _ _ (λ same.
    by_test Is _ _ _ (λ there.
    by_test Is _ _ _ (λ small. OpeningIs.opened (eqb-true _ _ same) (leb-true _ _ small) (leb-true _ _ there))
    (λ _. no_opening too_long 1 (omega arith) (omega arith))) (λ _. no_opening incomplete 1 (omega arith) (omega arith)))
    (λ _. no_opening unknown_kind 0 (omega arith) (omega arith))) (λ _. no_opening incomplete 0 (omega arith) (omega arith))
  where
    Is : Parsed → Type 0
    Is = OpeningIs kind most s

    no_opening : (number place : ℕ) → 1 ≤ number → place ≤ 1 → OpeningIs kind most s (Err (fault_at number place))
    no_opening number place h l = OpeningIs.refused {fault = fault_at number place} h l

pub opening_facts : (kind most : ℕ) (s : List ℕ) (n : ℕ) → parse_opening kind most s ≡ Ok n → (n ≡ opening_size) × (get_or s 1 0 ≤ most) × (opening_size ≤ length s)
opening_facts kind most s n e = go n (rw e at (opening_is kind most s))
  where
    go : (m : ℕ) → OpeningIs kind most s (Ok m) → (m ≡ opening_size) × (get_or s 1 0 ≤ most) × (opening_size ≤ length s)
    go m (OpeningIs.opened same small there) = (refl, small, there)

-- ---- what a record that is taken has

pub record NamedFacts (s : List ℕ) : Type 0 where
  pub kind_is : get_or s 0 0 ≡ entry_kind
  pub name_small : name_length_in s ≤ max_name_length
  pub name_text : is_utf8 (part name_place (name_length_in s) s) ≡ true
  pub name_filled : all_zero (part (name_place + name_length_in s) (type_place - (name_place + name_length_in s)) s) ≡ true

pub record ValuedFacts (s : List ℕ) : Type 0 where
  pub whole : entry_record_size ≤ length s
  pub value_small : value_length_in s ≤ max_value_size
  pub value_is : IsValue (type_in s) (part value_place (value_length_in s) s)
  pub value_filled : all_zero (part (value_place + value_length_in s) (entry_record_size - (value_place + value_length_in s)) s) ≡ true

-- a refusal, and what holds of what is taken
data NamedIs (s : List ℕ) : Parsed → Type 0 where
  refused : {fault : Fault} → 1 ≤ fault.number → fault.place ≤ entry_record_size → NamedIs s (Err fault)
  taken : NamedFacts s → NamedIs s (Ok type_place)

data ValuedIs (s : List ℕ) : Parsed → Type 0 where
  refused : {fault : Fault} → 1 ≤ fault.number → fault.place ≤ entry_record_size → ValuedIs s (Err fault)
  taken : ValuedFacts s → ValuedIs s (Ok entry_record_size)

pub data RecordIs (s : List ℕ) : Parsed → Type 0 where
  refused : {fault : Fault} → 1 ≤ fault.number → fault.place ≤ entry_record_size → RecordIs s (Err fault)
  taken : NamedFacts s → ValuedFacts s → RecordIs s (Ok entry_record_size)

no_name : {s : List ℕ} (number place : ℕ) → 1 ≤ number → place ≤ entry_record_size → NamedIs s (Err (fault_at number place))
no_name number place h l = NamedIs.refused {fault = fault_at number place} h l

no_value : {s : List ℕ} (number place : ℕ) → 1 ≤ number → place ≤ entry_record_size → ValuedIs s (Err (fault_at number place))
no_value number place h l = ValuedIs.refused {fault = fault_at number place} h l

named_is : (s : List ℕ) → NamedIs s (parse_up_to_type s)
unfolding parse_up_to_type parse_name_in parse_filling
named_is s = go (parse_opening entry_kind max_name_length s) (opening_is entry_kind max_name_length s)
  where
    named : get_or s 0 0 ≡ entry_kind → name_length_in s ≤ max_name_length → NamedIs s (parse_name_in s)
    named kind small =
        let behind : name_place + name_length_in s ≤ entry_record_size = omega arith in
        by_test (NamedIs s) _ _ _ (λ h1.
        by_test (NamedIs s) _ _ _ (λ text.
        by_test (NamedIs s) _ _ _ (λ h2.
        by_test (NamedIs s) _ _ _ (λ fill.
        NamedIs.taken (record { kind_is = kind; name_small = small; name_text = text; name_filled = fill }))
        (λ _. no_name bad_filling (name_place + name_length_in s) (omega arith) behind)) (λ _. no_name incomplete (name_place + name_length_in s) (omega arith) behind))
        (λ _. no_name not_utf8 name_place (omega arith) (omega arith))) (λ _. no_name incomplete name_place (omega arith) (omega arith))

    go : (r : Parsed) → OpeningIs entry_kind max_name_length s r → NamedIs s (and_then Err r (λ n. parse_name_in s))
    go (Err fault) (OpeningIs.refused h l) = NamedIs.refused {fault = fault} h (omega (arith, l))
    go (Ok n) (OpeningIs.opened kind small there) = named kind small

valued_is : (s : List ℕ) → ValuedIs s (parse_from_type s)
unfolding parse_from_type parse_value_in parse_filling
valued_is s =
    by_test (ValuedIs s) _ _ _ (λ h1.
    by_test (ValuedIs s) _ _ _ (λ known.
    by_test (ValuedIs s) _ _ _ (λ h2.
    by_test (ValuedIs s) _ _ _ (λ h3.
    by_test (ValuedIs s) _ _ _ (λ small.
    by_test (ValuedIs s) _ _ _ (λ h4.
    go (leb-true _ _ small) (parse_lone (type_in s) stored) (lone_rightly (type_in s) stored) (lone_place (type_in s) stored) (lone_is (type_in s) stored))
    (λ _. no_value incomplete value_place (omega arith) (omega arith))) (λ _. no_value too_long value_length_place (omega arith) (omega arith)))
    (λ _. no_value incomplete value_length_place (omega arith) (omega arith))) (λ _. no_value incomplete number_place (omega arith) (omega arith)))
    (λ _. no_value unknown_type type_place (omega arith) (omega arith))) (λ _. no_value incomplete type_place (omega arith) (omega arith))
  where
    stored : List ℕ
    stored = part value_place (value_length_in s) s

    behind : value_length_in s ≤ max_value_size → IsValue (type_in s) stored → ValuedIs s (parse_filling (value_place + value_length_in s) entry_record_size s)
    behind small v =
        let short : value_place + value_length_in s ≤ entry_record_size = omega arith in
        by_test (ValuedIs s) _ _ _ (λ h.
        by_test (ValuedIs s) _ _ _ (λ fill.
        ValuedIs.taken (record { whole = leb-true _ _ h; value_small = small; value_is = v; value_filled = fill }))
        (λ _. no_value bad_filling (value_place + value_length_in s) (omega arith) short)) (λ _. no_value incomplete (value_place + value_length_in s) (omega arith) short)

    go : value_length_in s ≤ max_value_size → (r : Parsed) → RefusedRightly r → (fault_of r).place ≤ length stored → LoneIs (type_in s) stored r
        → ValuedIs s (and_then Err (moved_by value_place r) (λ n. parse_filling (value_place + value_length_in s) entry_record_size s))
    go small (Err fault) (RefusedRightly.refused h) l LoneIs.refused =
        no_value fault.number (value_place + fault.place) h.above (omega (arith, l, small, length-take (value_length_in s) (drop value_place s)))
    go small (Ok n) h l (LoneIs.taken m v) = behind small v

pub record_is : (s : List ℕ) → RecordIs s (parse_record s)
unfolding parse_record
record_is s = go (parse_up_to_type s) (named_is s)
  where
    end : NamedFacts s → (r : Parsed) → ValuedIs s r → RecordIs s r
    end f (Err fault) (ValuedIs.refused h l) = RecordIs.refused h l
    end f (Ok n) (ValuedIs.taken g) = RecordIs.taken f g

    go : (r : Parsed) → NamedIs s r → RecordIs s (and_then Err r (λ n. parse_from_type s))
    go (Err fault) (NamedIs.refused h l) = RecordIs.refused h l
    go (Ok n) (NamedIs.taken f) = end f (parse_from_type s) (valued_is s)

-- ---- a record and what follows, field by field

unfoldable pub record_then : Entry → List ℕ → List ℕ
record_then e rest =
    entry_kind ∷ length e.name
    ∷ (e.name ++ (replicate (max_name_length - length e.name) 0
    ++ (e.type ∷ (encode16 e.number ++ (encode16 (length e.value) ++ (e.value ++ (replicate (max_value_size - length e.value) 0 ++ rest)))))))

pub record_then_lem : (e : Entry) (rest : List ℕ) → entry_record e ++ rest ≡ record_then e rest
unfolding entry_record record_then filled encode16
record_then_lem e rest = simp append_assoc

-- ---- parts

split_part : (k n : ℕ) (s : List ℕ) → drop k s ≡ part k n s ++ drop (k + n) s
split_part k n s = sym (take-append-drop n (drop k s)) ∙ ap (λ (l : List ℕ). part k n s ++ l) (drop-drop n k s)

length_part : (k n : ℕ) (s : List ℕ) → k + n ≤ length s → length (part k n s) ≡ n
length_part k n s h = length-take-le n (drop k s) (omega (arith, length-drop k s))

-- zeros from one place to another
zero_part : (from to n : ℕ) (s : List ℕ) → from + n ≡ to → to ≤ length s → all_zero (part from (to - from) s) ≡ true → drop from s ≡ replicate n 0 ++ drop to s
zero_part from to n s e h z =
    let k : to - from ≡ n = omega arith in
    let there : all_zero (part from n s) ≡ true = rw k at z in
    let all : part from n s ≡ replicate n 0 = zeros (part from n s) there ∙ ap (λ (m : ℕ). replicate m 0) (length_part from n s (omega arith)) in
    split_part from n s ∙ rw (all, e)

encode_at : (k : ℕ) (s : List ℕ) → Bytes s → k + 2 ≤ length s → drop k s ≡ encode16 (decode16 (drop k s)) ++ drop (k + 2) s
unfolding encode16
encode_at k s o h =
    let high : (get_or s k 0 * 256 + get_or s (k + 1) 0) / 256 ≡ get_or s k 0 = omega (arith, o (k + 1)) in
    let low : (get_or s k 0 * 256 + get_or s (k + 1) 0) % 256 ≡ get_or s (k + 1) 0 = omega (arith, o (k + 1)) in
    let one : drop k s ≡ get_or s k 0 ∷ drop (k + 1) s = rw add-one (drop-cons s k 0 (omega arith)) in
    let k2 : suc (k + 1) ≡ k + 2 = omega arith in
    let two : drop (k + 1) s ≡ get_or s (k + 1) 0 ∷ drop (k + 2) s = rw k2 at (drop-cons s (k + 1) 0 (omega arith)) in
    let whole : get_or s k 0 ∷ get_or s (k + 1) 0 ∷ drop (k + 2) s ≡ encode16 (decode16 (drop k s)) ++ drop (k + 2) s = rw (decode_at s k, high, low) in
    one ∙ ap (λ (l : List ℕ). get_or s k 0 ∷ l) two ∙ whole

-- ---- the record is its entry's

module _ (s : List ℕ) (f : NamedFacts s) (g : ValuedFacts s) where
  name_long : length (record_entry s).name ≡ name_length_in s
  unfolding record_entry
  name_long = length_part name_place (name_length_in s) s (omega (arith, f.name_small, g.whole))

  value_long : length (record_entry s).value ≡ value_length_in s
  unfolding record_entry
  value_long = length_part value_place (value_length_in s) s (omega (arith, g.value_small, g.whole))

  pub entry_obeys : WellFormed (record_entry s)
  unfolding record_entry
  entry_obeys =
      let v : IsValue (type_in s) (part value_place (value_length_in s) s) = g.value_is in
      record { name_fits = omega (arith, name_long, f.name_small); name_text = f.name_text; value_whole = v }

  module _ (o : Bytes s) where
    from_0 : s ≡ entry_kind ∷ length (record_entry s).name ∷ drop name_place s
    from_0 =
        let a : drop 0 s ≡ get_or s 0 0 ∷ drop 1 s = drop-cons s 0 0 (omega (arith, g.whole)) in
        let b : drop 1 s ≡ get_or s 1 0 ∷ drop 2 s = drop-cons s 1 0 (omega (arith, g.whole)) in
        a ∙ ap (λ (l : List ℕ). get_or s 0 0 ∷ l) b ∙ rw (f.kind_is, name_long)

    from_name : drop name_place s ≡ (record_entry s).name ++ drop (name_place + name_length_in s) s
    unfolding record_entry
    from_name = split_part name_place (name_length_in s) s

    behind_name : drop (name_place + name_length_in s) s ≡ replicate (max_name_length - length (record_entry s).name) 0 ++ drop type_place s
    behind_name =
        zero_part (name_place + name_length_in s) type_place (max_name_length - length (record_entry s).name) s (omega (arith, f.name_small, name_long))
        (omega (arith, g.whole)) f.name_filled

    from_type : drop type_place s ≡ (record_entry s).type ∷ drop number_place s
    unfolding record_entry
    from_type = drop-cons s type_place 0 (omega (arith, g.whole))

    from_number : drop number_place s ≡ encode16 (record_entry s).number ++ drop value_length_place s
    unfolding record_entry
    from_number = encode_at number_place s o (omega (arith, g.whole))

    from_length : drop value_length_place s ≡ encode16 (length (record_entry s).value) ++ drop value_place s
    from_length = encode_at value_length_place s o (omega (arith, g.whole)) ∙ rw value_long

    from_value : drop value_place s ≡ (record_entry s).value ++ drop (value_place + value_length_in s) s
    unfolding record_entry
    from_value = split_part value_place (value_length_in s) s

    behind_value : drop (value_place + value_length_in s) s ≡ replicate (max_value_size - length (record_entry s).value) 0 ++ drop entry_record_size s
    behind_value =
        zero_part (value_place + value_length_in s) entry_record_size (max_value_size - length (record_entry s).value) s (omega (arith, g.value_small, value_long))
        g.whole g.value_filled

    pub record_of_entry : s ≡ entry_record (record_entry s) ++ drop entry_record_size s
    record_of_entry = all ∙ sym (record_then_lem (record_entry s) (drop entry_record_size s))
      where
        all : s ≡ record_then (record_entry s) (drop entry_record_size s)
        all =
            unfold record_then in
            from_0
            ∙ ap (λ (l : List ℕ). entry_kind ∷ length (record_entry s).name ∷ l) (from_name
            ∙ ap (λ (l : List ℕ). (record_entry s).name ++ l) (behind_name
            ∙ ap (λ (l : List ℕ). replicate (max_name_length - length (record_entry s).name) 0 ++ l) (from_type
            ∙ ap (λ (l : List ℕ). (record_entry s).type ∷ l) (from_number
            ∙ ap (λ (l : List ℕ). encode16 (record_entry s).number ++ l) (from_length
            ∙ ap (λ (l : List ℕ). encode16 (length (record_entry s).value) ++ l) (from_value
            ∙ ap (λ (l : List ℕ). (record_entry s).value ++ l) behind_value))))))
