-- Bytes whose reading ends with 1 are few: an assignment or an update of more is read whole, or refused by another number.
use Rattle.std.specs.Prelude.{Err, Ok}
use mathlib.Core.Path.{◌≡◌}
use mathlib.Core.Bool.{Bool, true, false}
use mathlib.Core.List.{List}
use Prim.Native.Nat.{ℕ, zero, suc, ◌+◌, ◌-◌, ◌*◌, ◌≤◌, ◌<◌}
use native.Mathlib.Omega.{arith}
use lib.Dec.{leb, eqb}
use lib.ListN.{length, get_or, drop, length-drop}
use borrow.Author.Tests.{leb-true, leb-false}
use Rattle.field.specs.Answer.{incomplete, wrong_id, unknown_id, unknown_type, bad_boolean, not_utf8, too_long}
use Rattle.field.specs.Choice.{pick}
use Rattle.field.specs.Field.{fault_at, and_then, moved_by, Parsed}
use Rattle.field.specs.Octets.{decode16}
use Rattle.field.specs.declared.Fault.{Fault}
use Rattle.field.proofs.ChoiceLaws.{by_test}
use Rattle.text.specs.Text.{prefix_size, parse_text}
use Rattle.value.specs.Value.{max_value_size, boolean_size, double_size, count_size, array_of, boolean, double, parse_boolean, parse_double, parse_element, count_fits, elements, parse_array, parse_value}
use Rattle.reader.specs.Reader.{parse_text_at, parse_value_at}
use Rattle.message.specs.Layout.{max_name_length, kind_size, id_behind_name, number_behind_name, value_behind_name, assignment_name_start, update_number_start, update_value_start}
use Rattle.message.specs.Read.{AssignmentRead, UpdateRead, an_assignment, an_update}
use Rattle.message.specs.Reader.{parse_behind_id, parse_after_name, parse_assignment, parse_behind_update_id, parse_update}
use Rattle.line_record.specs.Held.{longest_incomplete}

pub not_incomplete : {X : Type 0} (number : ℕ) → incomplete < number → number ≡ incomplete → X
not_incomplete number h e = absurd (omega arith)

-- ---- values

-- with 1 the bytes, and those of the array before them, are one more than the longest value at most; what is taken leaves Q
data Short (Q : ℕ → Type 0) (size : ℕ) (s : List ℕ) : Parsed → Type 0 where
  refused : {fault : Fault} → (fault.number ≡ incomplete → size + length s ≤ max_value_size + 1) → Short Q size s (Err fault)
  taken : {n : ℕ} → Q (size + n) → Short Q size s (Ok n)

module _ (Q : ℕ → Type 0) (size : ℕ) (s : List ℕ) where
  other : (number place : ℕ) → incomplete < number → Short Q size s (Err (fault_at number place))
  other number place h = refused (not_incomplete number h)

  -- the first n bytes are not there
  cut : (n place : ℕ) → size + n ≤ max_value_size + 2 → leb n (length s) ≡ false → Short Q size s (Err (fault_at incomplete place))
  cut n place h l = refused (λ _. omega (arith, leb-false n (length s) l))

  boolean_short : size + boolean_size ≤ max_value_size → Q (size + boolean_size) → Short Q size s (parse_boolean s)
  unfolding parse_boolean
  boolean_short h q =
      by_test (Short Q size s) (leb boolean_size (length s)) _ _ (λ _. by_test (Short Q size s) _ _ _ (λ _. taken q) (λ _. other bad_boolean 0 (omega arith)))
      (cut boolean_size 0 (omega arith))

  double_short : size + double_size ≤ max_value_size → Q (size + double_size) → Short Q size s (parse_double s)
  unfolding parse_double
  double_short h q = by_test (Short Q size s) (leb double_size (length s)) _ _ (λ _. taken q) (cut double_size 0 (omega arith))

  text_short : (most : ℕ) → most ≤ max_value_size → size ≤ max_value_size → ((n : ℕ) → n ≤ most → Q n) → Short Q size s (parse_text most size s)
  unfolding parse_text
  text_short most m h q =
      by_test (Short Q size s) (leb prefix_size (length s)) _ _ (λ _. by_test (Short Q size s) (leb (size + (prefix_size + decode16 s)) most) _ _
      (λ fits. by_test (Short Q size s) (leb (prefix_size + decode16 s) (length s)) _ _
      (λ _. by_test (Short Q size s) _ _ _ (λ _. taken (q (size + (prefix_size + decode16 s)) (leb-true (size + (prefix_size + decode16 s)) most fits))) (λ _. other not_utf8 prefix_size (omega arith)))
      (cut (prefix_size + decode16 s) prefix_size (omega (arith, leb-true (size + (prefix_size + decode16 s)) most fits)))) (λ _. other too_long 0 (omega arith)))
      (cut prefix_size 0 (omega arith))

-- so many elements, where there is room for them
Any : ℕ → Type 0
Any n = Unit {0}

elements_short : (Q : ℕ → ℕ → Type 0) (element : ℕ → List ℕ → Parsed) → ((count size : ℕ) (s : List ℕ) → Q (suc count) size → Short (Q count) size s (element size s))
    → (count size : ℕ) (s : List ℕ) → Q count size → Short Any size s (elements element count size s)
unfolding elements Any
elements_short Q element h zero size s q = taken tt
elements_short Q element h (suc count) size s q = go (elements_short Q element h count) (element size s) (h count size s q)
  where
    go : ((size : ℕ) (s : List ℕ) → Q count size → Short Any size s (elements element count size s)) → (r : Parsed) → Short (Q count) size s r
        → Short Any size s (and_then Err (moved_by size r) (λ n. elements element count (size + n) (drop n s)))
    go ih (Err fault) (refused f) = refused f
    go ih (Ok n) (taken q') = back (elements element count (size + n) (drop n s)) (ih (size + n) (drop n s) q')
      where
        back : (r : Parsed) → Short Any (size + n) (drop n s) r → Short Any size s r
        back (Err fault) (refused f) = refused (λ (e : fault.number ≡ incomplete). omega (arith, f e, length-drop n s))
        back (Ok k) f = taken tt

-- an array of Booleans, of Doubles, of Strings
kinds_short : (a b : Bool) (count : ℕ) (s : List ℕ) → pick a (leb (count_size + count) max_value_size) (pick b (leb (count_size + double_size * count) max_value_size) true) ≡ true
    → Short Any count_size s (elements (λ size. pick a parse_boolean (pick b parse_double (parse_text max_value_size size))) count count_size s)
unfolding pick
kinds_short true b count s f =
    elements_short (λ k size. size + k ≤ max_value_size) (λ size. parse_boolean)
    (λ k size t q. boolean_short (λ n. n + k ≤ max_value_size) size t (omega arith) (omega arith)) count count_size s (leb-true (count_size + count) max_value_size f)
kinds_short false true count s f =
    elements_short (λ k size. size + double_size * k ≤ max_value_size) (λ size. parse_double)
    (λ k size t q. double_short (λ n. n + double_size * k ≤ max_value_size) size t (omega arith) (omega arith)) count count_size s (leb-true (count_size + double_size * count) max_value_size f)
kinds_short false false count s f =
    elements_short (λ k size. size ≤ max_value_size) (parse_text max_value_size)
    (λ k size t q. text_short (λ n. n ≤ max_value_size) size t max_value_size (omega arith) q (λ n h. h)) count count_size s (omega arith)

one_short : (a b : Bool) (s : List ℕ) → Short Any 0 s (pick a parse_boolean (pick b parse_double (parse_text max_value_size 0)) s)
unfolding pick Any
one_short true b s = boolean_short Any 0 s (omega arith) tt
one_short false true s = double_short Any 0 s (omega arith) tt
one_short false false s = text_short Any 0 s max_value_size (omega arith) (omega arith) (λ n h. tt)

array_short : (element : ℕ) (s : List ℕ) → Short Any 0 s (parse_array element s)
unfolding parse_array parse_element count_fits Any
array_short element s =
    by_test (Short Any 0 s) (leb count_size (length s)) _ _
    (λ l. by_test (Short Any 0 s) _ _ _ (λ f. back (leb-true count_size (length s) l) _ (kinds_short (eqb element boolean) (eqb element double) (get_or s 0 0) (drop count_size s) f))
    (λ _. other Any 0 s too_long 0 (omega arith)))
    (cut Any 0 s count_size 0 (omega arith))
  where
    back : count_size ≤ length s → (r : Parsed) → Short Any count_size (drop count_size s) r → Short Any 0 s r
    back l (Err fault) (refused f) = refused (λ (e : fault.number ≡ incomplete). omega (arith, f e, length-drop count_size s))
    back l (Ok k) f = taken tt

AllShort : (List ℕ → Parsed) → Type 0
AllShort read = (s : List ℕ) → Short Any 0 s (read s)

value_short : (t : ℕ) (s : List ℕ) → Short Any 0 s (parse_value t s)
unfolding parse_value parse_element AllShort
value_short t s = all s
  where
    all : AllShort (parse_value t)
    all =
        by_test AllShort _ _ _ (λ _. λ r. one_short (eqb t boolean) (eqb t double) r) (λ _.
        by_test AllShort _ _ _ (λ _. λ r. array_short (t - array_of) r) (λ _. λ r. other Any 0 r unknown_type 0 (omega arith)))

-- ---- messages

pub data AssignmentShort (m : List ℕ) : AssignmentRead → Type 0 where
  refused : {fault : Fault} → (fault.number ≡ incomplete → length m ≤ longest_incomplete) → AssignmentShort m (Err fault)
  taken : {t id q n v : ℕ} → AssignmentShort m (an_assignment t id q n v)

pub data UpdateShort (m : List ℕ) : UpdateRead → Type 0 where
  refused : {fault : Fault} → (fault.number ≡ incomplete → length m ≤ longest_incomplete) → UpdateShort m (Err fault)
  taken : {id q v : ℕ} → UpdateShort m (an_update id q v)

cut_assignment : (m : List ℕ) (n place : ℕ) → n ≤ longest_incomplete → leb n (length m) ≡ false → AssignmentShort m (Err (fault_at incomplete place))
cut_assignment m n place h l = AssignmentShort.refused (λ _. omega (arith, leb-false n (length m) l))

other_assignment : (m : List ℕ) (number place : ℕ) → incomplete < number → AssignmentShort m (Err (fault_at number place))
other_assignment m number place h = AssignmentShort.refused (not_incomplete number h)

after_name_short : (allowed : ℕ → Bool) (at : ℕ) (m : List ℕ) → at ≤ assignment_name_start + max_name_length → AssignmentShort m (parse_after_name allowed at m)
unfolding parse_after_name parse_behind_id parse_value_at
after_name_short allowed at m h =
    by_test P (leb (at + id_behind_name) (length m)) _ _ (λ _. by_test P _ _ _ (λ _. by_test P (leb (at + number_behind_name) (length m)) _ _ (λ _. by_test P _ _ _
    (λ _. by_test P (leb (at + value_behind_name) (length m)) _ _ (λ _. go _ (value_short (get_or m at 0) (drop (at + value_behind_name) m)))
    (cut_assignment m (at + value_behind_name) (at + number_behind_name) (omega arith))) (λ _. other_assignment m wrong_id (at + id_behind_name) (omega arith)))
    (cut_assignment m (at + number_behind_name) (at + id_behind_name) (omega arith))) (λ _. other_assignment m unknown_type at (omega arith)))
    (cut_assignment m (at + id_behind_name) at (omega arith))
  where
    P : AssignmentRead → Type 0
    P = AssignmentShort m

    go : (r : Parsed) → Short Any 0 (drop (at + value_behind_name) m) r
        → P (and_then Err (moved_by (at + value_behind_name) r) (λ v. an_assignment (get_or m at 0) (decode16 (drop (at + id_behind_name) m)) (decode16 (drop (at + number_behind_name) m)) (at - assignment_name_start) v))
    go (Err fault) (Short.refused f) = AssignmentShort.refused (λ (e : fault.number ≡ incomplete). omega (arith, f e, length-drop (at + value_behind_name) m))
    go (Ok n) f = AssignmentShort.taken

pub assignment_short : (allowed : ℕ → Bool) (m : List ℕ) → AssignmentShort m (parse_assignment allowed m)
unfolding parse_assignment parse_text_at
assignment_short allowed m = go _ (text_short (λ n. n ≤ prefix_size + max_name_length) 0 (drop kind_size m) (prefix_size + max_name_length) (omega arith) (omega arith) (λ n h. h))
  where
    go : (r : Parsed) → Short (λ n. n ≤ prefix_size + max_name_length) 0 (drop kind_size m) r
        → AssignmentShort m (and_then Err (moved_by kind_size r) (λ size. parse_after_name allowed (kind_size + size) m))
    go (Err fault) (Short.refused f) = AssignmentShort.refused (λ (e : fault.number ≡ incomplete). omega (arith, f e, length-drop kind_size m))
    go (Ok n) (Short.taken h) = after_name_short allowed (kind_size + n) m (omega arith)

pub update_short : (held : ℕ → Bool) (type_of : ℕ → ℕ) (m : List ℕ) → UpdateShort m (parse_update held type_of m)
unfolding parse_update parse_behind_update_id parse_value_at
update_short held type_of m =
    by_test P (leb update_number_start (length m)) _ _ (λ _. by_test P _ _ _ (λ _. by_test P (leb update_value_start (length m)) _ _
    (λ _. go _ (value_short (type_of (decode16 (drop kind_size m))) (drop update_value_start m)))
    (cut_update update_value_start update_number_start (omega arith))) (λ _. UpdateShort.refused (not_incomplete unknown_id (omega arith))))
    (cut_update update_number_start kind_size (omega arith))
  where
    P : UpdateRead → Type 0
    P = UpdateShort m

    cut_update : (n place : ℕ) → n ≤ longest_incomplete → leb n (length m) ≡ false → P (Err (fault_at incomplete place))
    cut_update n place h l = UpdateShort.refused (λ _. omega (arith, leb-false n (length m) l))

    go : (r : Parsed) → Short Any 0 (drop update_value_start m) r
        → P (and_then Err (moved_by update_value_start r) (λ v. an_update (decode16 (drop kind_size m)) (decode16 (drop update_number_start m)) v))
    go (Err fault) (Short.refused f) = UpdateShort.refused (λ (e : fault.number ≡ incomplete). omega (arith, f e, length-drop update_value_start m))
    go (Ok n) f = UpdateShort.taken
