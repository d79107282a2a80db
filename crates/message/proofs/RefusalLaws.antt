-- "A refusal (1 to 14)": the number of every refusal of a reader.
use Rattle.message.specs.Read.{AssignmentRead, UpdateRead, an_assignment, an_update}
use Rattle.std.specs.Prelude.{Err, Ok}
use mathlib.Core.Bool.{Bool}
use mathlib.Core.List.{List}
use Prim.Native.Nat.{ℕ, zero, suc, ◌+◌, ◌-◌, ◌≤◌}
use native.Mathlib.Omega.{arith}
use lib.Dec.{eqb}
use lib.ListN.{length, get_or, drop}
use Rattle.field.specs.Answer.{too_long, RefusalNumber}
use Rattle.field.specs.Choice.{demand}
use Rattle.field.specs.Octets.{decode16}
use Rattle.field.specs.Field.{fault_at, and_then, moved_by, Parsed}
use Rattle.field.specs.declared.Fault.{Fault}
use Rattle.field.proofs.ChoiceLaws.{by_test}
use Rattle.text.specs.Text.{parse_text}
use Rattle.value.specs.Value.{max_value_size, parse_boolean, parse_double, parse_element, elements, parse_array, parse_value, parse_lone}
use Rattle.reader.specs.Reader.{parse_text_at, parse_value_at}
use Rattle.message.specs.Reader.{parse_behind_id, parse_after_name, parse_assignment, parse_behind_update_id, parse_update}

pub refusal_number : (number : ℕ) → 1 ≤ number → number ≤ 14 → RefusalNumber number
refusal_number number a b = record { above = a; below = b }

-- ---- values and names

pub data RefusedRightly : Parsed → Type 0 where
  refused : {fault : Fault} → RefusalNumber fault.number → RefusedRightly (Err fault)
  taken : {n : ℕ} → RefusedRightly (Ok n)

pub numbered : (number place : ℕ) → 1 ≤ number → number ≤ 14 → RefusedRightly (Err (fault_at number place))
numbered number place a b = refused (refusal_number number a b)

pub moved_rightly : (at : ℕ) (r : Parsed) → RefusedRightly r → RefusedRightly (moved_by at r)
moved_rightly at (Err fault) (refused h) = refused h
moved_rightly at (Ok n) f = taken

text_rightly : (maxSize sizeSoFar : ℕ) (s : List ℕ) → RefusedRightly (parse_text maxSize sizeSoFar s)
unfolding parse_text
text_rightly maxSize sizeSoFar s =
    by_test RefusedRightly _ _ _ (λ _. by_test RefusedRightly _ _ _ (λ _. by_test RefusedRightly _ _ _ (λ _. by_test RefusedRightly _ _ _ (λ _. taken)
    (λ _. numbered 9 2 (omega arith) (omega arith))) (λ _. numbered 1 2 (omega arith) (omega arith))) (λ _. numbered 10 0 (omega arith) (omega arith)))
    (λ _. numbered 1 0 (omega arith) (omega arith))

AllRightly : (List ℕ → Parsed) → Type 0
AllRightly read = (s : List ℕ) → RefusedRightly (read s)

element_rightly : (element sizeSoFar : ℕ) → AllRightly (parse_element element sizeSoFar)
unfolding AllRightly parse_element parse_boolean parse_double
element_rightly element sizeSoFar =
    by_test AllRightly (eqb element 0) _ _ (λ _. λ s.
    by_test RefusedRightly _ _ _ (λ _. by_test RefusedRightly _ _ _ (λ _. taken) (λ _. numbered 8 0 (omega arith) (omega arith))) (λ _. numbered 1 0 (omega arith) (omega arith)))
    (λ _. by_test AllRightly (eqb element 1) _ _ (λ _. λ s. by_test RefusedRightly _ _ _ (λ _. taken) (λ _. numbered 1 0 (omega arith) (omega arith)))
    (λ _. λ s. text_rightly max_value_size sizeSoFar s))

elements_rightly : (element : ℕ → List ℕ → Parsed) → ((size : ℕ) (s : List ℕ) → RefusedRightly (element size s)) → (count size : ℕ) (s : List ℕ)
    → RefusedRightly (elements element count size s)
unfolding elements
elements_rightly element h zero size s = taken
elements_rightly element h (suc count) size s = go (elements_rightly element h count) (element size s) (h size s)
  where
    go : ((size : ℕ) (s : List ℕ) → RefusedRightly (elements element count size s)) → (r : Parsed) → RefusedRightly r
        → RefusedRightly (and_then Err (moved_by size r) (λ n. elements element count (size + n) (drop n s)))
    go ih (Err fault) (refused f) = refused f
    go ih (Ok n) f = ih (size + n) (drop n s)

array_rightly : (element : ℕ) → AllRightly (parse_array element)
unfolding AllRightly parse_array
array_rightly element s =
    by_test RefusedRightly _ _ _ (λ _. by_test RefusedRightly _ _ _
    (λ _. elements_rightly (parse_element element) (λ size t. unfold AllRightly in element_rightly element size t) (get_or s 0 0) 1 (drop 1 s))
    (λ _. numbered 10 0 (omega arith) (omega arith))) (λ _. numbered 1 0 (omega arith) (omega arith))

pub value_rightly : (t : ℕ) (s : List ℕ) → RefusedRightly (parse_value t s)
unfolding parse_value AllRightly
value_rightly t s = all s
  where
    all : AllRightly (parse_value t)
    all =
        by_test AllRightly _ _ _ (λ _. element_rightly t 0) (λ _.
        by_test AllRightly _ _ _ (λ _. array_rightly (t - 0x10)) (λ _. λ r. numbered 7 0 (omega arith) (omega arith)))

pub lone_rightly : (t : ℕ) (v : List ℕ) → RefusedRightly (parse_lone t v)
unfolding parse_lone
lone_rightly t v = go (parse_value t v) (value_rightly t v)
  where
    go : (r : Parsed) → RefusedRightly r → RefusedRightly (and_then Err r (λ n. demand (eqb n (length v)) (Err (fault_at too_long n)) (Ok n)))
    go (Err fault) (refused f) = refused f
    go (Ok n) f = by_test RefusedRightly _ _ _ (λ _. taken) (λ _. numbered 10 n (omega arith) (omega arith))

-- ---- messages

pub data AssignmentRefused : AssignmentRead → Type 0 where
  refused : {fault : Fault} → RefusalNumber fault.number → AssignmentRefused (Err fault)
  taken : {n t id q v : ℕ} → AssignmentRefused (an_assignment t id q n v)

pub data UpdateRefused : UpdateRead → Type 0 where
  refused : {fault : Fault} → RefusalNumber fault.number → UpdateRefused (Err fault)
  taken : {id q v : ℕ} → UpdateRefused (an_update id q v)

numbered_assignment : (number place : ℕ) → 1 ≤ number → number ≤ 14 → AssignmentRefused (Err (fault_at number place))
numbered_assignment number place a b = AssignmentRefused.refused (refusal_number number a b)

numbered_update : (number place : ℕ) → 1 ≤ number → number ≤ 14 → UpdateRefused (Err (fault_at number place))
numbered_update number place a b = UpdateRefused.refused (refusal_number number a b)

after_name_rightly : (allowed : ℕ → Bool) (at : ℕ) (m : List ℕ) → AssignmentRefused (parse_after_name allowed at m)
unfolding parse_after_name parse_behind_id parse_value_at
after_name_rightly allowed at m =
    by_test P _ _ _ (λ _. by_test P _ _ _ (λ _. by_test P _ _ _ (λ _. by_test P _ _ _ (λ _. by_test P _ _ _ (λ _.
    go _ (moved_rightly (at + 5) _ (value_rightly (get_or m at 0) (drop (at + 5) m))))
    (λ _. numbered_assignment 1 (at + 3) (omega arith) (omega arith))) (λ _. numbered_assignment 5 (at + 1) (omega arith) (omega arith)))
    (λ _. numbered_assignment 1 (at + 1) (omega arith) (omega arith))) (λ _. numbered_assignment 7 at (omega arith) (omega arith)))
    (λ _. numbered_assignment 1 at (omega arith) (omega arith))
  where
    P : AssignmentRead → Type 0
    P = AssignmentRefused

    go : (r : Parsed) → RefusedRightly r → P (and_then Err r (λ v. an_assignment (get_or m at 0) (decode16 (drop (at + 1) m)) (decode16 (drop (at + 3) m)) (at - 3) v))
    go (Err fault) (RefusedRightly.refused f) = AssignmentRefused.refused f
    go (Ok n) f = AssignmentRefused.taken

pub assignment_rightly : (allowed : ℕ → Bool) (m : List ℕ) → AssignmentRefused (parse_assignment allowed m)
unfolding parse_assignment parse_text_at
assignment_rightly allowed m = go _ (moved_rightly 1 _ (text_rightly 66 0 (drop 1 m)))
  where
    go : (r : Parsed) → RefusedRightly r → AssignmentRefused (and_then Err r (λ size. parse_after_name allowed (1 + size) m))
    go (Err fault) (RefusedRightly.refused f) = AssignmentRefused.refused f
    go (Ok n) f = after_name_rightly allowed (1 + n) m

pub update_rightly : (held : ℕ → Bool) (type_of : ℕ → ℕ) (m : List ℕ) → UpdateRefused (parse_update held type_of m)
unfolding parse_behind_update_id parse_update parse_value_at
update_rightly held type_of m =
    by_test UpdateRefused _ _ _ (λ _. by_test UpdateRefused _ _ _ (λ _. by_test UpdateRefused _ _ _ (λ _.
    go _ (moved_rightly 5 _ (value_rightly (type_of (decode16 (drop 1 m))) (drop 5 m))))
    (λ _. numbered_update 1 3 (omega arith) (omega arith))) (λ _. numbered_update 6 1 (omega arith) (omega arith)))
    (λ _. numbered_update 1 1 (omega arith) (omega arith))
  where
    go : (r : Parsed) → RefusedRightly r → UpdateRefused (and_then Err r (λ v. an_update (decode16 (drop 1 m)) (decode16 (drop 3 m)) v))
    go (Err fault) (RefusedRightly.refused f) = UpdateRefused.refused f
    go (Ok n) f = UpdateRefused.taken
