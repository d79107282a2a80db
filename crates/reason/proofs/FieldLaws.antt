-- A field's checks are what its reader checks: the first that fails is the refusal, and where all pass the reading goes on.
use Rattle.std.specs.Prelude.{Ok, Err}
use mathlib.Core.Path.{◌≡◌, refl, sym, ap, ◌∙◌}
use mathlib.Core.Bool.{Bool, true, false}
use mathlib.Core.List.{List, [], ◌∷◌, ◌++◌}
use Prim.Native.Nat.{ℕ, zero, suc, ◌+◌, ◌-◌, ◌≤◌}
use native.Mathlib.Omega.{arith}
use lib.Dec.{leb, eqb}
use lib.ListN.{length, drop, get_or, length-drop}
use lib.Seq.{drop-drop, get_or-drop}
use borrow.Author.Tests.{leb-true, leb-false, le-leb, lt-leb}
use Rattle.field.specs.Choice.{pick}
use Rattle.field.specs.Octets.{decode16}
use Rattle.field.specs.Field.{fault_at, moved_by, and_then, Parsed}
use Rattle.text.specs.Text.{parse_text}
use Rattle.value.specs.Value.{string, array_of, known_type, max_value_size, parse_boolean, parse_double, parse_element, elements, parse_array, parse_value}
use Rattle.reason.specs.Reason.{refused_at}
use Rattle.reason.specs.Checks.{Check, there, obeys, text_size, text_checks, element_checks, element_size, elements_checks, array_checks, value_checks}
use Rattle.reason.specs.Why.{first_failing}
use Rattle.reason.specs.declared.Reason.{Reason}
use Rattle.reason.specs.declared.Reason.TheVariants.{Refused}

-- the first that fails of two lists
pub failing_both : (ks ls : List Check) (passed : Reason) → first_failing (ks ++ ls) passed ≡ first_failing ks (first_failing ls passed)
unfolding first_failing
failing_both [] ls passed = refl
failing_both (k ∷ ks) ls passed = rw (failing_both ks ls passed)

-- bytes are there behind a place exactly if they are there in all
pub there_behind : (m : List ℕ) (place size : ℕ) → 1 ≤ size → leb size (length (drop place m)) ≡ leb (place + size) (length m)
there_behind m place size some = go (leb (place + size) (length m)) refl
  where
    go : (b : Bool) → leb (place + size) (length m) ≡ b → leb size (length (drop place m)) ≡ b
    go true h = le-leb size (length (drop place m)) (omega (arith, leb-true (place + size) (length m) h, length-drop place m))
    go false h = lt-leb size (length (drop place m)) (omega (arith, leb-false (place + size) (length m) h, length-drop place m))

-- what is made of a field that was read at a place
abbrev pub read_at : (place : ℕ) → Parsed → (ℕ → Reason) → Reason
read_at place r next = and_then Refused (moved_by place r) next

-- ---- a text

four : (place k n1 p1 n2 p2 n3 p3 n4 p4 : ℕ) (next : ℕ → Reason) (a b c d : Bool)
    → read_at place (pick a (pick b (pick c (pick d (Ok k) (Err (fault_at n4 p4))) (Err (fault_at n3 p3))) (Err (fault_at n2 p2))) (Err (fault_at n1 p1))) next
    ≡ pick a (pick b (pick c (pick d (next k) (refused_at n4 (place + p4))) (refused_at n3 (place + p3))) (refused_at n2 (place + p2))) (refused_at n1 (place + p1))
unfolding pick
four place k n1 p1 n2 p2 n3 p3 n4 p4 next false b c d = refl
four place k n1 p1 n2 p2 n3 p3 n4 p4 next true false c d = refl
four place k n1 p1 n2 p2 n3 p3 n4 p4 next true true false d = refl
four place k n1 p1 n2 p2 n3 p3 n4 p4 next true true true false = refl
four place k n1 p1 n2 p2 n3 p3 n4 p4 next true true true true = refl

pub text_checks_lem : (m : List ℕ) (maxSize sizeSoFar place : ℕ) (next : ℕ → Reason)
    → read_at place (parse_text maxSize sizeSoFar (drop place m)) next ≡ first_failing (text_checks m maxSize sizeSoFar place) (next (text_size m place))
unfolding parse_text text_checks first_failing
text_checks_lem m maxSize sizeSoFar place next =
    let n = decode16 (drop place m) in
    let here : place + 0 ≡ place = omega arith in
    let all : place + (2 + n) ≡ place + 2 + n = omega arith in
    let text_there : leb (2 + n) (length (drop place m)) ≡ leb (place + 2 + n) (length m) = there_behind m place (2 + n) (omega arith) ∙ ap (λ (k : ℕ). leb k (length m)) all in
    four place (2 + n) 1 0 10 0 1 2 9 2 next _ _ _ _
    ∙ rw (here, there_behind m place 2 (omega arith), text_there, drop-drop 2 place m)

-- ---- elements

one : (place k n1 p1 : ℕ) (next : ℕ → Reason) (a : Bool) → read_at place (pick a (Ok k) (Err (fault_at n1 p1))) next ≡ pick a (next k) (refused_at n1 (place + p1))
unfolding pick
one place k n1 p1 next false = refl
one place k n1 p1 next true = refl

-- one field with a rule, and what is read behind it
two : (place n1 p1 n2 p2 : ℕ) (behind : Parsed) (next : ℕ → Reason) (a b : Bool)
    → read_at place (pick a (pick b behind (Err (fault_at n2 p2))) (Err (fault_at n1 p1))) next
    ≡ pick a (pick b (read_at place behind next) (refused_at n2 (place + p2))) (refused_at n1 (place + p1))
unfolding pick
two place n1 p1 n2 p2 behind next false b = refl
two place n1 p1 n2 p2 behind next true false = refl
two place n1 p1 n2 p2 behind next true true = refl

boolean_checks : (m : List ℕ) (place : ℕ) (next : ℕ → Reason)
    → read_at place (parse_boolean (drop place m)) next ≡ pick (leb (place + 1) (length m)) (pick (leb (get_or m place 0) 1) (next 1) (refused_at 8 place)) (refused_at 1 place)
unfolding parse_boolean
boolean_checks m place next =
    let here : place + 0 ≡ place = omega arith in
    two place 1 0 8 0 (Ok 1) next _ _ ∙ rw (there_behind m place 1 (omega arith), get_or-drop place m 0 0, here)

double_checks : (m : List ℕ) (place : ℕ) (next : ℕ → Reason)
    → read_at place (parse_double (drop place m)) next ≡ pick (leb (place + 8) (length m)) (next 8) (refused_at 1 place)
unfolding parse_double
double_checks m place next =
    let here : place + 0 ≡ place = omega arith in
    one place 8 1 0 next _ ∙ rw (there_behind m place 8 (omega arith), here)

pub element_checks_lem : (element : ℕ) (m : List ℕ) (sizeSoFar place : ℕ) (next : ℕ → Reason)
    → read_at place (parse_element element sizeSoFar (drop place m)) next ≡ first_failing (element_checks element m sizeSoFar place) (next (element_size element m place))
unfolding parse_element element_checks element_size first_failing pick
element_checks_lem element m sizeSoFar place next = go (eqb element 0) (eqb element 1)
  where
    go : (a b : Bool)
        → read_at place (pick a parse_boolean (pick b parse_double (parse_text max_value_size sizeSoFar)) (drop place m)) next
        ≡ first_failing (pick a (there m place 1 ∷ obeys 8 place (leb (get_or m place 0) 1) ∷ []) (pick b (there m place 8 ∷ []) (text_checks m max_value_size sizeSoFar place)))
        (next (pick a 1 (pick b 8 (text_size m place))))
    go true b = boolean_checks m place next
    go false true = double_checks m place next
    go false false = text_checks_lem m max_value_size sizeSoFar place next

-- what is read behind an element, from the start of its array
then_behind : (from sizeSoFar : ℕ) (p : Parsed) (f : ℕ → Parsed) (next : ℕ → Reason)
    → read_at from (and_then Err (moved_by sizeSoFar p) f) next ≡ read_at (from + sizeSoFar) p (λ n. read_at from (f n) next)
then_behind from sizeSoFar (Err fault) f next = let same : from + (sizeSoFar + fault.place) ≡ from + sizeSoFar + fault.place = omega arith in rw same
then_behind from sizeSoFar (Ok n) f next = refl

pub elements_checks_lem : (element count : ℕ) (m : List ℕ) (from sizeSoFar : ℕ) (passed : Reason)
    → read_at from (elements (parse_element element) count sizeSoFar (drop (from + sizeSoFar) m)) (λ _. passed)
    ≡ first_failing (elements_checks element count m sizeSoFar (from + sizeSoFar)) passed
unfolding elements elements_checks first_failing
elements_checks_lem element zero m from sizeSoFar passed = refl
elements_checks_lem element (suc count) m from sizeSoFar passed =
    let place = from + sizeSoFar in
    let size = element_size element m place in
    let next : place + size ≡ from + (sizeSoFar + size) = omega arith in
    then_behind from sizeSoFar (parse_element element sizeSoFar (drop place m)) _ _
    ∙ element_checks_lem element m sizeSoFar place _
    ∙ rw (drop-drop size place m, next, elements_checks_lem element count m from (sizeSoFar + size) passed)
    (sym (failing_both (element_checks element m sizeSoFar place) _ passed))

-- ---- a value

array_checks_lem : (element : ℕ) (m : List ℕ) (place : ℕ) (passed : Reason)
    → read_at place (parse_array element (drop place m)) (λ _. passed) ≡ first_failing (array_checks element m place) passed
unfolding parse_array array_checks first_failing
array_checks_lem element m place passed =
    let here : place + 0 ≡ place = omega arith in
    two place 1 0 10 0 _ (λ _. passed) _ _
    ∙ rw (drop-drop 1 place m, elements_checks_lem element (get_or (drop place m) 0 0) m place 1 passed, here, there_behind m place 1 (omega arith), get_or-drop place m 0 0, here)

pub value_checks_lem : (type : ℕ) (m : List ℕ) (place : ℕ) (passed : Reason) → known_type type ≡ true
    → read_at place (parse_value type (drop place m)) (λ _. passed) ≡ first_failing (value_checks type m place) passed
unfolding parse_value value_checks pick
value_checks_lem type m place passed known = rw known (go (leb type string))
  where
    go : (a : Bool)
        → read_at place (pick a (parse_element type 0) (parse_array (type - array_of)) (drop place m)) (λ _. passed)
        ≡ first_failing (pick a (element_checks type m 0 place) (array_checks (type - array_of) m place)) passed
    go true = element_checks_lem type m 0 place (λ _. passed)
    go false = array_checks_lem (type - array_of) m place passed
