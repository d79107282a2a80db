-- What is true at the place that a value is refused with.
use Rattle.std.specs.Prelude.{Err, Ok}
use mathlib.Core.Path.{◌≡◌, refl, sym, ◌∙◌}
use mathlib.Core.Bool.{Bool, true, false, false≢true}
use mathlib.Core.Logic.{◌≢◌}
use mathlib.Core.List.{List}
use Prim.Native.Nat.{ℕ, zero, suc, ◌+◌, ◌-◌, ◌*◌, ◌≤◌, ◌<◌}
use native.Mathlib.Omega.{arith}
use lib.Dec.{eqb, leb}
use lib.ListN.{length, drop, get_or, length-drop}
use lib.Seq.{drop-drop, get_or-drop}
use borrow.Author.Tests.{leb-true, leb-false, le-leb, lt-leb, eqb-true, eqb-false}
use Rattle.field.specs.Answer.{too_long}
use Rattle.field.specs.Choice.{pick, demand}
use Rattle.field.specs.Field.{fault_at, moved_by, and_then, Parsed}
use Rattle.field.specs.Place.{TellsPlace}
use Rattle.field.proofs.ChoiceLaws.{by_test}
use Rattle.field.proofs.PlaceLaws.{Refuses, refuses_with, refused_with_lem, refuses_map}
use Rattle.text.specs.Text.{parse_text}
use Rattle.text.proofs.FailsLaws.{text_refuses, text_number, text_within, text_failing}
use Rattle.value.specs.Value.{boolean, double, string, array_of, known_type, max_value_size, count_fits, parse_boolean, parse_double, parse_element, elements, parse_array, parse_value, parse_lone}
use Rattle.value.specs.Fails.{ElementsLeft, ElementAt, ValueFailsAt, ValueFails, ValueFailing, LoneFailsAt, LoneFails}
use Rattle.value.proofs.ValueLaws.{known_array, known_small, value_fits}

-- ---- an element, where it begins

module _ (t : ℕ) (s : List ℕ) where
  -- the fault of an element that begins at a place, counted from there
  From : (start number place : ℕ) → Type 0
  From start number place = ValueFailsAt t s number (start + place)

  boolean_refuses : (start : ℕ) → ElementAt t s boolean start → Refuses (From start) (parse_boolean (drop start s))
  unfolding From parse_boolean
  boolean_refuses start e =
      by_test P _ _ _ (λ there. by_test P _ _ _ (λ _. Refuses.taken)
      (λ b. refuses_with (From start) 8 0
      (rw here (ValueFailsAt.not_boolean e (some_byte (leb-true _ _ there)) (rw (get_or-drop start s 0 0, here) at (leb-false (get_or (drop start s) 0 0) 1 b))))))
      (λ cut. refuses_with (From start) 1 0 (rw here (ValueFailsAt.cut_boolean e (omega (arith, length-drop start s, leb-false 1 (length (drop start s)) cut)))))
    where
      here : start + 0 ≡ start
      here = omega arith

      some_byte : 1 ≤ length (drop start s) → start < length s
      some_byte h = omega (arith, length-drop start s)

      P : Parsed → Type 0
      P = Refuses (From start)

  double_refuses : (start : ℕ) → ElementAt t s double start → Refuses (From start) (parse_double (drop start s))
  unfolding From parse_double
  double_refuses start e =
      let here : start + 0 ≡ start = omega arith in
      by_test (Refuses (From start)) (leb 8 (length (drop start s))) _ _ (λ _. Refuses.taken)
      (λ cut. refuses_with (From start) 1 0 (rw here (ValueFailsAt.cut_double e (omega (arith, length-drop start s, leb-false 8 (length (drop start s)) cut)))))

  string_refuses : (start : ℕ) → ElementAt t s string start → Refuses (From start) (parse_text max_value_size start (drop start s))
  unfolding From
  string_refuses start e = refuses_map _ (From start) (λ number place h. ValueFailsAt.text e h) _ (text_refuses max_value_size start (drop start s))

  element_refuses : (element start : ℕ) → element ≤ string → ElementAt t s element start → Refuses (From start) (parse_element element start (drop start s))
  unfolding parse_element
  element_refuses element start small e =
      by_test P _ _ _ (λ b. boolean_refuses start (rw (eqb-true element 0 b) at e)) (λ b.
      by_test P _ _ _ (λ d. double_refuses start (rw (eqb-true element 1 d) at e)) (λ d.
      let is : element ≡ string = omega (arith, eqb-false element 0 b, eqb-false element 1 d) in
      string_refuses start (rw is at e)))
    where
      P : (List ℕ → Parsed) → Type 0
      P read = Refuses (From start) (read (drop start s))

  -- ---- a run of elements

  elements_refuse : (element : ℕ) → element ≤ string → t ≡ array_of + element → (count at : ℕ) → ElementsLeft element s count at
      → Refuses (ValueFailsAt t s) (elements (parse_element element) count at (drop at s))
  unfolding elements
  elements_refuse element small is zero at e = Refuses.taken
  elements_refuse element small is (suc count) at e =
      go (elements_refuse element small is count) (parse_element element at (drop at s)) refl (element_refuses element at small (ElementAt.listed is e))
    where
      Rest : Type 0
      Rest = (at : ℕ) → ElementsLeft element s count at → Refuses (ValueFailsAt t s) (elements (parse_element element) count at (drop at s))

      go : Rest → (r : Parsed) → parse_element element at (drop at s) ≡ r → Refuses (From at) r
          → Refuses (ValueFailsAt t s) (and_then Err (moved_by at r) (λ n. elements (parse_element element) count (at + n) (drop n (drop at s))))
      go ih (Err fault) q (Refuses.refused h) = unfold From in Refuses.refused h
      go ih (Ok n) q h = rw (drop-drop n at s) (ih (at + n) (ElementsLeft.behind_element e q))

  array_refuses : (element : ℕ) → element ≤ string → t ≡ array_of + element → Refuses (ValueFailsAt t s) (parse_array element s)
  unfolding parse_array count_fits pick
  array_refuses element small is =
      by_test P _ _ _ (λ there. by_test P _ _ _ (λ fits. elements_refuse element small is (get_or s 0 0) 1 (ElementsLeft.behind_count (leb-true _ _ there) fits))
      (λ f. refuses_with (ValueFailsAt t s) 10 0 (many (leb-true _ _ there) f)))
      (λ cut. refuses_with (ValueFailsAt t s) 1 0 (ValueFailsAt.cut_count element is (leb-false _ _ cut)))
    where
      P : Parsed → Type 0
      P = Refuses (ValueFailsAt t s)

      many : 1 ≤ length s → count_fits element (get_or s 0 0) ≡ false → ValueFailsAt t s 10 0
      many there f = go (eqb element 0) (eqb element 1) refl refl
        where
          go : (a b : Bool) → eqb element 0 ≡ a → eqb element 1 ≡ b → ValueFailsAt t s 10 0
          go true b p q = ValueFailsAt.many_booleans (rw (eqb-true element 0 p) at is) there (omega (arith, leb-false (1 + get_or s 0 0) 256 (rw p at f)))
          go false true p q = ValueFailsAt.many_doubles (rw (eqb-true element 1 q) at is) there (leb-false (1 + 8 * get_or s 0 0) 256 (rw (p, q) at f))
          go false false p q = absurd (false≢true (sym (rw (p, q) at f)))

  pub value_refuses : Refuses (ValueFailsAt t s) (parse_value t s)
  unfolding parse_value From
  value_refuses =
      by_test P _ _ _ (λ l. scalar (leb-true _ _ l)) (λ l.
      by_test P _ _ _ (λ k. array (leb-false _ _ l) k) (λ k. refuses_with (ValueFailsAt t s) 7 0 (ValueFailsAt.unknown_type_case k)))
    where
      P : (List ℕ → Parsed) → Type 0
      P read = Refuses (ValueFailsAt t s) (read s)

      scalar : t ≤ 2 → P (parse_element t 0)
      scalar small = refuses_map (From 0) (ValueFailsAt t s) (λ number place h. let here : 0 + place ≡ place = omega arith in rw here at h) _ (element_refuses t 0 small (ElementAt.lone small))

      array : 2 < t → known_type t ≡ true → P (parse_array (t - 0x10))
      array l k = array_refuses (t - 0x10) (omega (arith, known_small t k)) (omega (arith, known_array t l k))

pub value_fails : ValueFails
value_fails t s fault e = refused_with_lem (ValueFailsAt t s) fault (rw e at (value_refuses t s))

-- ---- a lone value

pub lone_refuses : (t : ℕ) (s : List ℕ) → Refuses (LoneFailsAt t s) (parse_lone t s)
unfolding parse_lone
lone_refuses t s = go (parse_value t s) refl (value_refuses t s)
  where
    P : Parsed → Type 0
    P = Refuses (LoneFailsAt t s)

    go : (r : Parsed) → parse_value t s ≡ r → Refuses (ValueFailsAt t s) r
        → P (and_then Err r (λ n. demand (eqb n (length s)) (Err (fault_at too_long n)) (Ok n)))
    go (Err fault) e (Refuses.refused h) = Refuses.refused (LoneFailsAt.in_value h)
    go (Ok n) e h =
        by_test P _ _ _ (λ _. Refuses.taken)
        (λ q. refuses_with (LoneFailsAt t s) 10 n (LoneFailsAt.left_over e (omega (arith, value_fits t s n e, eqb-false n (length s) q))))

pub lone_fails : LoneFails
lone_fails t s fault e = refused_with_lem (LoneFailsAt t s) fault (rw e at (lone_refuses t s))

-- ---- where the type is known

pub value_of_known : (t : ℕ) (s : List ℕ) (number place : ℕ) → known_type t ≡ true → ValueFailsAt t s number place → number ≢ 7
value_of_known t s number place known (ValueFailsAt.unknown_type_case k) e = false≢true (sym k ∙ known)
value_of_known t s number place known (ValueFailsAt.not_boolean at there b) e = omega arith
value_of_known t s number place known (ValueFailsAt.text at f) e = text_number _ _ _ _ _ f e
value_of_known t s number place known (ValueFailsAt.many_booleans at there l) e = omega arith
value_of_known t s number place known (ValueFailsAt.many_doubles at there l) e = omega arith
value_of_known t s number place known (ValueFailsAt.cut_boolean at l) e = omega arith
value_of_known t s number place known (ValueFailsAt.cut_double at l) e = omega arith
value_of_known t s number place known (ValueFailsAt.cut_count element is l) e = omega arith

-- the place is that of a byte
pub value_within : (t : ℕ) (s : List ℕ) (number place : ℕ) → known_type t ≡ true → ValueFailsAt t s number place → TellsPlace number → place < length s
value_within t s number place known (ValueFailsAt.unknown_type_case k) tells = absurd (false≢true (sym k ∙ known))
value_within t s number place known (ValueFailsAt.not_boolean e there b) tells = there
value_within t s number place known (ValueFailsAt.text {start = start} {place = inner} e f) tells =
    omega (arith, text_within max_value_size start (drop start s) number inner f tells, length-drop start s)
value_within t s number place known (ValueFailsAt.many_booleans e there l) tells = there
value_within t s number place known (ValueFailsAt.many_doubles e there l) tells = there
value_within t s number place known (ValueFailsAt.cut_boolean at l) tells = absurd (omega arith)
value_within t s number place known (ValueFailsAt.cut_double at l) tells = absurd (omega arith)
value_within t s number place known (ValueFailsAt.cut_count element is l) tells = absurd (omega arith)

-- ---- the other way

module _ (t : ℕ) (s : List ℕ) where
  -- an array is read on from where so many elements are left
  record ReadOn (element left place : ℕ) : Type 0 where
    there : 1 ≤ length s
    fits : count_fits element (get_or s 0 0) ≡ true
    same : elements (parse_element element) (get_or s 0 0) 1 (drop 1 s) ≡ elements (parse_element element) left place (drop place s)

  read_on : (element left place : ℕ) → ElementsLeft element s left place → ReadOn element left place
  unfolding elements
  read_on element left place (ElementsLeft.behind_count l f) = record { there = l; fits = f; same = refl }
  read_on element left place (ElementsLeft.behind_element {place = before} {n = n} e taken) =
      let r = read_on element (suc left) before e in
      record { there = r.there; fits = r.fits; same = r.same ∙ rw (taken, drop-drop n before s) }

  array_is : (element : ℕ) → t ≡ array_of + element → known_type t ≡ true → parse_value t s ≡ parse_array element s
  unfolding parse_value pick
  array_is element is known =
      let less : t - 16 ≡ element = omega (arith, is) in
      rw (lt-leb t string (omega (arith, is)), known, less)

  element_failing : (element start number place : ℕ) → known_type t ≡ true → ElementAt t s element start → parse_element element start (drop start s) ≡ Err (fault_at number place)
      → parse_value t s ≡ Err (fault_at number (start + place))
  unfolding parse_value parse_array elements pick
  element_failing element start number place known (ElementAt.lone l) refused =
      let here : 0 + place ≡ place = omega arith in
      rw (le-leb t string l, here) refused
  element_failing element start number place known (ElementAt.listed {left = left} is e) refused =
      let r = read_on element (suc left) start e in
      array_is element is known ∙ rw (le-leb 1 (length s) r.there, r.fits, r.same, refused)

  value_fails_so : (number place : ℕ) → known_type t ≡ true → ValueFailsAt t s number place → parse_value t s ≡ Err (fault_at number place)
  unfolding parse_element parse_boolean parse_double parse_array count_fits pick
  value_fails_so number place known (ValueFailsAt.unknown_type_case k) = absurd (false≢true (sym k ∙ known))
  value_fails_so number place known (ValueFailsAt.not_boolean {place = start} e l b) =
      let here : start + 0 ≡ start = omega arith in
      rw here at (element_failing boolean start 8 0 known e (rw (le-leb 1 (length (drop start s)) (omega (arith, length-drop start s)), get_or-drop start s 0 0, here, lt-leb (get_or s start 0) 1 b)))
  value_fails_so number place known (ValueFailsAt.text {start = start} {place = inner} e f) = element_failing string start number inner known e (text_failing _ _ _ number inner f)
  value_fails_so number place known (ValueFailsAt.many_booleans is l m) = array_is boolean is known ∙ rw (le-leb 1 (length s) l, lt-leb (1 + get_or s 0 0) 256 (omega (arith, m)))
  value_fails_so number place known (ValueFailsAt.many_doubles is l m) = array_is 1 is known ∙ rw (le-leb 1 (length s) l, lt-leb (1 + 8 * get_or s 0 0) 256 m)
  value_fails_so number place known (ValueFailsAt.cut_boolean {place = start} e l) =
      let here : start + 0 ≡ start = omega arith in
      rw here at (element_failing boolean start 1 0 known e (rw (lt-leb 1 (length (drop start s)) (omega (arith, length-drop start s)))))
  value_fails_so number place known (ValueFailsAt.cut_double {place = start} e l) =
      let here : start + 0 ≡ start = omega arith in
      rw here at (element_failing double start 1 0 known e (rw (lt-leb 8 (length (drop start s)) (omega (arith, length-drop start s)))))
  value_fails_so number place known (ValueFailsAt.cut_count element is l) = array_is element is known ∙ rw (lt-leb 1 (length s) l)

pub value_failing : ValueFailing
value_failing t s number place known f = value_fails_so t s number place known f
