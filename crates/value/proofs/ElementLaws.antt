-- Laws of a Boolean, Double or String, and of a run of them.
use Rattle.std.specs.Prelude.{Err, Ok}
use mathlib.Core.Path.{◌≡◌, refl, sym, ◌∙◌}
use mathlib.Core.Bool.{Bool, true, false}
use mathlib.Core.List.{List}
use Prim.Native.Nat.{ℕ, zero, suc, ◌+◌, ◌-◌, ◌*◌, ◌≤◌, ◌<◌}
use native.Mathlib.Omega.{arith}
use lib.ListN.{length, take, drop, get_or, length-drop}
use lib.Seq.{drop-drop}
use lib.Dec.{leb, eqb}
use borrow.Author.Tests.{leb-true, le-leb}
use Rattle.field.specs.Choice.{pick}
use Rattle.field.specs.Field.{fault_at, fault_of, and_then, moved_by, Parsed}
use Rattle.field.specs.declared.Fault.{Fault}
use Rattle.field.proofs.ChoiceLaws.{by_test}
use Rattle.field.proofs.OctetsLaws.{same_length, same_get_or, same_front, same_rest}
use Rattle.text.specs.Text.{parse_text}
use Rattle.text.proofs.TextLaws.{TextIs, text_is}
use Rattle.value.specs.Value.{max_value_size, count_fits, parse_boolean, parse_double, parse_element, elements}

-- what is known of a reader's answer: a refusal stands within the bytes; what is taken is there,
-- at most `most` bytes, and is taken wherever the same bytes stand first
pub data Reads (read : List ℕ → Parsed) (most : ℕ) (s : List ℕ) : Parsed → Type 0 where
  refused : {fault : Fault} → fault.place ≤ length s → Reads read most s (Err fault)
  taken : {n : ℕ} → n ≤ length s → n ≤ most → ((t : List ℕ) → take n t ≡ take n s → read t ≡ Ok n) → Reads read most s (Ok n)

pub reads_taken : (read : List ℕ → Parsed) (most : ℕ) (s : List ℕ) (n : ℕ) → Reads read most s (Ok n)
    → (n ≤ length s) × (n ≤ most) × ((t : List ℕ) → take n t ≡ take n s → read t ≡ Ok n)
reads_taken read most s n (taken a b f) = (a, b, f)

pub reads_refused : (read : List ℕ → Parsed) (most : ℕ) (s : List ℕ) (fault : Fault) → Reads read most s (Err fault) → fault.place ≤ length s
reads_refused read most s fault (refused h) = h

pub boolean_reads : (s : List ℕ) → Reads parse_boolean 1 s (parse_boolean s)
unfolding parse_boolean pick
boolean_reads s =
    by_test P (leb 1 (length s)) _ _ (λ h.
    by_test P (leb (get_or s 0 0) 1) _ _ (λ b.
    taken {n = 1} (leb-true _ _ h) (omega arith) (λ t e. rw (same_get_or 1 s t e 0 (omega arith), le-leb _ _ (same_length 1 s t e (leb-true _ _ h)), b)))
    (λ _. refused (omega arith))) (λ _. refused (omega arith))
  where
    P : Parsed → Type 0
    P = Reads parse_boolean 1 s

pub double_reads : (s : List ℕ) → Reads parse_double 8 s (parse_double s)
unfolding parse_double pick
double_reads s =
    by_test (Reads parse_double 8 s) (leb 8 (length s)) _ _ (λ h.
    taken {n = 8} (leb-true _ _ h) (omega arith) (λ t e. rw (le-leb _ _ (same_length 8 s t e (leb-true _ _ h))))) (λ _. refused (omega arith))

pub string_reads : (sizeSoFar : ℕ) (s : List ℕ) → Reads (parse_text max_value_size sizeSoFar) (max_value_size - sizeSoFar) s (parse_text max_value_size sizeSoFar s)
string_reads sizeSoFar s = go (parse_text max_value_size sizeSoFar s) (text_is max_value_size sizeSoFar s)
  where
    go : (r : Parsed) → TextIs max_value_size sizeSoFar s r → Reads (parse_text max_value_size sizeSoFar) (max_value_size - sizeSoFar) s r
    go (Err fault) (TextIs.refused h) = refused h
    go (Ok n) (TextIs.taken e a b u f) = taken a (omega arith) f

pub widen : (read : List ℕ → Parsed) (a b : ℕ) (s : List ℕ) (r : Parsed) → a ≤ b → Reads read a s r → Reads read b s r
widen read a b s (Err fault) h (refused x) = refused x
widen read a b s (Ok n) h (taken x y f) = taken x (omega arith) f

abbrev pub AllReads : ℕ → (List ℕ → Parsed) → Type 0
AllReads most read = (s : List ℕ) → Reads read most s (read s)

-- an element takes at most 8 bytes, or what is left of the limit
pub element_reads : (element sizeSoFar : ℕ) → AllReads (8 + (max_value_size - sizeSoFar)) (parse_element element sizeSoFar)
unfolding parse_element
element_reads element sizeSoFar =
    by_test P (eqb element 0) _ _ (λ _. λ s. widen parse_boolean 1 most s _ (omega arith) (boolean_reads s)) (λ _.
    by_test P (eqb element 1) _ _ (λ _. λ s. widen parse_double 8 most s _ (omega arith) (double_reads s)) (λ _.
    λ s. widen (parse_text max_value_size sizeSoFar) (max_value_size - sizeSoFar) most s _ (omega arith) (string_reads sizeSoFar s)))
  where
    most : ℕ
    most = 8 + (max_value_size - sizeSoFar)

    P : (List ℕ → Parsed) → Type 0
    P = AllReads most

-- ---- a run of elements, as a loop with a place takes it

pub elements_step : (element : ℕ → List ℕ → Parsed) (count at n : ℕ) (s : List ℕ) → 0 < count → Ok n ≡ element at (drop at s)
    → elements element count at (drop at s) ≡ elements element (count - 1) (at + n) (drop (at + n) s)
unfolding elements
elements_step element zero at n s h e = absurd (omega arith)
elements_step element (suc count) at n s h e = let l : suc count - 1 ≡ count = omega arith in rw (← e, l, drop-drop n at s)

pub elements_stop : (element : ℕ → List ℕ → Parsed) (count at : ℕ) (fault : Fault) (s : List ℕ) → 0 < count → Err fault ≡ element at s
    → elements element count at s ≡ moved_by at (Err fault)
unfolding elements
elements_stop element zero at fault s h e = absurd (omega arith)
elements_stop element (suc count) at fault s h e = rw (← e)

pub elements_none : (element : ℕ → List ℕ → Parsed) (count at : ℕ) (s : List ℕ) → count ≤ 0 → elements element count at s ≡ Ok at
unfolding elements
elements_none element zero at s h = refl
elements_none element (suc count) at s h = absurd (omega arith)

-- ---- what is known of a run's answer, where sizeSoFar bytes came before it

pub data RunReads (element : ℕ → List ℕ → Parsed) (count sizeSoFar : ℕ) (s : List ℕ) : Parsed → Type 0 where
  refused : {fault : Fault} → fault.place ≤ sizeSoFar + length s → RunReads element count sizeSoFar s (Err fault)
  taken : {n : ℕ} (m : ℕ) → n ≡ sizeSoFar + m → m ≤ length s → ((t : List ℕ) → take m t ≡ take m s → elements element count sizeSoFar t ≡ Ok n)
      → RunReads element count sizeSoFar s (Ok n)

-- a run of elements, each of which reads as it should
pub run_reads : (element : ℕ → List ℕ → Parsed) (most : ℕ → ℕ) → ((sizeSoFar : ℕ) → AllReads (most sizeSoFar) (element sizeSoFar))
    → (count sizeSoFar : ℕ) (s : List ℕ) → RunReads element count sizeSoFar s (elements element count sizeSoFar s)
unfolding elements
run_reads element most h zero sizeSoFar s = RunReads.taken {n = sizeSoFar} 0 (omega arith) (omega arith) (λ t e. refl)
run_reads element most h (suc count) sizeSoFar s = go (run_reads element most h count) (element sizeSoFar s) (h sizeSoFar s)
  where
    Rest : Type 0
    Rest = (sizeSoFar : ℕ) (s : List ℕ) → RunReads element count sizeSoFar s (elements element count sizeSoFar s)

    after : (n : ℕ) → Reads (element sizeSoFar) (most sizeSoFar) s (Ok n) → (r : Parsed) → RunReads element count (sizeSoFar + n) (drop n s) r
        → RunReads element (suc count) sizeSoFar s r
    after n f (Err fault) (RunReads.refused g) =
        let w = reads_taken (element sizeSoFar) (most sizeSoFar) s n f in
        RunReads.refused {fault = fault} (omega (arith, w.0, length-drop n s))
    after n f (Ok k) (RunReads.taken m e l g) =
        let w = reads_taken (element sizeSoFar) (most sizeSoFar) s n f in
        RunReads.taken {n = k} (n + m) (omega arith) (omega (arith, w.0, length-drop n s))
        (λ t q. rw (w.2 t (same_front (n + m) s t q n (omega arith))) (g (drop n t) (same_rest n m s t q)))

    go : Rest → (r : Parsed) → Reads (element sizeSoFar) (most sizeSoFar) s r
        → RunReads element (suc count) sizeSoFar s (and_then Err (moved_by sizeSoFar r) (λ n. elements element count (sizeSoFar + n) (drop n s)))
    go ih (Err fault) (Reads.refused f) = RunReads.refused {fault = fault_at fault.number (sizeSoFar + fault.place)} (omega arith)
    go ih (Ok n) f = after n f (elements element count (sizeSoFar + n) (drop n s)) (ih (sizeSoFar + n) (drop n s))

-- ---- a run of elements, one at a time, each at its place

pub element_place : (element at : ℕ) (s : List ℕ) → at ≤ length s → at + (fault_of (parse_element element at (drop at s))).place ≤ length s
element_place element at s h = go (parse_element element at (drop at s)) (element_reads element at (drop at s))
  where
    go : (r : Parsed) → Reads (parse_element element at) (8 + (256 - at)) (drop at s) r → at + (fault_of r).place ≤ length s
    go (Err fault) f = omega (arith, reads_refused _ _ _ fault f, length-drop at s)
    go (Ok n) f = omega arith

pub element_stops : (element left at : ℕ) (s : List ℕ) (fault : Fault) → Err fault ≡ moved_by at (parse_element element at (drop at s)) → 0 < left
    → Err fault ≡ elements (parse_element element) left at (drop at s)
element_stops element left at s fault e h = go (parse_element element at (drop at s)) refl e
  where
    go : (r : Parsed) → r ≡ parse_element element at (drop at s) → Err fault ≡ moved_by at r → Err fault ≡ elements (parse_element element) left at (drop at s)
    go (Err f) is moved = moved ∙ sym (elements_stop (parse_element element) left at f (drop at s) h is)
    go (Ok n) is moved = absurd cc

pub element_goes_on : (element left at n : ℕ) (s : List ℕ) → Ok n ≡ moved_by at (parse_element element at (drop at s)) → 0 < left → at ≤ length s
    → (at + n ≤ length s) × (n ≤ 8 + (256 - at))
    × (elements (parse_element element) left at (drop at s) ≡ elements (parse_element element) (left - 1) (at + n) (drop (at + n) s))
element_goes_on element left at n s e h l = go (parse_element element at (drop at s)) (element_reads element at (drop at s)) refl e
  where
    go : (r : Parsed) → Reads (parse_element element at) (8 + (256 - at)) (drop at s) r → r ≡ parse_element element at (drop at s) → Ok n ≡ moved_by at r
        → (at + n ≤ length s) × (n ≤ 8 + (256 - at))
        × (elements (parse_element element) left at (drop at s) ≡ elements (parse_element element) (left - 1) (at + n) (drop (at + n) s))
    go (Err f) reads is moved = absurd cc
    go (Ok k) reads is moved =
        let w = reads_taken _ _ _ k reads in
        let k_is : n ≡ k = cc in
        rw k_is (omega (arith, w.0, length-drop at s), omega (arith, w.1), elements_step (parse_element element) left at k s h is)

-- ---- and has at most 256 bytes

pub data AtMost (most : ℕ) : Parsed → Type 0 where
  refused : {fault : Fault} → AtMost most (Err fault)
  taken : {n : ℕ} → n ≤ most → AtMost most (Ok n)

-- where each element leaves what has to hold of the count and size that are left
run_most : (element : ℕ → List ℕ → Parsed) (Room : ℕ → ℕ → Type 0) → ((size : ℕ) → Room 0 size → size ≤ max_value_size)
    → ((count size n : ℕ) (s : List ℕ) → Room (suc count) size → element size s ≡ Ok n → Room count (size + n))
    → (count size : ℕ) (s : List ℕ) → Room count size → AtMost max_value_size (elements element count size s)
unfolding elements
run_most element Room h0 h1 zero size s o = AtMost.taken (h0 size o)
run_most element Room h0 h1 (suc count) size s o = go (run_most element Room h0 h1 count) (element size s) refl
  where
    go : ((size : ℕ) (s : List ℕ) → Room count size → AtMost max_value_size (elements element count size s)) → (r : Parsed) → element size s ≡ r
        → AtMost max_value_size (and_then Err (moved_by size r) (λ n. elements element count (size + n) (drop n s)))
    go ih (Err fault) e = AtMost.refused
    go ih (Ok n) e = ih (size + n) (drop n s) (h1 count size n s o e)

pub array_most : (element count : ℕ) (s : List ℕ) → count_fits element count ≡ true → AtMost max_value_size (elements (parse_element element) count 1 s)
unfolding count_fits parse_element pick
array_most element count s f = go (eqb element 0) (eqb element 1) refl refl
  where
    go : (a b : Bool) → eqb element 0 ≡ a → eqb element 1 ≡ b → AtMost max_value_size (elements (parse_element element) count 1 s)
    go true b p q =
        run_most (parse_element element) (λ k size. size + k ≤ max_value_size) (λ size o. omega arith)
        (λ k size n t o e. omega (arith, (reads_taken parse_boolean 1 t n (rw (rw p at e) at (boolean_reads t))).1)) count 1 s (leb-true (1 + count) max_value_size (rw p at f))
    go false true p q =
        run_most (parse_element element) (λ k size. size + 8 * k ≤ max_value_size) (λ size o. omega arith)
        (λ k size n t o e. omega (arith, (reads_taken parse_double 8 t n (rw (rw (p, q) at e) at (double_reads t))).1)) count 1 s (leb-true (1 + 8 * count) max_value_size (rw (p, q) at f))
    go false false p q =
        run_most (parse_element element) (λ k size. size ≤ max_value_size) (λ size o. o)
        (λ k size n t o e. omega (arith, (reads_taken (parse_text max_value_size size) (max_value_size - size) t n (rw (rw (p, q) at e) at (string_reads size t))).1)) count 1 s (omega arith)
