-- Laws of values: what is taken is there, has at most 256 bytes, and is taken wherever the same bytes stand first.
use Rattle.std.specs.Prelude.{Err, Ok}
use mathlib.Core.Path.{◌≡◌, refl, sym, ap, ◌∙◌}
use mathlib.Core.Bool.{Bool, true, false, ◌&&◌, false≢true}
use mathlib.Core.List.{List, ◌++◌}
use Prim.Native.Nat.{ℕ, ◌+◌, ◌-◌, ◌≤◌, ◌<◌}
use native.Mathlib.Omega.{arith}
use native.Mathlib.Decide.{dec_le}
use native.Mathlib.Nat.{le_refl}
use lib.ListN.{length, take, drop, get_or, length-drop}
use lib.Seq.{take-length, take-take, take-append_seam, length-take-le}
use lib.Dec.{leb, eqb}
use borrow.Author.Tests.{leb-true, le-leb, lt-leb, eqb-true, eq-eqb}
use Rattle.field.specs.Answer.{unknown_type, too_long}
use Rattle.field.specs.Choice.{pick, demand}
use Rattle.field.specs.Field.{fault_at, fault_of, and_then, Parsed}
use Rattle.field.specs.declared.Fault.{Fault}
use Rattle.field.proofs.ChoiceLaws.{by_test}
use Rattle.field.proofs.OctetsLaws.{same_length, same_get_or, same_rest}
use Rattle.value.specs.Value.{known_type, max_value_size, count_fits, parse_boolean, parse_double, parse_element, elements, parse_array, parse_value, parse_lone, IsValue}
use Rattle.value.proofs.ElementLaws.{Reads, AllReads, reads_taken, reads_refused, boolean_reads, double_reads, string_reads, element_reads, widen, RunReads, run_reads, AtMost, array_most}

-- ---- types

-- a known type that is no element's is an array's
pub known_array : (t : ℕ) → 2 < t → known_type t ≡ true → 0x10 ≤ t
unfolding known_type
known_array t h k = leb-true 0x10 t (left (leb 0x10 t) (leb t 0x12) (rw (lt-leb t 2 h) at k))
  where
    left : (a b : Bool) → (a && b) ≡ true → a ≡ true
    left true b e = refl
    left false b e = absurd (false≢true e)

-- known types are small numbers
pub known_small : (t : ℕ) → known_type t ≡ true → t ≤ 0x12
unfolding known_type
known_small t k = go (dec_le t 2)
  where
    right : (a b : Bool) → (a && b) ≡ true → b ≡ true
    right true b e = e
    right false b e = absurd (false≢true e)

    go : Dec (t ≤ 2) → t ≤ 0x12
    go (yes h) = omega arith
    go (no h) =
        let l : 2 < t = omega (arith, h) in
        leb-true t 0x12 (right (leb 0x10 t) (leb t 0x12) (rw (lt-leb t 2 l) at k))

element_known : (t : ℕ) → leb t 2 ≡ true → known_type t ≡ true
unfolding known_type
element_known t h = rw h

-- a value is taken of a known type only
data TakenOf (t : ℕ) : Parsed → Type 0 where
  refused : {fault : Fault} → TakenOf t (Err fault)
  taken : {n : ℕ} → known_type t ≡ true → TakenOf t (Ok n)

pub value_known : (t : ℕ) (s : List ℕ) (n : ℕ) → parse_value t s ≡ Ok n → known_type t ≡ true
unfolding parse_value
value_known t s n e = known (Ok n) (rw e at of_known) refl
  where
    any : known_type t ≡ true → (r : Parsed) → TakenOf t r
    any k (Err fault) = TakenOf.refused
    any k (Ok n) = TakenOf.taken k

    of_known : TakenOf t (parse_value t s)
    of_known =
        by_test (λ (read : List ℕ → Parsed). TakenOf t (read s)) (leb t 2) _ _ (λ h. any (element_known t h) _) (λ _.
        by_test (λ (read : List ℕ → Parsed). TakenOf t (read s)) (known_type t) _ _ (λ k. any k _) (λ _. TakenOf.refused))

    known : (r : Parsed) → TakenOf t r → r ≡ Ok n → known_type t ≡ true
    known (Err fault) f q = let z : ◌≡◌ {A = ℕ} 0 1 = cc in absurd (omega arith)
    known (Ok m) (TakenOf.taken k) q = k

-- a type that is not known is refused, whatever the bytes are
pub value_unknown : (t : ℕ) (s : List ℕ) → known_type t ≡ false → parse_value t s ≡ Err (fault_at unknown_type 0)
unfolding parse_value pick
value_unknown t s k = go (leb t 2) refl
  where
    go : (b : Bool) → leb t 2 ≡ b → parse_value t s ≡ Err (fault_at unknown_type 0)
    go true l = absurd (false≢true (sym k ∙ element_known t l))
    go false l = rw (l, k)

-- ---- an array

array_reads : (element : ℕ) → AllReads max_value_size (parse_array element)
unfolding parse_array pick
array_reads element s =
    by_test P (leb 1 (length s)) _ _ (λ h.
    by_test P (count_fits element (get_or s 0 0)) _ _ (λ f.
    go (leb-true _ _ h) f (elements (parse_element element) (get_or s 0 0) 1 (drop 1 s))
    (run_reads (parse_element element) (λ size. 8 + (max_value_size - size)) (element_reads element) (get_or s 0 0) 1 (drop 1 s))
    (array_most element (get_or s 0 0) (drop 1 s) f))
    (λ _. Reads.refused (omega arith))) (λ _. Reads.refused (omega arith))
  where
    P : Parsed → Type 0
    P = Reads (parse_array element) max_value_size s

    go : 1 ≤ length s → count_fits element (get_or s 0 0) ≡ true → (r : Parsed) → RunReads (parse_element element) (get_or s 0 0) 1 (drop 1 s) r → AtMost max_value_size r
        → Reads (parse_array element) max_value_size s r
    go h f (Err fault) (RunReads.refused g) w = Reads.refused {fault = fault} (omega (arith, length-drop 1 s))
    go h f (Ok n) (RunReads.taken m e l g) (AtMost.taken w) =
        Reads.taken {n = n} (omega (arith, length-drop 1 s)) w (λ t q.
        let l1 : n ≤ length t = same_length n s t q (omega (arith, length-drop 1 s)) in
        rw (le-leb 1 (length t) (omega arith), same_get_or n s t q 0 (omega arith), f) (g (drop 1 t) (same_rest 1 m s t (rw e at q))))

-- ---- a value

-- an element by itself
scalar_reads : (element : ℕ) → AllReads max_value_size (parse_element element 0)
unfolding parse_element
scalar_reads element =
    by_test P _ _ _ (λ _. λ s. widen parse_boolean 1 max_value_size s _ (omega arith) (boolean_reads s)) (λ _.
    by_test P _ _ _ (λ _. λ s. widen parse_double 8 max_value_size s _ (omega arith) (double_reads s)) (λ _. string_reads 0))
  where
    P : (List ℕ → Parsed) → Type 0
    P = AllReads max_value_size

pub value_reads : (t : ℕ) → AllReads max_value_size (parse_value t)
unfolding parse_value
value_reads t =
    by_test P _ _ _ (λ _. scalar_reads t) (λ _.
    by_test P _ _ _ (λ _. array_reads (t - 0x10)) (λ _. λ s. Reads.refused (omega arith)))
  where
    P : (List ℕ → Parsed) → Type 0
    P = AllReads max_value_size

module _ (t : ℕ) (s : List ℕ) (n : ℕ) (e : parse_value t s ≡ Ok n) where
  facts : (n ≤ length s) × (n ≤ max_value_size) × ((r : List ℕ) → take n r ≡ take n s → parse_value t r ≡ Ok n)
  facts = reads_taken (parse_value t) max_value_size s n (rw e at (value_reads t s))

  pub value_fits : n ≤ length s
  value_fits = facts.0

  pub value_small : n ≤ max_value_size
  value_small = facts.1

  -- what was taken is a value by itself
  pub value_whole : IsValue t (take n s)
  value_whole = facts.2 (take n s) (take-take n n s (le_refl n)) ∙ ap Ok (sym (length-take-le n s facts.0))

pub value_place_lem : (t : ℕ) (s : List ℕ) → (fault_of (parse_value t s)).place ≤ length s
value_place_lem t s = go (parse_value t s) (value_reads t s)
  where
    go : (r : Parsed) → Reads (parse_value t) max_value_size s r → (fault_of r).place ≤ length s
    go (Err fault) r = reads_refused (parse_value t) max_value_size s fault r
    go (Ok n) r = omega arith

-- reading back a value, whatever stands behind it
pub value_back : (t : ℕ) (v rest : List ℕ) → IsValue t v → parse_value t (v ++ rest) ≡ Ok (length v)
value_back t v rest w = (facts t v (length v) w).2 (v ++ rest) (take-append_seam v rest ∙ sym (take-length v))

-- ---- a lone value

pub lone_taken : (t : ℕ) (v : List ℕ) → IsValue t v → parse_lone t v ≡ Ok (length v)
unfolding parse_lone pick
lone_taken t v w = rw (w, eq-eqb (length v) (length v) refl)

pub data LoneIs (t : ℕ) (v : List ℕ) : Parsed → Type 0 where
  refused : {fault : Fault} → LoneIs t v (Err fault)
  taken : {n : ℕ} → n ≡ length v → IsValue t v → LoneIs t v (Ok n)

pub lone_is : (t : ℕ) (v : List ℕ) → LoneIs t v (parse_lone t v)
unfolding parse_lone
lone_is t v = go (parse_value t v) refl
  where
    go : (r : Parsed) → parse_value t v ≡ r → LoneIs t v (and_then Err r (λ n. demand (eqb n (length v)) (Err (fault_at too_long n)) (Ok n)))
    go (Err fault) e = LoneIs.refused
    go (Ok n) e = by_test (LoneIs t v) _ _ _ (λ q. LoneIs.taken (eqb-true _ _ q) (e ∙ ap Ok (eqb-true _ _ q))) (λ _. LoneIs.refused)

-- the place of a lone value's fault is within it
pub lone_place : (t : ℕ) (v : List ℕ) → (fault_of (parse_lone t v)).place ≤ length v
unfolding parse_lone
lone_place t v = go (parse_value t v) refl (value_place_lem t v)
  where
    go : (r : Parsed) → parse_value t v ≡ r → (fault_of r).place ≤ length v
        → (fault_of (and_then Err r (λ n. demand (eqb n (length v)) (Err (fault_at too_long n)) (Ok n)))).place ≤ length v
    go (Err fault) e h = h
    go (Ok n) e h = by_test (λ (r : Parsed). (fault_of r).place ≤ length v) _ _ _ (λ _. omega arith) (λ _. value_fits t v n e)
