-- What decides is all that is looked at: where a message is not answered 1, bytes behind it change nothing. So one that is cut before the field that is named is answered 1.
use mathlib.Core.Path.{◌≡◌, refl, sym, ap, ◌∙◌}
use mathlib.Core.Logic.{◌≢◌}
use mathlib.Core.Bool.{Bool, true, false, false≢true, not, ◌||◌}
use mathlib.Core.List.{List, [], ◌∷◌, ◌++◌}
use Prim.Native.Nat.{ℕ, zero, suc, ◌+◌, ◌-◌, ◌≤◌}
use native.Mathlib.Omega.{arith}
use lib.Dec.{leb, ltb, eqb}
use lib.ListN.{length, take, drop, get_or, length-take, take-append-drop}
use lib.Seq.{take-append_seam, take-length}
use borrow.Author.Tests.{leb-true, le-leb, eqb-true, eqb-false}
use Rattle.field.specs.Choice.{pick}
use Rattle.field.proofs.OctetsLaws.{decode_at, same_length, same_get_or, same_front, same_rest}
use Rattle.sequence.specs.SequenceNumber.{distance}
use Rattle.utf8.specs.Utf8.{is_utf8}
use Rattle.value.specs.Value.{known_type}
use Rattle.message.specs.Layout.{Entry}
use Rattle.message.specs.Reader.{name_in, Bytes}
use Rattle.table.specs.Names.{holder, name_held}
use Rattle.table.specs.Table.{default_entry, entries_of}
use Rattle.places.specs.MessageFails.{name_length_in, update_id_in}
use Rattle.protocol.specs.Judge.{new_id}
use Rattle.protocol.specs.Step.{ServerMemory}
use Rattle.reason.specs.Reason.{number_of, refused_at}
use Rattle.reason.specs.Checks.{Check, there, obeys, number_in, stored_in, received_in, number_checks, text_size, text_checks, element_checks, element_size, elements_checks, array_checks, value_checks, hello_checks, assignment_checks, update_checks, from_client, behind_kind, checks}
use Rattle.reason.specs.Why.{first_failing, when_passed, why}
use Rattle.reason.specs.Answered.{GivenIn}
use Rattle.reason.specs.Cut.{BehindNotLookedAt, OfField, CutIncomplete}
use Rattle.reason.specs.declared.Reason.{Reason}
use Rattle.reason.specs.declared.Reason.TheVariants.{Refused, NameHeld, Applied, Done}
use Rattle.reason.proofs.FieldLaws.{failing_both}
use Rattle.reason.proofs.NumbersLaws.{Told, why_told, any_output}

-- what is said of a message, and of one that goes on behind it
data Stable : Reason → Reason → Type 0 where
  cut : {r s : Reason} → number_of r ≡ 1 → Stable r s
  same : {r s : Reason} → r ≡ s → Stable r s

test_stable : (a b : Bool) (x y z : Reason) → a ≡ b → (a ≡ true → Stable x y) → Stable (pick a x z) (pick b y z)
unfolding pick
test_stable true b x y z e f = rw (← e) (f refl)
test_stable false b x y z e f = rw (← e) (same refl)

-- the kinds of a client's messages
data KindIs : ℕ → Type 0 where
  keep_alive_lem : KindIs 0
  hello : KindIs 1
  assignment : KindIs 0x10
  update : KindIs 0x11

kind_is : (kind : ℕ) → from_client kind ≡ true → KindIs kind
unfolding from_client
kind_is kind f = go (eqb kind 0) (eqb kind 1) (eqb kind 0x10) (eqb kind 0x11) refl refl refl refl f
  where
    go : (a b c d : Bool) → eqb kind 0 ≡ a → eqb kind 1 ≡ b → eqb kind 0x10 ≡ c → eqb kind 0x11 ≡ d → (a || (b || (c || d))) ≡ true → KindIs kind
    go true b c d p q r s f = rw (eqb-true kind 0 p) KindIs.keep_alive_lem
    go false true c d p q r s f = rw (eqb-true kind 1 q) KindIs.hello
    go false false true d p q r s f = rw (eqb-true kind 0x10 r) KindIs.assignment
    go false false false true p q r s f = rw (eqb-true kind 0x11 s) KindIs.update
    go false false false false p q r s f = absurd (false≢true f)

module _ (m n : List ℕ) (e : take (length m) n ≡ take (length m) m) where
  -- a field that is there in the first is there in the second
  there_stable : (place size : ℕ) (x y : Reason) → (place + size ≤ length m → Stable x y)
      → Stable (pick (leb (place + size) (length m)) x (refused_at 1 place)) (pick (leb (place + size) (length n)) y (refused_at 1 place))
  unfolding pick
  there_stable place size x y f = go (leb (place + size) (length m)) refl
    where
      go : (b : Bool) → leb (place + size) (length m) ≡ b → Stable (pick b x (refused_at 1 place)) (pick (leb (place + size) (length n)) y (refused_at 1 place))
      go true h =
          let l = leb-true (place + size) (length m) h in
          rw (le-leb (place + size) (length n) (omega (arith, l, same_length (length m) m n e (omega arith)))) (f l)
      go false h = cut refl

  byte_same : (place : ℕ) → place + 1 ≤ length m → get_or n place 0 ≡ get_or m place 0
  byte_same place l = same_get_or (length m) m n e place (omega arith)

  number_same : (place : ℕ) → place + 2 ≤ length m → number_in n place ≡ number_in m place
  number_same place l = decode_at n place ∙ rw (byte_same place (omega arith), byte_same (place + 1) (omega arith)) (sym (decode_at m place))

  part_same : (place size : ℕ) → place + size ≤ length m → take size (drop place n) ≡ take size (drop place m)
  part_same place size l = same_rest place size m n (same_front (length m) m n e (place + size) l)

  -- ---- values

  text_stable : (maxSize sizeSoFar place : ℕ) (x y : Reason) → (place + text_size m place ≤ length m → Stable x y)
      → Stable (first_failing (text_checks m maxSize sizeSoFar place) x) (first_failing (text_checks n maxSize sizeSoFar place) y)
  unfolding text_checks first_failing
  text_stable maxSize sizeSoFar place x y f =
      there_stable place 2 _ _ (λ l. rw (number_same place l)
      (test_stable _ _ _ _ _ refl (λ _.
      there_stable (place + 2) (number_in m place) _ _ (λ k.
      test_stable _ _ _ _ _ (ap is_utf8 (sym (part_same (place + 2) (number_in m place) k))) (λ _. f (omega arith))))))

  element_stable : (element sizeSoFar place : ℕ) (x y : Reason) → (place + element_size element m place ≤ length m → Stable x y)
      → Stable (first_failing (element_checks element m sizeSoFar place) x) (first_failing (element_checks element n sizeSoFar place) y)
  unfolding element_checks element_size first_failing pick
  element_stable element sizeSoFar place x y f = go (eqb element 0) (eqb element 1) f
    where
      go : (a b : Bool) → (place + pick a 1 (pick b 8 (text_size m place)) ≤ length m → Stable x y)
          → Stable
          (first_failing (pick a (there m place 1 ∷ obeys 8 place (leb (get_or m place 0) 1) ∷ []) (pick b (there m place 8 ∷ []) (text_checks m 256 sizeSoFar place))) x)
          (first_failing (pick a (there n place 1 ∷ obeys 8 place (leb (get_or n place 0) 1) ∷ []) (pick b (there n place 8 ∷ []) (text_checks n 256 sizeSoFar place))) y)
      go true b f = there_stable place 1 _ _ (λ l. test_stable _ _ _ _ _ (ap (λ (k : ℕ). leb k 1) (sym (byte_same place l))) (λ _. f l))
      go false true f = there_stable place 8 _ _ f
      go false false f = text_stable 256 sizeSoFar place x y f

  size_same : (element place : ℕ) → place + element_size element m place ≤ length m → element_size element n place ≡ element_size element m place
  unfolding element_size pick
  size_same element place l = go (eqb element 0) (eqb element 1) l
    where
      go : (a b : Bool) → place + pick a 1 (pick b 8 (text_size m place)) ≤ length m → pick a 1 (pick b 8 (text_size n place)) ≡ pick a 1 (pick b 8 (text_size m place))
      go true b l = refl
      go false true l = refl
      go false false l = rw (number_same place (omega arith))

  elements_stable : (element count sizeSoFar place : ℕ) (x : Reason)
      → Stable (first_failing (elements_checks element count m sizeSoFar place) x) (first_failing (elements_checks element count n sizeSoFar place) x)
  unfolding elements_checks
  elements_stable element zero sizeSoFar place x = same refl
  elements_stable element (suc count) sizeSoFar place x =
      rw (failing_both (element_checks element m sizeSoFar place) _ x, failing_both (element_checks element n sizeSoFar place) _ x)
      (element_stable element sizeSoFar place _ _ (λ l. rw (size_same element place l) (elements_stable element count _ _ x)))

  array_stable : (element place : ℕ) (x : Reason) → Stable (first_failing (array_checks element m place) x) (first_failing (array_checks element n place) x)
  unfolding array_checks first_failing
  array_stable element place x =
      there_stable place 1 _ _ (λ l. rw (byte_same place l) (test_stable _ _ _ _ _ refl (λ _. elements_stable element (get_or m place 0) 1 (place + 1) x)))

  value_stable : (type place : ℕ) (x : Reason) → Stable (first_failing (value_checks type m place) x) (first_failing (value_checks type n place) x)
  unfolding value_checks pick
  value_stable type place x = go (leb type 2)
    where
      go : (a : Bool)
          → Stable (first_failing (pick a (element_checks type m 0 place) (array_checks (type - 16) m place)) x) (first_failing (pick a (element_checks type n 0 place) (array_checks (type - 16) n place)) x)
      go true = element_stable type 0 place x x (λ _. same refl)
      go false = array_stable (type - 16) place x

  -- a value, and checks behind it that are the same
  value_then : (type place : ℕ) (ks : List Check) (x : Reason) → Stable (first_failing (value_checks type m place ++ ks) x) (first_failing (value_checks type n place ++ ks) x)
  value_then type place ks x =
      rw (failing_both (value_checks type m place) ks x, failing_both (value_checks type n place) ks x) (value_stable type place (first_failing ks x))

  -- ---- messages

  hello_stable : (x : Reason) → Stable (first_failing (hello_checks m) x) (first_failing (hello_checks n) x)
  unfolding first_failing
  hello_stable x = there_stable 1 2 _ _ (λ _. same refl)

  update_stable : (es : List Entry) → Stable (first_failing (update_checks es m) (Applied (distance (stored_in es m) (received_in m))))
      (first_failing (update_checks es n) (Applied (distance (stored_in es n) (received_in n))))
  unfolding update_checks first_failing
  update_stable es =
      there_stable 1 2 _ _ (λ l.
      let id_same : update_id_in n ≡ update_id_in m = number_same 1 l in
      let stored_same : stored_in es n ≡ stored_in es m = ap (λ (id : ℕ). (get_or es id default_entry).number) id_same in
      rw (stored_same, id_same)
      (test_stable _ _ _ _ _ refl (λ _.
      there_stable 3 2 _ _ (λ k.
      let received_same : received_in n ≡ received_in m = number_same 3 k in
      rw received_same (value_then (get_or es (update_id_in m) default_entry).type 5 (number_checks (stored_in es m) (received_in m)) _)))))

  -- an assignment's fields behind a name of k bytes, and what comes last
  behind : ℕ → List Entry → (k : ℕ) (name s : List ℕ) → List Check
  behind limit es k name s =
      there s (3 + k) 1 ∷ obeys 7 (3 + k) (known_type (get_or s (3 + k) 0))
      ∷ there s (3 + k + 1) 2 ∷ obeys 5 (3 + k + 1) (eqb (number_in s (3 + k + 1)) new_id)
      ∷ there s (3 + k + 3) 2
      ∷ (value_checks (get_or s (3 + k) 0) s (8 + k)
      ++ (record { passes = not (name_held name es); otherwise = NameHeld (holder name es) } ∷ obeys 11 0 (ltb (length es) limit) ∷ []))

  behind_stable : (limit : ℕ) (es : List Entry) (k : ℕ) (name : List ℕ) (x : Reason) → Stable (first_failing (behind limit es k name m) x) (first_failing (behind limit es k name n) x)
  unfolding behind first_failing
  behind_stable limit es k name x =
      there_stable (3 + k) 1 _ _ (λ l. rw (byte_same (3 + k) l)
      (test_stable _ _ _ _ _ refl (λ _.
      there_stable (3 + k + 1) 2 _ _ (λ i. rw (number_same (3 + k + 1) i)
      (test_stable _ _ _ _ _ refl (λ _.
      there_stable (3 + k + 3) 2 _ _ (λ _. value_then (get_or m (3 + k) 0) (8 + k) _ x)))))))

  assignment_stable : (limit : ℕ) (es : List Entry) (x : Reason) → Stable (first_failing (assignment_checks limit es m) x) (first_failing (assignment_checks limit es n) x)
  unfolding assignment_checks behind
  assignment_stable limit es x =
      rw (failing_both (text_checks m 66 0 1) _ x, failing_both (text_checks n 66 0 1) _ x)
      (text_stable 66 0 1 _ _ (λ l.
      let length_same : name_length_in n ≡ name_length_in m = number_same 1 (omega arith) in
      let name_same : name_in (name_length_in m) n ≡ name_in (name_length_in m) m = part_same 3 (name_length_in m) (omega arith) in
      rw (length_same, name_same) (behind_stable limit es (name_length_in m) (name_in (name_length_in m) m) x)))

  kind_stable : (limit : ℕ) (es : List Entry) (kind : ℕ) → KindIs kind
      → Stable (first_failing (behind_kind limit es kind m) (when_passed es kind m)) (first_failing (behind_kind limit es kind n) (when_passed es kind n))
  unfolding behind_kind when_passed pick
  kind_stable limit es kind KindIs.keep_alive_lem = same refl
  kind_stable limit es kind KindIs.hello = hello_stable Done
  kind_stable limit es kind KindIs.assignment = assignment_stable limit es Done
  kind_stable limit es kind KindIs.update = update_stable es

  -- ---- the whole list

  why_stable : (limit : ℕ) (mem : ServerMemory) (c : ℕ) → Stable (why limit mem c m) (why limit mem c n)
  unfolding why checks first_failing
  why_stable limit mem c =
      test_stable _ _ _ _ _ refl (λ _. test_stable _ _ _ _ _ refl (λ _. test_stable _ _ _ _ _ refl (λ _.
      there_stable 0 1 _ _ (λ l. rw (byte_same 0 l)
      (test_stable _ _ _ _ _ refl (λ f. test_stable _ _ _ _ _ refl (λ _. kind_stable limit (entries_of mem.table) (get_or m 0 0) (kind_is _ f))))))))

pub behind_not_looked_at : BehindNotLookedAt
behind_not_looked_at limit mem c m rest other = go (why_stable m (m ++ rest) (take-append_seam m rest ∙ sym (take-length m)) limit mem c)
  where
    go : Stable (why limit mem c m) (why limit mem c (m ++ rest)) → why limit mem c (m ++ rest) ≡ why limit mem c m
    go (Stable.cut h) = absurd (other h)
    go (Stable.same h) = sym h

-- ---- cut before the field that is named

bytes_take : (n : ℕ) (m : List ℕ) → Bytes m → Bytes (take n m)
bytes_take zero m b i = omega arith
bytes_take (suc n) [] b i = omega arith
bytes_take (suc n) (x ∷ m) b zero = b 0
bytes_take (suc n) (x ∷ m) b (suc i) = bytes_take n m (λ j. b (suc j)) i

pub cut_incomplete : CutIncomplete
unfolding Told
cut_incomplete limit some mem c m out b fault is of n before = given _ _ (any_output limit some mem c (take n m) out (bytes_take n m b)) (go (eqb (number_of (why limit mem c (take n m))) 1) refl)
  where
    beyond : why limit mem c (take n m) ≡ Refused fault → number_of (why limit mem c (take n m)) ≢ 1 → (number : ℕ) → fault.number ≡ number → OfField number → ⊥
    beyond e other number known OfField.not_whole = other (ap number_of e ∙ known)
    beyond e other number known (OfField.breaks_rule low high) =
        let told = rw e at (why_told limit mem c (take n m) (bytes_take n m b)) in
        omega (arith, told.within (rw known low) (rw known high), length-take n m, before)

    go : (t : Bool) → eqb (number_of (why limit mem c (take n m))) 1 ≡ t → number_of (why limit mem c (take n m)) ≡ 1
    go true e = eqb-true _ 1 e
    go false e =
        let other = eqb-false _ 1 e in
        let all : why limit mem c m ≡ why limit mem c (take n m) = ap (why limit mem c) (sym (take-append-drop n m)) ∙ behind_not_looked_at limit mem c (take n m) (drop n m) other in
        absurd (beyond (sym all ∙ is) other _ refl of)

    given : (expected number : ℕ) → GivenIn expected number → expected ≡ 1 → number ≡ 1
    given expected number GivenIn.same e = e
    given expected number (GivenIn.no_room z) e = absurd (omega (arith, z, e))
