-- The first check that fails is what the verdict on the message says.
use Rattle.std.specs.Prelude.{Ok, Err}
use mathlib.Core.Path.{◌≡◌, refl, sym, ap, ◌∙◌}
use mathlib.Core.Bool.{Bool, true, false, not, ◌&&◌, and-eq-true_iff}
use mathlib.Core.List.{List, [], ◌∷◌, ◌++◌}
use Prim.Native.Nat.{ℕ, ◌+◌, ◌-◌}
use native.Mathlib.Omega.{arith}
use lib.Dec.{leb, ltb, eqb}
use lib.ListN.{length, drop, get_or}
use borrow.Author.Tests.{ltb-true, eqb-true}
use Rattle.field.specs.Choice.{pick}
use Rattle.field.specs.Octets.{decode16}
use Rattle.field.specs.Field.{fault_at, moved_by, and_then, Parsed}
use Rattle.field.specs.declared.Fault.{Fault}
use Rattle.field.proofs.ChoiceLaws.{by_test}
use Rattle.sequence.specs.SequenceNumber.{distance, passed_by}
use Rattle.text.specs.Text.{parse_text}
use Rattle.value.specs.Value.{known_type, parse_value}
use Rattle.message.specs.Layout.{Entry, keep_alive_kind, hello_kind, assignment_kind, update_kind}
use Rattle.message.specs.Read.{AssignmentRead, UpdateRead, an_assignment, an_update}
use Rattle.message.specs.Reader.{id_allowed, name_in, parse_behind_id, parse_after_name, parse_assignment, parse_behind_update_id, parse_update}
use Rattle.message.specs.declared.AllowedId.TheVariants.{Only}
use Rattle.reader.specs.Reader.{parse_text_at, parse_value_at}
use Rattle.table.specs.Names.{holder, name_held}
use Rattle.table.specs.Table.{entries_of, parse_held_update}
use Rattle.soundness.specs.Sound.{sound_table, sound_marks}
use Rattle.places.specs.MessageFails.{name_length_in, type_start, value_start, update_id_in}
use Rattle.places.specs.PlaceTells.{stored_type}
use Rattle.places.proofs.PlaceTellsLaws.{KnownTypes, sound_types}
use Rattle.protocol.specs.Judge.{client_message, Verdict, refuse, accept_hello, unsupported_revision, new_id, judge_hello, judge_assignment, judge_update, demand_greeted, judge_kind, judge_message, judge}
use Rattle.reason.specs.Reason.{refused_at}
use Rattle.reason.specs.Checks.{Check, there, obeys, number_in, text_size, text_checks, value_checks, hello_checks, assignment_checks, number_checks, stored_in, received_in, update_checks, from_client, state_allows, behind_kind, checks}
use Rattle.reason.specs.Why.{first_failing, when_passed, why}
use Rattle.reason.specs.Explain.{number_reason, ignored_reason, explain, WhyExplained}
use Rattle.reason.specs.declared.Reason.{Reason}
use Rattle.reason.specs.declared.Reason.TheVariants.{Refused, NameHeld, Applied, Done}
use Rattle.reason.proofs.FieldLaws.{failing_both, text_checks_lem, value_checks_lem}

-- ---- choices

-- what comes next where the test passes
pick_then : {X : Type 0} (b : Bool) {x x' : X} (y : X) → (b ≡ true → x ≡ x') → pick b x y ≡ pick b x' y
unfolding pick
pick_then true y f = f refl
pick_then false y f = refl

pick_same : {X : Type 0} (b : Bool) (x : X) → pick b x x ≡ x
unfolding pick
pick_same true x = refl
pick_same false x = refl

pick_map : {X Y : Type 0} (f : X → Y) (b : Bool) (x y : X) → f (pick b x y) ≡ pick b (f x) (f y)
unfolding pick
pick_map f true x y = refl
pick_map f false x y = refl

pick_not : {X : Type 0} (b : Bool) (x y : X) → pick (not b) x y ≡ pick b y x
unfolding pick
pick_not true x y = refl
pick_not false x y = refl

module _ (limit : ℕ) (es : List Entry) (known : KnownTypes es) (m : List ℕ) where
  -- ---- an assignment

  of_assignment : AssignmentRead → Reason
  of_assignment r = explain es assignment_kind m (judge_assignment limit es m r)

  assignment_refused : (fault : Fault) → of_assignment (Err fault) ≡ Refused fault
  unfolding of_assignment judge_assignment
  assignment_refused fault = refl

  -- a field, and then what is made of the rest
  assignment_then : (p : Parsed) (f : ℕ → AssignmentRead) → of_assignment (and_then Err p f) ≡ and_then Refused p (λ n. of_assignment (f n))
  assignment_then (Err fault) f = assignment_refused fault
  assignment_then (Ok n) f = refl

  name : List ℕ
  name = name_in (name_length_in m) m

  -- what comes behind the value
  assignment_last : Reason
  assignment_last = pick (name_held name es) (NameHeld (holder name es)) (pick (ltb (length es) limit) Done (refused_at 11 0))

  assignment_read : (type id q n v : ℕ) → n ≡ name_length_in m → of_assignment (an_assignment type id q n v) ≡ assignment_last
  unfolding of_assignment judge_assignment ignored_reason assignment_last name pick
  assignment_read type id q n v e =
      rw e
      (pick_map (explain es assignment_kind m) (name_held (name_in (name_length_in m) m) es) _ _
      ∙ ap (λ (r : Reason). pick (name_held (name_in (name_length_in m) m) es) (NameHeld (holder (name_in (name_length_in m) m) es)) r)
      (pick_map (explain es assignment_kind m) (ltb (length es) limit) _ _))

  value_then : (type place : ℕ) (f : ℕ → AssignmentRead) → ((v : ℕ) → of_assignment (f v) ≡ assignment_last) → known_type type ≡ true
      → of_assignment (and_then Err (parse_value_at type place m) f) ≡ first_failing (value_checks type m place) assignment_last
  unfolding parse_value_at
  value_then type place f is k =
      assignment_then (moved_by place (parse_value type (drop place m))) f
      ∙ go (moved_by place (parse_value type (drop place m)))
      ∙ value_checks_lem type m place assignment_last k
    where
      go : (p : Parsed) → and_then Refused p (λ n. of_assignment (f n)) ≡ and_then Refused p (λ _. assignment_last)
      go (Err fault) = refl
      go (Ok v) = is v

  -- a test, and the refusal where it does not pass
  assignment_test : (b : Bool) (number place : ℕ) (r : AssignmentRead) (next : Reason) → (b ≡ true → of_assignment r ≡ next)
      → of_assignment (pick b r (Err (fault_at number place))) ≡ pick b next (refused_at number place)
  assignment_test b number place r next is =
      pick_map of_assignment b r (Err (fault_at number place))
      ∙ rw (assignment_refused (fault_at number place)) (pick_then b (refused_at number place) is)

  -- the fields behind the name
  fields : List Check
  fields =
      there m (type_start m) 1 ∷ obeys 7 (type_start m) (known_type (get_or m (type_start m) 0))
      ∷ there m (type_start m + 1) 2 ∷ obeys 5 (type_start m + 1) (eqb (number_in m (type_start m + 1)) new_id)
      ∷ there m (type_start m + 3) 2 ∷ value_checks (get_or m (type_start m) 0) m (value_start m)

  behind_name : of_assignment (parse_after_name (id_allowed (Only new_id)) (type_start m) m) ≡ first_failing fields assignment_last
  unfolding parse_after_name parse_behind_id fields first_failing
  behind_name =
      let id_end : type_start m + 1 + 2 ≡ type_start m + 3 = omega arith in
      let number_end : type_start m + 3 + 2 ≡ type_start m + 5 = omega arith in
      let value_at : value_start m ≡ type_start m + 5 = omega arith in
      let n_is : type_start m - 3 ≡ name_length_in m = omega arith in
      rw (id_end, number_end, value_at)
      (assignment_test _ 1 (type_start m) _ _ (λ _.
      assignment_test _ 7 (type_start m) _ _ (λ k.
      assignment_test _ 1 (type_start m + 1) _ _ (λ _.
      assignment_test _ 5 (type_start m + 1) _ _ (λ _.
      assignment_test _ 1 (type_start m + 3) _ _ (λ _.
      value_then (get_or m (type_start m) 0) (type_start m + 5) _ (λ v. assignment_read _ _ _ _ v n_is) k))))))

  last_checks : List Check
  last_checks = record { passes = not (name_held name es); otherwise = NameHeld (holder name es) } ∷ obeys 11 0 (ltb (length es) limit) ∷ []

  last_is : first_failing last_checks Done ≡ assignment_last
  unfolding first_failing last_checks assignment_last
  last_is = pick_not (name_held name es) _ _

  assignment_explained : of_assignment (parse_assignment (id_allowed (Only new_id)) m) ≡ first_failing (assignment_checks limit es m) Done
  unfolding parse_assignment parse_text_at assignment_checks fields last_checks name
  assignment_explained =
      let type_at : 1 + text_size m 1 ≡ type_start m = omega arith in
      assignment_then (moved_by 1 (parse_text 66 0 (drop 1 m))) _
      ∙ text_checks_lem m 66 0 1 (λ size. of_assignment (parse_after_name (id_allowed (Only new_id)) (1 + size) m))
      ∙ rw (type_at, behind_name, ← last_is, ← (failing_both fields last_checks Done)) (sym (failing_both (text_checks m 66 0 1) (fields ++ last_checks) Done))

  -- ---- an update

  of_update : (c : ℕ) → UpdateRead → Reason
  of_update c r = explain es update_kind m (judge_update c es m r)

  -- what comes behind the value
  update_last : Reason
  update_last = number_reason (stored_in es m) (received_in m)

  update_refused : (c : ℕ) (fault : Fault) → of_update c (Err fault) ≡ Refused fault
  unfolding of_update judge_update
  update_refused c fault = refl

  update_read : (c v : ℕ) → of_update c (an_update (update_id_in m) (received_in m) v) ≡ update_last
  unfolding of_update judge_update ignored_reason update_last pick
  update_read c v =
      pick_map (explain es update_kind m) (passed_by (stored_in es m) (received_in m)) _ _ ∙ pick_same (passed_by (stored_in es m) (received_in m)) (number_reason (stored_in es m) (received_in m))

  update_test : (c : ℕ) (b : Bool) (number place : ℕ) (r : UpdateRead) (next : Reason) → (b ≡ true → of_update c r ≡ next)
      → of_update c (pick b r (Err (fault_at number place))) ≡ pick b next (refused_at number place)
  update_test c b number place r next is =
      pick_map (of_update c) b r (Err (fault_at number place)) ∙ rw (update_refused c (fault_at number place)) (pick_then b (refused_at number place) is)

  update_value : (c : ℕ) → known_type (stored_type es (update_id_in m)) ≡ true
      → of_update c (and_then Err (parse_value_at (stored_type es (update_id_in m)) 5 m) (λ v. an_update (update_id_in m) (received_in m) v))
      ≡ first_failing (value_checks (stored_type es (update_id_in m)) m 5) update_last
  unfolding parse_value_at
  update_value c k = go (moved_by 5 (parse_value (stored_type es (update_id_in m)) (drop 5 m))) ∙ value_checks_lem (stored_type es (update_id_in m)) m 5 update_last k
    where
      go : (p : Parsed) → of_update c (and_then Err p (λ v. an_update (update_id_in m) (received_in m) v)) ≡ and_then Refused p (λ _. update_last)
      go (Err fault) = update_refused c fault
      go (Ok v) = update_read c v

  update_explained : (c : ℕ) → of_update c (parse_held_update es m) ≡ first_failing (update_checks es m) (Applied (distance (stored_in es m) (received_in m)))
  unfolding parse_update parse_behind_update_id update_checks first_failing update_last number_reason KnownTypes
  update_explained c =
      update_test c _ 1 1 _ _ (λ _.
      update_test c _ 6 1 _ _ (λ h.
      update_test c _ 1 3 _ _ (λ _.
      update_value c (known _ (ltb-true _ _ h)) ∙ sym (failing_both (value_checks (stored_type es (update_id_in m)) m 5) (number_checks (stored_in es m) (received_in m)) _))))

  -- ---- a message, by its kind

  hello_explained : (c mark : ℕ) → explain es hello_kind m (judge_hello c mark m) ≡ pick (eqb mark 1) (first_failing (hello_checks m) Done) (refused_at 3 0)
  unfolding judge_hello first_failing pick
  hello_explained c mark = go (eqb mark 1) (leb 3 (length m)) (eqb (decode16 (drop 1 m)) 0x0200)
    where
      go : (a b d : Bool)
          → explain es hello_kind m (pick a (pick b (pick d (accept_hello c) (unsupported_revision c)) (refuse (fault_at 1 1))) (refuse (fault_at 3 0)))
          ≡ pick a (pick b Done (refused_at 1 1)) (refused_at 3 0)
      go false b d = refl
      go true false d = refl
      go true true false = refl
      go true true true = refl

  greeted_then : (kind mark : ℕ) (v : Verdict) (next : Reason) → explain es kind m v ≡ next
      → explain es kind m (demand_greeted mark v) ≡ pick (eqb mark 2) next (refused_at 3 0)
  greeted_then kind mark v next is = pick_map (explain es kind m) (eqb mark 2) v (refuse (fault_at 3 0)) ∙ pick_then (eqb mark 2) (refused_at 3 0) (λ _. is)

  -- what is said past the connection's own checks and the kind's being there
  said : (mark kind : ℕ) → Reason
  said mark kind =
      pick (from_client kind) (pick (state_allows mark kind) (first_failing (behind_kind limit es kind m) (when_passed es kind m)) (refused_at 3 0)) (refused_at 4 0)

  said_keep_alive : (mark : ℕ) → said mark keep_alive_kind ≡ ignored_reason es keep_alive_kind m
  unfolding said from_client state_allows behind_kind when_passed first_failing ignored_reason pick
  said_keep_alive mark = refl

  said_hello : (mark : ℕ) → said mark hello_kind ≡ pick (eqb mark 1) (first_failing (hello_checks m) Done) (refused_at 3 0)
  unfolding said from_client state_allows behind_kind when_passed pick
  said_hello mark = refl

  said_assignment : (mark : ℕ) → said mark assignment_kind ≡ pick (eqb mark 2) (first_failing (assignment_checks limit es m) Done) (refused_at 3 0)
  unfolding said from_client state_allows behind_kind when_passed pick
  said_assignment mark = refl

  said_update : (mark : ℕ) → said mark update_kind
      ≡ pick (eqb mark 2) (first_failing (update_checks es m) (Applied (distance (stored_in es m) (received_in m)))) (refused_at 3 0)
  unfolding said from_client state_allows behind_kind when_passed pick
  said_update mark = refl

  said_unknown : (mark kind : ℕ) → eqb kind 0 ≡ false → eqb kind 1 ≡ false → eqb kind 0x10 ≡ false → eqb kind 0x11 ≡ false → said mark kind ≡ refused_at 4 0
  unfolding said from_client pick
  said_unknown mark kind a b c d = rw (a, b, c, d)

  kind_explained : (c mark kind : ℕ) → explain es kind m (judge_kind limit es c mark kind m) ≡ said mark kind
  unfolding judge_kind
  kind_explained c mark kind =
      by_test P _ _ _ (λ k. rw (eqb-true kind 0 k) (sym (said_keep_alive mark))) (λ n0.
      by_test P _ _ _ (λ k. rw (eqb-true kind 1 k) (hello_explained c mark ∙ sym (said_hello mark))) (λ n1.
      by_test P _ _ _ (λ k. rw (eqb-true kind 0x10 k) (greeted_then assignment_kind mark _ _ assignment_is ∙ sym (said_assignment mark))) (λ n16.
      by_test P _ _ _ (λ k. rw (eqb-true kind 0x11 k) (greeted_then update_kind mark _ _ update_is ∙ sym (said_update mark))) (λ n17.
      sym (said_unknown mark kind n0 n1 n16 n17)))))
    where
      P : Verdict → Type 0
      P v = explain es kind m v ≡ said mark kind

      assignment_is : explain es assignment_kind m (judge_assignment limit es m (parse_assignment (id_allowed (Only new_id)) m)) ≡ first_failing (assignment_checks limit es m) Done
      assignment_is = unfold of_assignment in assignment_explained

      update_is : explain es update_kind m (judge_update c es m (parse_held_update es m)) ≡ first_failing (update_checks es m) (Applied (distance (stored_in es m) (received_in m)))
      update_is = unfold of_update in update_explained c

  message_explained : (c mark : ℕ) → explain es (get_or m 0 0) m (judge_message limit es c mark m) ≡ pick (leb 1 (length m)) (said mark (get_or m 0 0)) (refused_at 1 0)
  unfolding judge_message
  message_explained c mark =
      pick_map (explain es (get_or m 0 0) m) (leb 1 (length m)) _ _ ∙ pick_then (leb 1 (length m)) (refused_at 1 0) (λ _. kind_explained c mark (get_or m 0 0))

  call_explained : (marks : List ℕ) (c : ℕ) → explain es (get_or m 0 0) m (judge limit es marks (client_message c m))
      ≡ pick (ltb c 16) (pick (not (eqb (get_or marks c 0) 0)) (pick (leb 1 (length m)) (said (get_or marks c 0) (get_or m 0 0)) (refused_at 1 0)) (refused_at 3 0)) (refused_at 2 0)
  unfolding judge
  call_explained marks c =
      pick_map explained (ltb c 16) _ _
      ∙ pick_then (ltb c 16) (refused_at 2 0) (λ _.
      pick_map explained (eqb (get_or marks c 0) 0) _ _
      ∙ sym (pick_not (eqb (get_or marks c 0) 0) (explained (judge_message limit es c (get_or marks c 0) m)) (refused_at 3 0))
      ∙ pick_then (not (eqb (get_or marks c 0) 0)) (refused_at 3 0) (λ _. message_explained c (get_or marks c 0)))
    where
      explained : Verdict → Reason
      explained v = explain es (get_or m 0 0) m v

-- in a sound table
pub why_explained : WhyExplained
unfolding why checks first_failing said
why_explained limit mem c m =
    pick_then (sound_table limit mem.table && sound_marks mem.marks) (refused_at 14 0)
    (λ s. sym (call_explained limit (entries_of mem.table) (sound_types limit mem.table ((and-eq-true_iff _ _).0 s).0) m mem.marks c))
