-- A reason that holds of a message is the one that is named: each case fixes the verdict.
use mathlib.Core.Path.{◌≡◌, refl, sym, ap, ◌∙◌}
use mathlib.Core.Logic.{◌≢◌}
use mathlib.Core.Bool.{true, false, ◌&&◌, and-eq-true_iff}
use mathlib.Core.List.{List, [], ◌∷◌, ◌++◌}
use Prim.Native.Nat.{ℕ, ◌≤◌, ◌<◌}
use native.Mathlib.Omega.{arith}
use lib.Dec.{ltb, eqb}
use lib.ListN.{length, drop, get_or}
use borrow.Author.Tests.{le-leb, lt-leb, lt-ltb, le-ltb, eq-eqb, ne_eqb}
use Rattle.field.specs.Choice.{pick}
use Rattle.field.specs.Octets.{decode16, encode16}
use Rattle.field.specs.Field.{fault_at}
use Rattle.field.proofs.ChoiceLaws.{by_test, pick_true, pick_false}
use Rattle.field.proofs.OctetsLaws.{decode_encode}
use Rattle.field.proofs.EqualLaws.{equal_bytes, bytes_equal_false}
use Rattle.sequence.specs.SequenceNumber.{half, distance, passed_by}
use Rattle.message.specs.Layout.{Entry, Message, keep_alive, hello, assignment, update, keep_alive_kind, hello_kind, assignment_kind, update_kind, assignment_bytes, update_bytes, layout}
use Rattle.message.specs.Reader.{id_allowed, name_in, BeginsWith}
use Rattle.message.specs.declared.AllowedId.TheVariants.{Only}
use Rattle.message.proofs.ReadBack.{name_back}
use Rattle.table.specs.Names.{holder, name_held, names_differ}
use Rattle.table.specs.Table.{default_entry, entries_of}
use Rattle.table.proofs.NamesLaws.{holder_first, differ_at}
use Rattle.soundness.specs.Sound.{sound_table, sound_marks, connections, closed, open', greeted}
use Rattle.soundness.proofs.StoredLaws.{entries_differ}
use Rattle.places.specs.MessageFails.{MessageFailsAt, name_length_in, update_id_in}
use Rattle.places.specs.PlaceTells.{stored_type, client_ids}
use Rattle.places.proofs.MessageFailsLaws.{assignment_failing, update_failing}
use Rattle.protocol.specs.Judge.{client_message, Verdict, refuse, refuse_call, store_new, new_id, new_entry, judge_hello, judge_assignment, judge_update, judge_kind, judge_message, judge}
use Rattle.protocol.specs.Step.{ServerMemory}
use Rattle.protocol.specs.Kept.{SoundMemory}
use Rattle.protocol.proofs.MessageLaws.{comes_to, judged}
use Rattle.reason.specs.Checks.{number_checks, stored_in, received_in}
use Rattle.reason.specs.Why.{first_failing, why}
use Rattle.reason.specs.Explain.{number_reason, ignored_reason, explain}
use Rattle.reason.specs.Holds.{Reached, Stands, UpdateStands, stored, HoldsOf, OnlyHolds, OneReason}
use Rattle.reason.specs.declared.Reason.{Reason}
use Rattle.reason.specs.declared.Reason.TheVariants.{KeepAlive, NameHeld, Equal, Older, Undefined, Applied, Done}
use Rattle.reason.proofs.ExplainLaws.{why_explained}

-- a kind that is not 0 is there
kind_there : (m : List ℕ) → 1 ≤ get_or m 0 0 → 1 ≤ length m
kind_there [] l = l
kind_there (x ∷ m) l = omega arith

name_length_lem : (id : ℕ) (e : Entry) (rest : List ℕ) → name_length_in (assignment_bytes id e ++ rest) ≡ length e.name
unfolding assignment_bytes encode16
name_length_lem id e rest = decode_encode (length e.name) _

module _ (limit : ℕ) (mem : ServerMemory) (c : ℕ) (m : List ℕ) where
  es : List Entry
  es = entries_of mem.table

  mark : ℕ
  mark = get_or mem.marks c 0

  verdict : Verdict
  verdict = judge limit es mem.marks (client_message c m)

  -- the reason of a verdict that is known
  of_verdict : SoundMemory limit mem → (v : Verdict) (r : Reason) → verdict ≡ v → explain es (get_or m 0 0) m v ≡ r → r ≡ why limit mem c m
  unfolding es verdict
  of_verdict s v r e x =
      let sound : (sound_table limit mem.table && sound_marks mem.marks) ≡ true = (and-eq-true_iff _ _).1 (s.table, s.marks) in
      sym (why_explained limit mem c m ∙ pick_true _ _ sound ∙ ap (explain (entries_of mem.table) (get_or m 0 0) m) e ∙ x)

  on_connection : Reached limit mem c → mark ≢ closed → verdict ≡ judge_message limit es c mark m
  unfolding verdict mark judge pick
  on_connection on other = rw (lt-ltb c connections on.connection, ne_eqb (get_or mem.marks c 0) closed other)

  -- ---- refusals before the fields

  too_high : connections ≤ c → verdict ≡ refuse_call 2
  unfolding verdict judge pick
  too_high l = rw (le-ltb c connections l)

  is_closed_lem : Reached limit mem c → mark ≡ closed → verdict ≡ refuse_call 3
  unfolding verdict mark judge pick
  is_closed_lem on e = rw (lt-ltb c connections on.connection, eq-eqb (get_or mem.marks c 0) closed e)

  -- a state that is not the one for the kind
  wrong_state_lem : Reached limit mem c → judge_message limit es c mark m ≡ refuse_call 3 → verdict ≡ refuse_call 3
  unfolding verdict mark judge pick
  wrong_state_lem on e = rw (lt-ltb c connections on.connection) (by_test (λ (v : Verdict). v ≡ refuse_call 3) (eqb (get_or mem.marks c 0) closed) _ _ (λ _. refl) (λ _. e))

  not_open : get_or m 0 0 ≡ hello_kind → mark ≢ open' → judge_message limit es c mark m ≡ refuse_call 3
  unfolding judge_message judge_kind judge_hello pick
  not_open k h = rw (le-leb 1 (length m) (kind_there m (omega (arith, k))), k, ne_eqb mark open' h)

  assignment_ungreeted : get_or m 0 0 ≡ assignment_kind → mark ≢ greeted → judge_message limit es c mark m ≡ refuse_call 3
  unfolding judge_message judge_kind pick
  assignment_ungreeted k h = rw (le-leb 1 (length m) (kind_there m (omega (arith, k))), k, ne_eqb mark greeted h)

  update_ungreeted : get_or m 0 0 ≡ update_kind → mark ≢ greeted → judge_message limit es c mark m ≡ refuse_call 3
  unfolding judge_message judge_kind pick
  update_ungreeted k h = rw (le-leb 1 (length m) (kind_there m (omega (arith, k))), k, ne_eqb mark greeted h)

  no_bytes : length m < 1 → judge_message limit es c mark m ≡ refuse_call 1
  unfolding judge_message pick
  no_bytes l = rw (lt-leb 1 (length m) l)

  unknown : 1 ≤ length m → get_or m 0 0 ≢ keep_alive_kind → get_or m 0 0 ≢ hello_kind → get_or m 0 0 ≢ assignment_kind → get_or m 0 0 ≢ update_kind → judge_message limit es c mark m ≡ refuse_call 4
  unfolding judge_message judge_kind pick
  unknown l a b d e = rw (le-leb 1 (length m) l, ne_eqb _ _ a, ne_eqb _ _ b, ne_eqb _ _ d, ne_eqb _ _ e)

  revision_cut : get_or m 0 0 ≡ hello_kind → mark ≡ open' → length m < 3 → judge_message limit es c mark m ≡ refuse (fault_at 1 1)
  unfolding judge_message judge_kind judge_hello pick
  revision_cut k o l = rw (le-leb 1 (length m) (kind_there m (omega (arith, k))), k, eq-eqb mark open' o, lt-leb 3 (length m) l)

  -- ---- a field that fails

  field_refused : (number place : ℕ) → mark ≡ greeted → MessageFailsAt (client_ids es) m number place → judge_message limit es c mark m ≡ refuse (fault_at number place)
  unfolding judge_message judge_kind judge_assignment judge_update pick
  field_refused number place g (MessageFailsAt.assignment k f) =
      rw (le-leb 1 (length m) (kind_there m (omega (arith, k))), k, eq-eqb mark greeted g, assignment_failing (id_allowed (Only new_id)) m number place f)
  field_refused number place g (MessageFailsAt.update k f) =
      rw (le-leb 1 (length m) (kind_there m (omega (arith, k))), k, eq-eqb mark greeted g, update_failing (λ id. ltb id (length es)) (stored_type es) m number place f)

  -- ---- a message that stands first

  stands_verdict : (x : Message) → Stands limit mem c m x → mark ≢ closed → verdict ≡ comes_to limit es c mark x
  unfolding mark es
  stands_verdict x s other =
      on_connection s.reached other ∙ ap (judge_message limit es c mark) s.first.first ∙ judged limit es c mark x s.first.obeys (drop (length (layout x)) m)

  kind_is : (x : Message) (kind : ℕ) → BeginsWith m x → ((rest : List ℕ) → get_or (layout x ++ rest) 0 0 ≡ kind) → get_or m 0 0 ≡ kind
  kind_is x kind first f = ap (λ (l : List ℕ). get_or l 0 0) first ∙ f _

  keep_alive_only : Stands limit mem c m keep_alive → KeepAlive ≡ why limit mem c m
  unfolding mark comes_to ignored_reason layout pick
  keep_alive_only s =
      of_verdict s.reached.sound _ _ (stands_verdict keep_alive s s.state) (rw (kind_is keep_alive 0 s.first.first (λ rest. refl)))

  hello_only : (revision : ℕ) → Stands limit mem c m (hello revision) → Done ≡ why limit mem c m
  unfolding mark comes_to pick
  hello_only revision s =
      let other : mark ≢ closed = λ e. omega (arith, e, s.state) in
      of_verdict s.reached.sound _ _ (stands_verdict (hello revision) s other)
      (rw (eq-eqb (get_or mem.marks c 0) 1 s.state) (by_test (λ (v : Verdict). explain es (get_or m 0 0) m v ≡ Done) (eqb revision 0x0200) _ _ (λ _. refl) (λ _. refl)))

  -- ---- an assignment

  module _ (e : Entry) (s : Stands limit mem c m (assignment new_id e)) where
    assignment_verdict : verdict ≡ comes_to limit es c mark (assignment new_id e)
    unfolding mark
    assignment_verdict = stands_verdict (assignment new_id e) s (λ closed_is. omega (arith, closed_is, s.state))

    assignment_kind_lem : get_or m 0 0 ≡ assignment_kind
    unfolding layout assignment_bytes
    assignment_kind_lem = kind_is (assignment new_id e) assignment_kind s.first.first (λ rest. refl)

    name_is : name_in (name_length_in m) m ≡ e.name
    unfolding layout
    name_is =
        let rest = drop (length (layout (assignment new_id e))) m in
        ap (λ (l : List ℕ). name_in (name_length_in l) l) s.first.first
        ∙ ap (λ (n : ℕ). name_in n (assignment_bytes new_id e ++ rest)) (name_length_lem new_id e rest)
        ∙ name_back new_id e rest

    not_held : name_held e.name es ≡ false → (r : Reason)
        → explain es (get_or m 0 0) m (pick (ltb (length es) limit) (store_new (new_entry e.name e.type e.value) (length (assignment_bytes new_id e))) (refuse_call 11)) ≡ r → r ≡ why limit mem c m
    unfolding mark comes_to pick
    not_held new r x =
        of_verdict s.reached.sound _ r assignment_verdict (rw (eq-eqb (get_or mem.marks c 0) greeted s.state, new) x)

    held_only : (id : ℕ) → id < length es → (get_or es id default_entry).name ≡ e.name → NameHeld id ≡ why limit mem c m
    unfolding mark es comes_to ignored_reason pick
    held_only id l same =
        of_verdict s.reached.sound _ (NameHeld id) assignment_verdict
        (rw (eq-eqb (get_or mem.marks c 0) greeted s.state, held, assignment_kind_lem, name_is, first_is))
      where
        differs : names_differ es ≡ true
        differs = entries_differ limit mem.table s.reached.sound.table

        first_is : holder e.name es ≡ id
        first_is =
            holder_first e.name es default_entry id l
            (λ i k. bytes_equal_false _ _ (λ equal. differ_at es default_entry differs i id k l (equal ∙ sym same)))
            (equal_bytes _ _ same)

        held : name_held e.name es ≡ true
        held = unfold name_held in rw first_is (lt-ltb id (length es) l)

  -- ---- an update

  module _ (u : UpdateStands limit mem c m) where
    update_kind_lem : get_or m 0 0 ≡ update_kind
    unfolding layout update_bytes
    update_kind_lem = kind_is (update u.id u.received u.value) update_kind u.stands.first.first (λ rest. refl)

    id_is : update_id_in m ≡ u.id
    unfolding layout update_bytes encode16
    id_is = ap (λ (l : List ℕ). decode16 (drop 1 l)) u.stands.first.first ∙ decode_encode u.id _

    received_is : received_in m ≡ u.received
    unfolding layout update_bytes encode16
    received_is = ap (λ (l : List ℕ). decode16 (drop 3 l)) u.stands.first.first ∙ decode_encode u.received _

    stored_is : stored_in es m ≡ stored u
    unfolding es
    stored_is = ap (λ (id : ℕ). (get_or (entries_of mem.table) id default_entry).number) id_is

    update_only : (r : Reason) → number_reason (stored u) u.received ≡ r → r ≡ why limit mem c m
    unfolding mark es comes_to ignored_reason pick
    update_only r x =
        let other : mark ≢ closed = λ e. omega (arith, e, u.stands.state) in
        of_verdict u.stands.reached.sound _ r (stands_verdict (update u.id u.received u.value) u.stands other)
        (rw (eq-eqb (get_or mem.marks c 0) greeted u.stands.state)
        (by_test (λ (v : Verdict). explain es (get_or m 0 0) m v ≡ r) (passed_by (stored u) u.received) _ _ (λ _. x) (λ _. rw (update_kind_lem, stored_is, received_is) x)))

-- the number's reasons
number_equal : (stored received : ℕ) → distance stored received ≡ 0 → number_reason stored received ≡ Equal
unfolding number_reason number_checks first_failing pick
number_equal stored received e = rw e

number_undefined : (stored received : ℕ) → distance stored received ≡ half → number_reason stored received ≡ Undefined
unfolding number_reason number_checks first_failing pick
number_undefined stored received e = rw e

number_older : (stored received : ℕ) → half < distance stored received → number_reason stored received ≡ Older (distance received stored)
unfolding number_reason number_checks first_failing pick
number_older stored received l =
    let d = distance stored received in
    rw (ne_eqb d 0 (omega arith), ne_eqb d half (omega arith), le-ltb d half (omega arith))

number_applied_with : (stored received d : ℕ) → distance stored received ≡ d → 1 ≤ d → d < half → number_reason stored received ≡ Applied d
unfolding number_reason number_checks first_failing pick
number_applied_with stored received d e l h = rw (e, ne_eqb d 0 (omega arith), ne_eqb d half (omega arith), lt-ltb d half h)

pub only_holds : OnlyHolds
unfolding mark es pick
only_holds limit mem c m r (HoldsOf.unsound_memory h) = sym (why_explained limit mem c m ∙ pick_false _ _ h)
only_holds limit mem c m r (HoldsOf.no_connection s l) = of_verdict limit mem c m s _ _ (too_high limit mem c m l) refl
only_holds limit mem c m r (HoldsOf.connection_closed on h) = of_verdict limit mem c m on.sound _ _ (is_closed_lem limit mem c m on h) refl
only_holds limit mem c m r (HoldsOf.hello_not_open on k h) = of_verdict limit mem c m on.sound _ _ (wrong_state_lem limit mem c m on (not_open limit mem c m k h)) refl
only_holds limit mem c m r (HoldsOf.assignment_not_greeted on k h) =
    of_verdict limit mem c m on.sound _ _ (wrong_state_lem limit mem c m on (assignment_ungreeted limit mem c m k h)) refl
only_holds limit mem c m r (HoldsOf.update_not_greeted on k h) =
    of_verdict limit mem c m on.sound _ _ (wrong_state_lem limit mem c m on (update_ungreeted limit mem c m k h)) refl
only_holds limit mem c m r (HoldsOf.no_kind on n l) = of_verdict limit mem c m on.sound _ _ (on_connection limit mem c m on n ∙ no_bytes limit mem c m l) refl
only_holds limit mem c m r (HoldsOf.kind_unknown on n l a b d e) =
    of_verdict limit mem c m on.sound _ _ (on_connection limit mem c m on n ∙ unknown limit mem c m l a b d e) refl
only_holds limit mem c m r (HoldsOf.cut_revision on o k l) =
    let n : get_or mem.marks c 0 ≢ closed = λ e. omega (arith, e, o) in
    of_verdict limit mem c m on.sound _ _ (on_connection limit mem c m on n ∙ revision_cut limit mem c m k o l) refl
only_holds limit mem c m r (HoldsOf.field_fails {number = number} {place = place} on g f) =
    let n : get_or mem.marks c 0 ≢ closed = λ e. omega (arith, e, g) in
    of_verdict limit mem c m on.sound _ _ (on_connection limit mem c m on n ∙ field_refused limit mem c m number place g f) refl
only_holds limit mem c m r (HoldsOf.full n most) =
    not_held limit mem c m n.entry n.stands n.new _ (rw (le-ltb (length (entries_of mem.table)) limit most))
only_holds limit mem c m r (HoldsOf.keep_alive_lem s) = keep_alive_only limit mem c m s
only_holds limit mem c m r (HoldsOf.name_held_lem {id = id} e s l same) = held_only limit mem c m e s id l same
only_holds limit mem c m r (HoldsOf.equal u e) = update_only limit mem c m u Equal (number_equal _ _ e)
only_holds limit mem c m r (HoldsOf.older u l e) = update_only limit mem c m u _ (number_older _ _ l ∙ ap Older e)
only_holds limit mem c m r (HoldsOf.undefined u e) = update_only limit mem c m u Undefined (number_undefined _ _ e)
only_holds limit mem c m r (HoldsOf.applied {d = d} u e l h) = update_only limit mem c m u _ (number_applied_with _ _ d e l h)
only_holds limit mem c m r (HoldsOf.hello_done revision s) = hello_only limit mem c m revision s
only_holds limit mem c m r (HoldsOf.assignment_done n few) =
    not_held limit mem c m n.entry n.stands n.new Done (rw (lt-ltb (length (entries_of mem.table)) limit few))

pub one_reason : OneReason
one_reason limit mem c m r s a b = only_holds limit mem c m r a ∙ sym (only_holds limit mem c m s b)
