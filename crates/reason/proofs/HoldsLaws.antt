-- The reason named is true of the message.
use Rattle.std.specs.Prelude.{Ok, Err}
use mathlib.Core.Path.{◌≡◌, refl, sym, subst, ◌∙◌}
use mathlib.Core.Logic.{◌≢◌}
use mathlib.Core.Bool.{Bool, true, false, false≢true, ◌&&◌, and-eq-true_iff}
use mathlib.Core.List.{List}
use Prim.Native.Nat.{ℕ, ◌≤◌}
use native.Mathlib.Omega.{arith}
use lib.Dec.{leb, ltb}
use lib.ListN.{length, drop, get_or}
use borrow.Author.Tests.{leb-true, leb-false, ltb-true, ltb-false, eqb-true, eqb-false}
use Rattle.field.specs.Choice.{pick}
use Rattle.field.specs.Octets.{decode16}
use Rattle.field.proofs.ChoiceLaws.{by_test}
use Rattle.field.proofs.EqualLaws.{bytes_equal_true}
use Rattle.sequence.specs.SequenceNumber.{half, distance, passed_by}
use Rattle.message.specs.Layout.{Entry, hello, assignment, keep_alive_kind, hello_kind, assignment_kind, update_kind, layout}
use Rattle.message.specs.Read.{AssignmentRead, UpdateRead}
use Rattle.message.specs.Reader.{id_allowed, name_in, entry_in, update_value_in, Bytes, BeginsWith}
use Rattle.message.specs.declared.AllowedId.TheVariants.{Only}
use Rattle.message.proofs.FirstLaws.{AssignmentFirst, assignment_first, UpdateFirst, update_first}
use Rattle.message.proofs.ReadBytesLaws.{revision_stands, kind_stands}
use Rattle.message.proofs.TakenLaws.{AssignmentIs, assignment_is, UpdateIs, update_is}
use Rattle.table.specs.Names.{holder, name_held}
use Rattle.table.specs.Table.{default_entry, entries_of}
use Rattle.table.proofs.NamesLaws.{holder_found}
use Rattle.soundness.specs.Sound.{sound_table, sound_marks, closed, open', greeted}
use Rattle.places.specs.MessageFails.{MessageFailsAt, name_length_in}
use Rattle.places.specs.PlaceTells.{stored_type}
use Rattle.places.proofs.PlaceTellsLaws.{KnownTypes, sound_types}
use Rattle.places.proofs.MessageFailsLaws.{AssignmentRefuses, assignment_refuses, UpdateRefuses, update_refuses}
use Rattle.protocol.specs.Judge.{client_message, Verdict, ignore, new_id, judge_hello, judge_assignment, judge_update, judge_kind, judge_message, judge}
use Rattle.protocol.specs.Step.{ServerMemory}
use Rattle.protocol.specs.Kept.{SoundMemory}
use Rattle.reason.specs.Checks.{stored_in, received_in}
use Rattle.reason.specs.Explain.{number_reason, ignored_reason, explain}
use Rattle.reason.specs.Holds.{Reached, Stands, UpdateStands, NewNameStands, HoldsOf, ReasonHolds, Distances}
use Rattle.reason.specs.declared.Reason.{Reason}
use Rattle.reason.proofs.ExplainLaws.{why_explained}
use Rattle.reason.proofs.AnsweredLaws.{number_applied, NotApplied, number_ignored}

-- what is said of a verdict is true
record Said (limit : ℕ) (mem : ServerMemory) (c : ℕ) (m : List ℕ) (kind : ℕ) (v : Verdict) : Type 0 where
  holds : HoldsOf limit mem c m (explain (entries_of mem.table) kind m v)

module _ (limit : ℕ) (mem : ServerMemory) (c : ℕ) (m : List ℕ) (b : Bytes m) (on : Reached limit mem c) where
  es : List Entry
  es = entries_of mem.table

  -- ---- an assignment

  held_said : (n t q v taken : ℕ) → n ≡ name_length_in m → Stands limit mem c m (assignment new_id (entry_in n t q v m)) → name_held (name_in n m) es ≡ true
      → Said limit mem c m assignment_kind (ignore taken)
  unfolding ignored_reason pick name_held es
  held_said n t q v taken e stands h =
      let there = ltb-true (holder (name_in n m) es) (length es) h in
      record { holds = rw (← e) (HoldsOf.name_held_lem (entry_in n t q v m) stands there (bytes_equal_true _ _ (holder_found (name_in n m) es default_entry there))) }

  assignment_said : get_or m 0 0 ≡ assignment_kind → get_or mem.marks c 0 ≡ greeted → (r : AssignmentRead) → AssignmentRefuses (id_allowed (Only new_id)) m r
      → AssignmentFirst (id_allowed (Only new_id)) m r → AssignmentIs (id_allowed (Only new_id)) m r → Said limit mem c m assignment_kind (judge_assignment limit es m r)
  unfolding judge_assignment es
  assignment_said k g (Err fault) (AssignmentRefuses.refused h) f i = record { holds = HoldsOf.field_fails on g (MessageFailsAt.assignment k h) }
  assignment_said k g (Ok read) r (AssignmentFirst.taken a w first l) (AssignmentIs.taken a' l' w' fields) =
      by_test P (name_held (name_in read.name_length m) es) _ _ (λ h. held_said read.name_length read.type_code read.number read.value_length _ fields.name_is stands h) (λ new.
      by_test P (ltb (length es) limit) _ _ (λ few. record { holds = HoldsOf.assignment_done (new_name new) (ltb-true _ _ few) })
      (λ most. record { holds = HoldsOf.full (new_name new) (ltb-false _ _ most) }))
    where
      P : Verdict → Type 0
      P = Said limit mem c m assignment_kind

      stands : Stands limit mem c m (assignment new_id (entry_in read.name_length read.type_code read.number read.value_length m))
      stands =
          record {
            first = record { obeys = (refl, w); first = subst (λ (i : ℕ). BeginsWith m (assignment i (entry_in read.name_length read.type_code read.number read.value_length m))) (eqb-true read.id new_id a) first };
            reached = on;
            state = g;
          }

      new_name : name_held (name_in read.name_length m) es ≡ false → NewNameStands limit mem c m
      new_name new = record { entry = entry_in read.name_length read.type_code read.number read.value_length m; stands = stands; new = new }

  -- ---- an update

  not_applied_said : (u : UpdateStands limit mem c m) (r : Reason) → NotApplied (get_or es u.id default_entry).number u.received r → HoldsOf limit mem c m r
  unfolding es
  not_applied_said u r (NotApplied.equal e) = HoldsOf.equal u e
  not_applied_said u r (NotApplied.undefined e) = HoldsOf.undefined u e
  not_applied_said u r (NotApplied.older l) = HoldsOf.older u l refl

  applied_said : (u : UpdateStands limit mem c m) → passed_by (get_or es u.id default_entry).number u.received ≡ true
      → HoldsOf limit mem c m (number_reason (get_or es u.id default_entry).number u.received)
  unfolding es passed_by
  applied_said u p =
      let d = distance (get_or es u.id default_entry).number u.received in
      let both = (and-eq-true_iff (leb 1 d) (ltb d half)).0 p in
      rw (number_applied _ _ p) (HoldsOf.applied u refl (leb-true 1 d both.0) (ltb-true d half both.1))

  ignored_said : (id q taken : ℕ) → id ≡ decode16 (drop 1 m) → q ≡ decode16 (drop 3 m) → HoldsOf limit mem c m (number_reason (get_or es id default_entry).number q)
      → Said limit mem c m update_kind (ignore taken)
  unfolding ignored_reason pick es
  ignored_said id q taken i e h =
      let said : HoldsOf limit mem c m (number_reason (stored_in es m) (received_in m)) = rw (i, e) at h in
      record { holds = said }

  update_said : KnownTypes es → get_or m 0 0 ≡ update_kind → get_or mem.marks c 0 ≡ greeted → (r : UpdateRead) → UpdateRefuses (λ id. ltb id (length es)) (stored_type es) m r
      → UpdateFirst (λ id. ltb id (length es)) (stored_type es) m r → UpdateIs (λ id. ltb id (length es)) (stored_type es) m r
      → Said limit mem c m update_kind (judge_update c es m r)
  unfolding judge_update es KnownTypes
  update_said known k g (Err fault) (UpdateRefuses.type_unknown n h u) f i = absurd (false≢true (sym u ∙ known _ (ltb-true _ _ h)))
  update_said known k g (Err fault) (UpdateRefuses.refused n h) f i = record { holds = HoldsOf.field_fails on g (MessageFailsAt.update k h) }
  update_said known k g (Ok read) r (UpdateFirst.taken h w first l) (UpdateIs.taken h' l' w' i e) =
      by_test (Said limit mem c m update_kind) (passed_by (get_or es read.id default_entry).number read.number) _ _ (λ p. record { holds = applied_said u p })
      (λ p. ignored_said read.id read.number _ i e (not_applied_said u _ (number_ignored _ _ p)))
    where
      u : UpdateStands limit mem c m
      u = record { id = read.id; received = read.number; value = update_value_in read.value_length m; stands = record { first = record { obeys = (ltb-true _ _ h, w); first = first }; reached = on; state = g } }

  -- ---- a message

  hello_stands : get_or m 0 0 ≡ hello_kind → 3 ≤ length m → get_or mem.marks c 0 ≡ open' → Stands limit mem c m (hello (decode16 (drop 1 m)))
  unfolding layout
  hello_stands k l mark = record { first = record { obeys = tt; first = revision_stands m hello_kind b k l }; reached = on; state = mark }

  hello_said : get_or m 0 0 ≡ hello_kind → Said limit mem c m hello_kind (judge_hello c (get_or mem.marks c 0) m)
  unfolding judge_hello es
  hello_said k =
      by_test P _ _ _ (λ mark. by_test P _ _ _ (λ l.
      let said = HoldsOf.hello_done _ (hello_stands k (leb-true _ _ l) (eqb-true _ _ mark)) in
      by_test P _ _ _ (λ _. record { holds = said }) (λ _. record { holds = said }))
      (λ cut. record { holds = HoldsOf.cut_revision on (eqb-true _ _ mark) k (leb-false _ _ cut) }))
      (λ mark. record { holds = HoldsOf.hello_not_open on k (eqb-false _ _ mark) })
    where
      P : Verdict → Type 0
      P = Said limit mem c m hello_kind

  keep_alive_said : get_or m 0 0 ≡ keep_alive_kind → 1 ≤ length m → get_or mem.marks c 0 ≢ closed → (taken : ℕ) → Said limit mem c m keep_alive_kind (ignore taken)
  unfolding ignored_reason pick layout
  keep_alive_said k l mark taken =
      record { holds = HoldsOf.keep_alive_lem (record { first = record { obeys = tt; first = kind_stands m keep_alive_kind k l }; reached = on; state = mark }) }

  of_kind : (kind known : ℕ) (v : Verdict) → kind ≡ known → Said limit mem c m known v → Said limit mem c m kind v
  of_kind kind known v k h = rw k h

  kind_said : KnownTypes es → 1 ≤ length m → get_or mem.marks c 0 ≢ closed → Said limit mem c m (get_or m 0 0) (judge_kind limit es c (get_or mem.marks c 0) (get_or m 0 0) m)
  unfolding judge_kind es
  kind_said known there mark =
      by_test P _ _ _ (λ k. of_kind _ _ _ (eqb-true _ _ k) (keep_alive_said (eqb-true _ _ k) there mark _)) (λ n0.
      by_test P _ _ _ (λ k. of_kind _ _ _ (eqb-true _ _ k) (hello_said (eqb-true _ _ k))) (λ n1.
      by_test P _ _ _ (λ k. by_test P _ _ _ (λ g.
      of_kind _ _ _ (eqb-true _ _ k)
      (assignment_said (eqb-true _ _ k) (eqb-true _ _ g) _ (assignment_refuses allowed m) (assignment_first allowed m b (eqb-true _ _ k)) (assignment_is allowed m)))
      (λ g. record { holds = HoldsOf.assignment_not_greeted on (eqb-true _ _ k) (eqb-false _ _ g) })) (λ n16.
      by_test P _ _ _ (λ k. by_test P _ _ _ (λ g.
      of_kind _ _ _ (eqb-true _ _ k)
      (update_said known (eqb-true _ _ k) (eqb-true _ _ g) _ (update_refuses held (stored_type es) m) (update_first held (stored_type es) m b (eqb-true _ _ k)) (update_is held (stored_type es) m)))
      (λ g. record { holds = HoldsOf.update_not_greeted on (eqb-true _ _ k) (eqb-false _ _ g) }))
      (λ n17. record { holds = HoldsOf.kind_unknown on mark there (eqb-false _ _ n0) (eqb-false _ _ n1) (eqb-false _ _ n16) (eqb-false _ _ n17) }))))
    where
      P : Verdict → Type 0
      P = Said limit mem c m (get_or m 0 0)

      allowed : ℕ → Bool
      allowed = id_allowed (Only new_id)

      held : ℕ → Bool
      held id = ltb id (length es)

call_said : (limit : ℕ) (mem : ServerMemory) (c : ℕ) (m : List ℕ) → Bytes m → SoundMemory limit mem
    → Said limit mem c m (get_or m 0 0) (judge limit (entries_of mem.table) mem.marks (client_message c m))
unfolding judge judge_message es
call_said limit mem c m b sound =
    by_test P _ _ _ (λ l.
    let on : Reached limit mem c = record { sound = sound; connection = ltb-true _ _ l } in
    by_test P _ _ _ (λ mark. record { holds = HoldsOf.connection_closed on (eqb-true _ _ mark) }) (λ mark.
    by_test P _ _ _ (λ there. kind_said limit mem c m b on (sound_types limit mem.table sound.table) (leb-true _ _ there) (eqb-false _ _ mark))
    (λ there. record { holds = HoldsOf.no_kind on (eqb-false _ _ mark) (leb-false _ _ there) })))
    (λ l. record { holds = HoldsOf.no_connection sound (ltb-false _ _ l) })
  where
    P : Verdict → Type 0
    P = Said limit mem c m (get_or m 0 0)

pub reason_holds : ReasonHolds
reason_holds limit mem c m b =
    rw (why_explained limit mem c m)
    (by_test (HoldsOf limit mem c m) (sound_table limit mem.table && sound_marks mem.marks) _ _
    (λ s. let both = (and-eq-true_iff (sound_table limit mem.table) (sound_marks mem.marks)).0 s in (call_said limit mem c m b (record { table = both.0; marks = both.1 })).holds)
    (λ s. HoldsOf.unsound_memory s))

pub distances : Distances
distances stored received s r = record { equal = λ e. omega arith; round = λ n. omega arith }
