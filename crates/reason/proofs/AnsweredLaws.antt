-- The call itself gives the number, and tells the place, that go with the reason.
use Rattle.std.specs.Prelude.{Ok, Err}
use mathlib.Core.Path.{◌≡◌, refl, sym, ap, ◌∙◌}
use mathlib.Core.Bool.{Bool, true, false, false≢true, not, ◌&&◌, and-eq-true_iff}
use mathlib.Core.List.{List}
use Prim.Native.Nat.{ℕ, ◌<◌}
use native.Mathlib.Omega.{arith}
use lib.Dec.{leb, ltb, eqb}
use lib.ListN.{length, get_or}
use borrow.Author.Tests.{leb-true, ltb-true, eqb-true, eqb-false, ltb-false, le-leb, ne_eqb, not-true, not-false}
use Rattle.field.specs.Choice.{pick}
use Rattle.field.specs.Place.{reported_place}
use Rattle.field.specs.declared.Fault.{Fault}
use Rattle.field.proofs.ChoiceLaws.{by_test, pick_true, pick_false}
use Rattle.sequence.specs.SequenceNumber.{half, distance, passed_by}
use Rattle.message.specs.Layout.{Entry, keep_alive_kind, assignment_kind, update_kind}
use Rattle.message.specs.Read.{AssignmentRead, UpdateRead}
use Rattle.message.specs.Reader.{name_in}
use Rattle.message.proofs.TakenLaws.{UpdateIs, update_is}
use Rattle.table.specs.Names.{name_held}
use Rattle.table.specs.Table.{default_entry, entries_of}
use Rattle.soundness.specs.Sound.{sound_table, sound_marks}
use Rattle.protocol.specs.Judge.{client_message, Verdict, refuse, ignore, read_done, open_mark, close_mark, accept_hello, unsupported_revision, store_new, store_update, judge_hello, judge_assignment, judge_update, judge_kind, judge_message, judge}
use Rattle.protocol.specs.Step.{ServerMemory, CallResult, call_step}
use Rattle.protocol.specs.Effect.{Effect}
use Rattle.protocol.specs.Kept.{SoundMemory}
use Rattle.protocol.specs.Place.{place_of, call_place}
use Rattle.protocol.specs.Taken.{message_call}
use Rattle.protocol.proofs.RoomLaws.{with_room, call_with_room}
use Rattle.reason.specs.Reason.{number_of, refused_at}
use Rattle.reason.specs.Checks.{number_checks, stored_in, received_in}
use Rattle.reason.specs.Why.{first_failing}
use Rattle.reason.specs.Explain.{number_reason, ignored_reason, explain, verdict_reason}
use Rattle.reason.specs.Answered.{CallGives, place_told, CallTellsPlace}
use Rattle.reason.specs.declared.Reason.{Reason}
use Rattle.reason.specs.declared.Reason.TheVariants.{Applied, Older, Equal, Undefined}
use Rattle.reason.proofs.ExplainLaws.{why_explained}

-- ---- an update's number

pub number_applied : (stored received : ℕ) → passed_by stored received ≡ true → number_reason stored received ≡ Applied (distance stored received)
unfolding number_reason number_checks first_failing passed_by pick
number_applied stored received p =
    let d = distance stored received in
    let both = (and-eq-true_iff (leb 1 d) (ltb d half)).0 p in
    rw (ne_eqb d 0 (omega (arith, leb-true 1 d both.0)), ne_eqb d half (omega (arith, ltb-true d half both.1)), both.1)

-- what is said of one that is not greater
pub data NotApplied (stored received : ℕ) : Reason → Type 0 where
  equal : distance stored received ≡ 0 → NotApplied stored received Equal
  undefined : distance stored received ≡ half → NotApplied stored received Undefined
  older : half < distance stored received → NotApplied stored received (Older (distance received stored))

pub number_ignored : (stored received : ℕ) → passed_by stored received ≡ false → NotApplied stored received (number_reason stored received)
unfolding number_reason number_checks first_failing passed_by
number_ignored stored received p =
    by_test P _ _ _ (λ n0. by_test P _ _ _ (λ nh. by_test P _ _ _ (λ l. absurd (false≢true (sym p ∙ greater n0 l)))
    (λ l. older (beyond nh l))) (λ h. undefined (eqb-true d half (not-false (eqb d half) h)))) (λ z. equal (eqb-true d 0 (not-false (eqb d 0) z)))
  where
    d : ℕ
    d = distance stored received

    P : Reason → Type 0
    P = NotApplied stored received

    greater : not (eqb d 0) ≡ true → ltb d half ≡ true → (leb 1 d && ltb d half) ≡ true
    greater n l = rw (le-leb 1 d (omega (arith, eqb-false d 0 (not-true (eqb d 0) n))), l)

    beyond : not (eqb d half) ≡ true → ltb d half ≡ false → half < d
    beyond n l = omega (arith, eqb-false d half (not-true (eqb d half) n), ltb-false d half l)

-- ---- the number of the answer

number_not_applied : (stored received : ℕ) (r : Reason) → NotApplied stored received r → number_of r ≡ 16
number_not_applied stored received r (NotApplied.equal e) = refl
number_not_applied stored received r (NotApplied.undefined e) = refl
number_not_applied stored received r (NotApplied.older l) = refl

-- the number of what a verdict does, where it has room, goes with what is said of it
record Numbered (mem : ServerMemory) (es : List Entry) (m : List ℕ) (kind : ℕ) (v : Verdict) : Type 0 where
  same : (with_room mem v).number ≡ number_of (explain es kind m v)

module _ (limit : ℕ) (mem : ServerMemory) (es : List Entry) (m : List ℕ) where
  numbered_refusal : (kind : ℕ) (fault : Fault) → Numbered mem es m kind (refuse fault)
  numbered_refusal kind fault = record { same = refl }

  of_kind : (kind known : ℕ) (v : Verdict) → eqb kind known ≡ true → Numbered mem es m known v → Numbered mem es m kind v
  of_kind kind known v k h = rw (eqb-true kind known k) h

  assignment_numbered : (r : AssignmentRead) → Numbered mem es m assignment_kind (judge_assignment limit es m r)
  unfolding judge_assignment ignored_reason pick
  assignment_numbered (Err fault) = record { same = refl }
  assignment_numbered (Ok read) =
      by_test P (name_held (name_in read.name_length m) es) _ _ (λ _. record { same = refl }) (λ _. by_test P (ltb (length es) limit) _ _ (λ _. record { same = refl }) (λ _. record { same = refl }))
    where
      P : Verdict → Type 0
      P = Numbered mem es m assignment_kind

  update_numbered : (c : ℕ) (r : UpdateRead) → UpdateIs (λ id. ltb id (length es)) (λ id. (get_or es id default_entry).type) m r
      → Numbered mem es m update_kind (judge_update c es m r)
  unfolding judge_update ignored_reason pick
  update_numbered c (Err fault) f = record { same = refl }
  update_numbered c (Ok read) (UpdateIs.taken h n w i e) =
      rw (i, e)
      (by_test (Numbered mem es m update_kind) (passed_by (stored_in es m) (received_in m)) _ _ (λ p. record { same = rw (number_applied (stored_in es m) (received_in m) p) })
      (λ p. record { same = sym (number_not_applied _ _ _ (number_ignored (stored_in es m) (received_in m) p)) }))

  kind_numbered : (c mark kind : ℕ) → Numbered mem es m kind (judge_kind limit es c mark kind m)
  unfolding judge_kind judge_hello
  kind_numbered c mark kind =
      by_test P _ _ _ keep_alive_lem (λ _.
      by_test P _ _ _ (λ _. by_test P _ _ _ (λ _. by_test P _ _ _ (λ _. by_test P _ _ _ (λ _. record { same = refl }) (λ _. record { same = refl }))
      (λ _. numbered_refusal kind _)) (λ _. numbered_refusal kind _)) (λ _.
      by_test P _ _ _ (λ k. by_test P _ _ _ (λ _. of_kind kind assignment_kind _ k (assignment_numbered _)) (λ _. numbered_refusal kind _)) (λ _.
      by_test P _ _ _ (λ k. by_test P _ _ _ (λ _. of_kind kind update_kind _ k (update_numbered c _ (update_is _ _ m))) (λ _. numbered_refusal kind _))
      (λ _. numbered_refusal kind _))))
    where
      P : Verdict → Type 0
      P = Numbered mem es m kind

      keep_alive_lem : eqb kind keep_alive_kind ≡ true → P (ignore 1)
      keep_alive_lem k = unfold ignored_reason in record { same = rw (pick_true _ _ k) }

  call_numbered : (marks : List ℕ) (c : ℕ) → Numbered mem es m (get_or m 0 0) (judge limit es marks (client_message c m))
  unfolding judge judge_message
  call_numbered marks c =
      by_test P _ _ _ (λ _. by_test P _ _ _ (λ _. numbered_refusal _ _) (λ _. by_test P _ _ _ (λ _. kind_numbered c _ (get_or m 0 0)) (λ _. numbered_refusal _ _)))
      (λ _. numbered_refusal _ _)
    where
      P : Verdict → Type 0
      P = Numbered mem es m (get_or m 0 0)

pub call_gives : CallGives
unfolding call_step
call_gives limit some mem c m out room = rw (why_explained limit mem c m) (go (sound_table limit mem.table && sound_marks mem.marks) refl)
  where
    es : List Entry
    es = entries_of mem.table

    sound : (sound_table limit mem.table && sound_marks mem.marks) ≡ true → SoundMemory limit mem
    sound h = let both = (and-eq-true_iff (sound_table limit mem.table) (sound_marks mem.marks)).0 h in record { table = both.0; marks = both.1 }

    go : (s : Bool) → (sound_table limit mem.table && sound_marks mem.marks) ≡ s
        → (call_step limit mem (message_call c m out)).number ≡ number_of (pick s (verdict_reason limit mem c m) (refused_at 14 0))
    go true s =
        ap (λ (e : Effect). e.number) (call_with_room limit mem some (sound s) (client_message c m) out room) ∙ (call_numbered limit mem es m mem.marks c).same ∙ ap number_of (sym (pick_true _ _ refl))
    go false s = ap (λ (r : CallResult). r.number) (pick_false _ _ s) ∙ ap number_of (sym (pick_false _ _ refl))

-- ---- the place that it tells

record Untold (r : Reason) : Type 0 where
  zero_told : place_told r ≡ 0

number_untold : (stored received : ℕ) → Untold (number_reason stored received)
unfolding number_reason number_checks first_failing
number_untold stored received =
    by_test Untold _ _ _ (λ _.
    by_test Untold _ _ _ (λ _. by_test Untold _ _ _ (λ _. record { zero_told = refl }) (λ _. record { zero_told = refl })) (λ _. record { zero_told = refl }))
    (λ _. record { zero_told = refl })

ignored_untold : (es : List Entry) (kind : ℕ) (m : List ℕ) → Untold (ignored_reason es kind m)
unfolding ignored_reason
ignored_untold es kind m =
    by_test Untold _ _ _ (λ _. record { zero_told = refl }) (λ _. by_test Untold _ _ _ (λ _. record { zero_told = refl }) (λ _. number_untold _ _))

verdict_tells : (es : List Entry) (kind : ℕ) (m : List ℕ) (v : Verdict) → place_of v ≡ place_told (explain es kind m v)
verdict_tells es kind m (refuse fault) = refl
verdict_tells es kind m (ignore taken) = sym (ignored_untold es kind m).zero_told
verdict_tells es kind m read_done = refl
verdict_tells es kind m (open_mark c) = refl
verdict_tells es kind m (close_mark c) = refl
verdict_tells es kind m (accept_hello c) = refl
verdict_tells es kind m (unsupported_revision c) = refl
verdict_tells es kind m (store_new e taken) = refl
verdict_tells es kind m (store_update id number value taken to) = sym (number_untold _ _).zero_told

pub call_tells_place : CallTellsPlace
unfolding call_place reported_place pick
call_tells_place limit mem c m = rw (why_explained limit mem c m) (go (sound_table limit mem.table && sound_marks mem.marks))
  where
    v : Verdict
    v = judge limit (entries_of mem.table) mem.marks (client_message c m)

    go : (s : Bool) → pick s (place_of v) 0 ≡ place_told (pick s (explain (entries_of mem.table) (get_or m 0 0) m v) (refused_at 14 0))
    go true = verdict_tells (entries_of mem.table) (get_or m 0 0) m v
    go false = refl
