-- What is true at the place that a message is refused with.
use Rattle.std.specs.Prelude.{Err, Ok}
use mathlib.Core.Path.{◌≡◌, refl, sym, ◌∙◌}
use mathlib.Core.Bool.{Bool, true, false, false≢true}
use mathlib.Core.Logic.{◌≢◌}
use mathlib.Core.List.{List}
use Prim.Native.Nat.{ℕ, ◌+◌, ◌-◌, ◌≤◌, ◌<◌}
use native.Mathlib.Omega.{arith}
use lib.ListN.{length, take, drop, get_or, length-drop}
use lib.Seq.{drop-drop}
use lib.Dec.{leb}
use borrow.Author.Tests.{leb-true, leb-false, le-leb, lt-leb, eqb-true, ne_eqb}
use Rattle.field.specs.Answer.{unknown_type}
use Rattle.field.specs.Choice.{pick}
use Rattle.field.specs.Octets.{decode16}
use Rattle.field.specs.Field.{fault_at, moved_by, and_then, Parsed}
use Rattle.field.specs.Place.{TellsPlace, Told}
use Rattle.field.specs.declared.Fault.{Fault}
use Rattle.field.proofs.ChoiceLaws.{by_test}
use Rattle.field.proofs.PlaceLaws.{told, untold, Refuses}
use Rattle.utf8.specs.Utf8.{is_utf8}
use Rattle.text.specs.Text.{parse_text}
use Rattle.text.specs.Fails.{TextFailsAt}
use Rattle.text.proofs.TextLaws.{TextIs, text_is}
use Rattle.text.proofs.FailsLaws.{text_refuses, text_within, text_failing}
use Rattle.value.specs.Value.{known_type, parse_value}
use Rattle.value.specs.Fails.{ValueFailsAt}
use Rattle.value.proofs.ValueLaws.{value_unknown}
use Rattle.value.proofs.FailsLaws.{value_refuses, value_of_known, value_within, value_failing}
use Rattle.reader.specs.Reader.{parse_text_at, parse_value_at}
use Rattle.message.specs.Layout.{assignment_kind, update_kind}
use Rattle.message.specs.Read.{AssignmentRead, UpdateRead, an_assignment, an_update, Reading}
use Rattle.message.specs.Reader.{id_allowed, parse_behind_id, parse_after_name, parse_assignment, parse_behind_update_id, parse_update, parse_revision, of_assignment, type_given, of_update, parse_by_kind, parse_message, number_of, place_of}
use Rattle.places.specs.MessageFails.{name_length_in, type_start, value_start, assignment_id_in, update_id_in, NameStands, TypeStands, AssignmentFailsAt, AssignmentFails, AssignmentFailing, UpdateFailsAt, UpdateFails, UpdateFailing, MessageFailsAt, PlaceInMessage, ReadingFailsAt, ReadingTells}
use Rattle.message.specs.declared.AllowedId.TheVariants.{Any}
use Rattle.message.specs.declared.Decoded.TheVariants as D

-- ---- an assignment

pub data AssignmentRefuses (allowed : ℕ → Bool) (m : List ℕ) : AssignmentRead → Type 0 where
  refused : {fault : Fault} → AssignmentFailsAt allowed m fault.number fault.place → AssignmentRefuses allowed m (Err fault)
  taken : {n t id q v : ℕ} → AssignmentRefuses allowed m (an_assignment t id q n v)

module _ (allowed : ℕ → Bool) (m : List ℕ) where
  P : AssignmentRead → Type 0
  P = AssignmentRefuses allowed m

  at : (number place : ℕ) → AssignmentFailsAt allowed m number place → P (Err (fault_at number place))
  unfolding P
  at number place h = AssignmentRefuses.refused h

  value_part : (id q : ℕ) → TypeStands m → allowed (assignment_id_in m) ≡ true → type_start m + 5 ≤ length m
      → P (and_then Err (parse_value_at (get_or m (type_start m) 0) (type_start m + 5) m) (λ v. an_assignment (get_or m (type_start m) 0) id q (name_length_in m) v))
  unfolding P parse_value_at
  value_part id q type ok there =
      let start : type_start m + 5 ≡ value_start m = omega arith in
      rw start (go _ (value_refuses (get_or m (type_start m) 0) (drop (value_start m) m)))
    where
      go : (r : Parsed) → Refuses (ValueFailsAt (get_or m (type_start m) 0) (drop (value_start m) m)) r
          → P (and_then Err (moved_by (value_start m) r) (λ v. an_assignment (get_or m (type_start m) 0) id q (name_length_in m) v))
      go (Err fault) (Refuses.refused h) = AssignmentRefuses.refused (AssignmentFailsAt.value type ok (omega arith) h)
      go (Ok v) h = AssignmentRefuses.taken

  after_name_lem : NameStands m → P (parse_after_name allowed (type_start m) m)
  unfolding parse_after_name parse_behind_id
  after_name_lem name =
      let n_is : type_start m - 3 ≡ name_length_in m = omega arith in
      rw n_is
      (by_test P _ _ _ (λ there.
      by_test P _ _ _ (λ known. behind_type (stands (leb-true _ _ there) known))
      (λ k. at 7 (type_start m) (AssignmentFailsAt.type name (omega (arith, leb-true (type_start m + 1) (length m) there)) k)))
      (λ cut. at 1 (type_start m) (AssignmentFailsAt.cut_type name (leb-false (type_start m + 1) (length m) cut))))
    where
      stands : type_start m + 1 ≤ length m → known_type (get_or m (type_start m) 0) ≡ true → TypeStands m
      stands there known = record { name = name; there = omega arith; known = known }

      behind_type : TypeStands m
          → P (pick (leb (type_start m + 3) (length m))
          (pick (allowed (assignment_id_in m))
          (pick (leb (type_start m + 5) (length m))
          (and_then Err (parse_value_at (get_or m (type_start m) 0) (type_start m + 5) m)
          (λ v. an_assignment (get_or m (type_start m) 0) (assignment_id_in m) (decode16 (drop (type_start m + 3) m)) (name_length_in m) v))
          (Err (fault_at 1 (type_start m + 3))))
          (Err (fault_at 5 (type_start m + 1))))
          (Err (fault_at 1 (type_start m + 1))))
      behind_type type =
          by_test P _ _ _ (λ id.
          by_test P _ _ _ (λ ok.
          by_test P _ _ _ (λ l. value_part _ _ type ok (leb-true _ _ l))
          (λ cut. at 1 (type_start m + 3) (AssignmentFailsAt.cut_number type ok (leb-true _ _ id) (omega (arith, leb-false (type_start m + 5) (length m) cut)))))
          (λ other. at 5 (type_start m + 1) (AssignmentFailsAt.wrong_id_case type (leb-true _ _ id) other)))
          (λ cut. at 1 (type_start m + 1) (AssignmentFailsAt.cut_id type (leb-false _ _ cut)))

  pub assignment_refuses : AssignmentRefuses allowed m (parse_assignment allowed m)
  unfolding P parse_assignment parse_text_at
  assignment_refuses = go (parse_text 66 0 (drop 1 m)) (text_is 66 0 (drop 1 m)) (text_refuses 66 0 (drop 1 m))
    where
      go : (r : Parsed) → TextIs 66 0 (drop 1 m) r → Refuses (TextFailsAt 66 0 (drop 1 m)) r
          → AssignmentRefuses allowed m (and_then Err (moved_by 1 r) (λ size. parse_after_name allowed (1 + size) m))
      go (Err fault) f (Refuses.refused h) = AssignmentRefuses.refused (AssignmentFailsAt.name h)
      go (Ok k) (TextIs.taken e l h u f) g =
          let place : 1 + k ≡ type_start m = omega arith in
          let text : is_utf8 (take (name_length_in m) (drop 3 m)) ≡ true = rw (drop-drop 2 1 m) at u in
          rw place
          (after_name_lem (record { there = omega (arith, length-drop 1 m); fits = omega arith; text = text }))

pub assignment_fails : AssignmentFails
assignment_fails allowed m fault e = go (rw e at (assignment_refuses allowed m))
  where
    go : AssignmentRefuses allowed m (Err fault) → AssignmentFailsAt allowed m fault.number fault.place
    go (AssignmentRefuses.refused h) = h

-- ---- an update

pub data UpdateRefuses (held : ℕ → Bool) (type_of : ℕ → ℕ) (m : List ℕ) : UpdateRead → Type 0 where
  type_unknown : {fault : Fault} → fault.number ≡ unknown_type → held (update_id_in m) ≡ true → known_type (type_of (update_id_in m)) ≡ false
      → UpdateRefuses held type_of m (Err fault)
  refused : {fault : Fault} → fault.number ≢ unknown_type → UpdateFailsAt held type_of m fault.number fault.place → UpdateRefuses held type_of m (Err fault)
  taken : {id q v : ℕ} → UpdateRefuses held type_of m (an_update id q v)

pub update_refuses : (held : ℕ → Bool) (type_of : ℕ → ℕ) (m : List ℕ) → UpdateRefuses held type_of m (parse_update held type_of m)
unfolding parse_behind_update_id parse_update parse_value_at
update_refuses held type_of m =
    by_test P _ _ _ (λ there. by_test P _ _ _ (λ h. by_test P _ _ _ (λ l. by_type h (leb-true _ _ l) (known_type type) refl)
    (λ cut. early 1 3 (omega arith) (UpdateFailsAt.cut_number h (leb-true _ _ there) (leb-false _ _ cut))))
    (λ h. early 6 1 (omega arith) (UpdateFailsAt.unknown_id_case (leb-true _ _ there) h)))
    (λ cut. early 1 1 (omega arith) (UpdateFailsAt.cut_id (leb-false _ _ cut)))
  where
    P : UpdateRead → Type 0
    P = UpdateRefuses held type_of m

    type : ℕ
    type = type_of (update_id_in m)

    early : (number place : ℕ) → number < 7 → UpdateFailsAt held type_of m number place → P (Err (fault_at number place))
    early number place l h =
        let other : number ≢ 7 = λ e. omega arith in
        UpdateRefuses.refused other h

    go : held (update_id_in m) ≡ true → 5 ≤ length m → known_type type ≡ true → (r : Parsed) → Refuses (ValueFailsAt type (drop 5 m)) r
        → P (and_then Err (moved_by 5 r) (λ v. an_update (update_id_in m) (decode16 (drop 3 m)) v))
    go held-is l known (Err fault) (Refuses.refused h) =
        UpdateRefuses.refused (value_of_known type (drop 5 m) fault.number fault.place known h) (UpdateFailsAt.value held-is known l h)
    go held-is l known (Ok v) h = UpdateRefuses.taken

    by_type : held (update_id_in m) ≡ true → 5 ≤ length m → (known : Bool) → known_type type ≡ known
        → P (and_then Err (moved_by 5 (parse_value type (drop 5 m))) (λ v. an_update (update_id_in m) (decode16 (drop 3 m)) v))
    by_type h l true k = go h l k _ (value_refuses type (drop 5 m))
    by_type h l false k = rw (value_unknown type (drop 5 m) k) (UpdateRefuses.type_unknown refl h k)

pub update_fails : UpdateFails
update_fails held type_of m known fault e = go (rw e at (update_refuses held type_of m))
  where
    go : UpdateRefuses held type_of m (Err fault) → UpdateFailsAt held type_of m fault.number fault.place
    go (UpdateRefuses.type_unknown n h k) = absurd (false≢true (sym k ∙ known _ h))
    go (UpdateRefuses.refused n h) = h

-- ---- the other way

name_taken_lem : (m : List ℕ) → NameStands m → parse_text 66 0 (drop 1 m) ≡ Ok (2 + name_length_in m)
unfolding parse_text pick
name_taken_lem m n =
    rw (
      le-leb 2 (length (drop 1 m)) (omega (arith, n.there, length-drop 1 m)),
      le-leb (0 + (2 + name_length_in m)) 66 (omega (arith, n.fits)),
      le-leb (2 + name_length_in m) (length (drop 1 m)) (omega (arith, n.there, length-drop 1 m)),
      drop-drop 2 1 m,
      n.text,
    )

-- what is read behind a name that stands
after_name_is : (allowed : ℕ → Bool) (m : List ℕ) → NameStands m → parse_assignment allowed m ≡ parse_after_name allowed (type_start m) m
unfolding parse_assignment parse_text_at
after_name_is allowed m n =
    let place : 1 + (2 + name_length_in m) ≡ type_start m = omega arith in
    rw (name_taken_lem m n, place)

pub assignment_failing : AssignmentFailing
unfolding parse_assignment parse_text_at parse_after_name parse_behind_id parse_value_at pick
assignment_failing allowed m number place (AssignmentFailsAt.name {place = inner} h) = rw (text_failing 66 0 (drop 1 m) number inner h)
assignment_failing allowed m number place (AssignmentFailsAt.type n l h) = after_name_is allowed m n ∙ rw (le-leb (type_start m + 1) (length m) (omega arith), h)
assignment_failing allowed m number place (AssignmentFailsAt.cut_type n l) = after_name_is allowed m n ∙ rw (lt-leb (type_start m + 1) (length m) l)
assignment_failing allowed m number place (AssignmentFailsAt.wrong_id_case t l h) =
    after_name_is allowed m t.name ∙ rw (le-leb (type_start m + 1) (length m) (omega arith), t.known, le-leb (type_start m + 3) (length m) l, h)
assignment_failing allowed m number place (AssignmentFailsAt.cut_id t l) =
    after_name_is allowed m t.name ∙ rw (le-leb (type_start m + 1) (length m) (omega (arith, t.there)), t.known, lt-leb (type_start m + 3) (length m) l)
assignment_failing allowed m number place (AssignmentFailsAt.cut_number t a l h) =
    after_name_is allowed m t.name
    ∙ rw (le-leb (type_start m + 1) (length m) (omega arith), t.known, le-leb (type_start m + 3) (length m) l, a, lt-leb (type_start m + 5) (length m) (omega arith))
assignment_failing allowed m number place (AssignmentFailsAt.value {place = inner} t a l h) =
    let start : type_start m + 5 ≡ value_start m = omega arith in
    after_name_is allowed m t.name
    ∙ rw (
      le-leb (type_start m + 1) (length m) (omega arith),
      t.known,
      le-leb (type_start m + 3) (length m) (omega arith),
      a,
      start,
      le-leb (value_start m) (length m) l,
      value_failing (get_or m (type_start m) 0) (drop (value_start m) m) number inner t.known h,
    )

pub update_failing : UpdateFailing
unfolding parse_update parse_behind_update_id parse_value_at pick
update_failing held type_of m number place (UpdateFailsAt.unknown_id_case l h) = rw (le-leb 3 (length m) l, h)
update_failing held type_of m number place (UpdateFailsAt.cut_id l) = rw (lt-leb 3 (length m) l)
update_failing held type_of m number place (UpdateFailsAt.cut_number h l c) = rw (le-leb 3 (length m) l, h, lt-leb 5 (length m) c)
update_failing held type_of m number place (UpdateFailsAt.value {place = inner} h known l f) =
    rw (le-leb 3 (length m) (omega arith), h, le-leb 5 (length m) l, value_failing (type_of (update_id_in m)) (drop 5 m) number inner known f)

-- ---- a message

pub place_in_message : PlaceInMessage
place_in_message ids m number place (MessageFailsAt.assignment k f) tells = go number place f tells
  where
    go : (number place : ℕ) → AssignmentFailsAt ids.allowed m number place → TellsPlace number → place < length m
    go number place (AssignmentFailsAt.name {place = inner} h) tells = omega (arith, text_within 66 0 (drop 1 m) number inner h tells, length-drop 1 m)
    go number place (AssignmentFailsAt.type name there h) tells = there
    go number place (AssignmentFailsAt.cut_type name l) tells = absurd (omega arith)
    go number place (AssignmentFailsAt.wrong_id_case type there other) tells = absurd (omega arith)
    go number place (AssignmentFailsAt.cut_id type l) tells = absurd (omega arith)
    go number place (AssignmentFailsAt.cut_number type ok there l) tells = absurd (omega arith)
    go number place (AssignmentFailsAt.value {place = inner} type ok there h) tells =
        omega (arith, value_within (get_or m (type_start m) 0) (drop (value_start m) m) number inner type.known h tells, length-drop (value_start m) m)
place_in_message ids m number place (MessageFailsAt.update k f) tells = go number place f tells
  where
    go : (number place : ℕ) → UpdateFailsAt ids.held ids.type_of m number place → TellsPlace number → place < length m
    go number place (UpdateFailsAt.unknown_id_case there h) tells = absurd (omega arith)
    go number place (UpdateFailsAt.cut_id l) tells = absurd (omega arith)
    go number place (UpdateFailsAt.cut_number h there l) tells = absurd (omega arith)
    go number place (UpdateFailsAt.value {place = inner} held known there h) tells =
        omega (arith, value_within (ids.type_of (update_id_in m)) (drop 5 m) number inner known h tells, length-drop 5 m)

module _ (t : ℕ) (m : List ℕ) where
  Tells : Reading → Type 0
  Tells d = Told (ReadingFailsAt t m) (number_of d) (place_of d)

  of_assignment_lem : get_or m 0 0 ≡ assignment_kind → (a : AssignmentRead) → AssignmentRefuses (id_allowed Any) m a → Tells (of_assignment a)
  unfolding Tells
  of_assignment_lem k (Err fault) (AssignmentRefuses.refused h) = told _ fault (λ _. ReadingFailsAt.in_message (MessageFailsAt.assignment k h))
  of_assignment_lem k (Ok read) h = untold _ 0 (λ tells. omega arith)

  of_update_lem : get_or m 0 0 ≡ update_kind → (u : UpdateRead) → UpdateRefuses (id_allowed Any) (λ _. t) m u → Tells (of_update u)
  unfolding Tells pick
  of_update_lem k (Err fault) (UpdateRefuses.type_unknown n h unknown) =
      told _ (type_given fault) (λ _. rw n (ReadingFailsAt.type_given_case k unknown))
  of_update_lem k (Err fault) (UpdateRefuses.refused n h) =
      told _ (type_given fault) (λ _. rw (ne_eqb fault.number 7 n) (ReadingFailsAt.in_message (MessageFailsAt.update k h)))
  of_update_lem k (Ok read) h = untold _ 0 (λ tells. omega arith)

  none : (d : Reading) → number_of d ≡ 0 → place_of d ≡ 0 → Tells d
  unfolding Tells
  none d n p = rw (n, p) (untold _ 0 (λ tells. omega arith))

  early : (number place : ℕ) → number < 7 → Tells (Err (fault_at number place))
  unfolding Tells
  early number place h = told _ (fault_at number place) (λ tells. absurd (omega arith))

  of_revision : (isHello : Bool) → Tells (parse_revision isHello m)
  unfolding parse_revision
  of_revision isHello =
      by_test Tells _ _ _ (λ _. by_test Tells isHello _ _ (λ _. none (Ok (D.Hello _)) refl refl) (λ _. none (Ok (D.Unsupported _)) refl refl)) (λ _. early 1 1 (omega arith))

  tells : Tells (parse_message t m)
  unfolding parse_message parse_by_kind
  tells =
      by_test Tells _ _ _ (λ _.
      by_test Tells _ _ _ (λ _. none (Ok D.KeepAlive) refl refl) (λ _.
      by_test Tells _ _ _ (λ _. of_revision true) (λ _.
      by_test Tells _ _ _ (λ _. of_revision false) (λ _.
      by_test Tells _ _ _ (λ _. none (Ok D.HelloComplete) refl refl) (λ _.
      by_test Tells _ _ _ (λ k. of_assignment_lem (eqb-true _ _ k) _ (assignment_refuses (id_allowed Any) m)) (λ _.
      by_test Tells _ _ _ (λ k. of_update_lem (eqb-true _ _ k) _ (update_refuses (id_allowed Any) (λ _. t) m)) (λ _. early 4 0 (omega arith))))))))
      (λ _. early 1 0 (omega arith))

pub reading_tells : ReadingTells
unfolding Tells
reading_tells t m = tells t m
