-- Which numbers a reason can have, and that with 4 to 10 its place is that of a byte of the message; so what the call gives in any output.
use mathlib.Core.Path.{◌≡◌, refl, sym, ap, ◌∙◌}
use mathlib.Core.Logic.{◌≢◌}
use mathlib.Core.Bool.{Bool, true, false}
use mathlib.Core.List.{List}
use Prim.Native.Nat.{ℕ, ◌≤◌, ◌<◌}
use native.Mathlib.Omega.{arith}
use lib.Dec.{leb, eqb}
use lib.ListN.{length, length-replicate}
use borrow.Author.Tests.{leb-true, leb-false, eqb-true, eqb-false}
use Rattle.field.specs.Place.{TellsPlace}
use Rattle.text.specs.Fails.{TextFailsAt}
use Rattle.value.specs.Fails.{ValueFailsAt}
use Rattle.message.specs.Reader.{Bytes}
use Rattle.hello.specs.Hello.{longest_hello}
use Rattle.places.specs.MessageFails.{Ids, AssignmentFailsAt, UpdateFailsAt, MessageFailsAt}
use Rattle.places.proofs.MessageFailsLaws.{place_in_message}
use Rattle.protocol.specs.Judge.{client_message}
use Rattle.protocol.specs.Step.{ServerMemory, CallResult, call_step}
use Rattle.protocol.specs.Effect.{longest_output}
use Rattle.protocol.specs.Refused.{RoomDecides}
use Rattle.protocol.specs.Taken.{message_call}
use Rattle.protocol.proofs.RefusedLaws.{call_needs_room, room_last}
use Rattle.reason.specs.Reason.{number_of}
use Rattle.reason.specs.Why.{why}
use Rattle.reason.specs.Holds.{HoldsOf}
use Rattle.reason.specs.Answered.{CanMeet, ReasonNumbers, GivenIn, AnyOutput}
use Rattle.reason.specs.declared.Reason.{Reason}
use Rattle.reason.specs.declared.Reason.TheVariants.{Refused, KeepAlive, NameHeld, Equal, Older, Undefined, Applied, Done}
use Rattle.reason.proofs.AnsweredLaws.{call_gives}
use Rattle.reason.proofs.HoldsLaws.{reason_holds}

-- ---- fields

-- of a text or value: 1, or 7 to 10
data CutOrTold : ℕ → Type 0 where
  cut : CutOrTold 1
  told : {number : ℕ} → TellsPlace number → CutOrTold number

told_with : (number : ℕ) → 7 ≤ number → number ≤ 10 → CutOrTold number
told_with number a b = told (record { above = a; below = b })

text_told : (maxSize sizeSoFar : ℕ) (s : List ℕ) (number place : ℕ) → TextFailsAt maxSize sizeSoFar s number place → CutOrTold number
text_told maxSize sizeSoFar s number place (TextFailsAt.long_text l h) = told_with 10 (omega arith) (omega arith)
text_told maxSize sizeSoFar s number place (TextFailsAt.not_text f l h) = told_with 9 (omega arith) (omega arith)
text_told maxSize sizeSoFar s number place (TextFailsAt.cut_prefix l) = cut
text_told maxSize sizeSoFar s number place (TextFailsAt.cut_text l f h) = cut

value_told : (t : ℕ) (s : List ℕ) (number place : ℕ) → ValueFailsAt t s number place → CutOrTold number
value_told t s number place (ValueFailsAt.unknown_type_case k) = told_with 7 (omega arith) (omega arith)
value_told t s number place (ValueFailsAt.not_boolean e l h) = told_with 8 (omega arith) (omega arith)
value_told t s number place (ValueFailsAt.text e h) = text_told _ _ _ _ _ h
value_told t s number place (ValueFailsAt.many_booleans e l h) = told_with 10 (omega arith) (omega arith)
value_told t s number place (ValueFailsAt.many_doubles e l h) = told_with 10 (omega arith) (omega arith)
value_told t s number place (ValueFailsAt.cut_boolean e l) = cut
value_told t s number place (ValueFailsAt.cut_double e l) = cut
value_told t s number place (ValueFailsAt.cut_count element e l) = cut

-- of a field of the message
record FieldTold (m : List ℕ) (number place : ℕ) : Type 0 where
  at_least : 1 ≤ number
  at_most : number ≤ 10
  within : 4 ≤ number → place < length m

field_cut : (m : List ℕ) (place : ℕ) → FieldTold m 1 place
field_cut m place = record { at_least = omega arith; at_most = omega arith; within = λ low. absurd (omega arith) }

field_at : (m : List ℕ) (number place : ℕ) → 1 ≤ number → number ≤ 10 → place < length m → FieldTold m number place
field_at m number place a b l = record { at_least = a; at_most = b; within = λ _. l }

by_told : (m : List ℕ) (number place : ℕ) → CutOrTold number → (TellsPlace number → place < length m) → FieldTold m number place
by_told m number place cut f = field_cut m place
by_told m number place (told t) f = field_at m number place (omega (arith, t.above)) t.below (f t)

field_told : (ids : Ids) (m : List ℕ) (number place : ℕ) → MessageFailsAt ids m number place → FieldTold m number place
field_told ids m number place (MessageFailsAt.assignment k f) = go number place f
  where
    go : (number place : ℕ) → AssignmentFailsAt ids.allowed m number place → FieldTold m number place
    go number place (AssignmentFailsAt.name h) = by_told m number _ (text_told _ _ _ number _ h) (place_in_message ids m number _ (MessageFailsAt.assignment k (AssignmentFailsAt.name h)))
    go number place (AssignmentFailsAt.type name l h) = field_at m 7 _ (omega arith) (omega arith) l
    go number place (AssignmentFailsAt.cut_type name l) = field_cut m _
    go number place (AssignmentFailsAt.wrong_id_case type l h) = field_at m 5 _ (omega arith) (omega arith) (omega (arith, l))
    go number place (AssignmentFailsAt.cut_id type l) = field_cut m _
    go number place (AssignmentFailsAt.cut_number type a l h) = field_cut m _
    go number place (AssignmentFailsAt.value type a l h) =
        by_told m number _ (value_told _ _ number _ h) (place_in_message ids m number _ (MessageFailsAt.assignment k (AssignmentFailsAt.value type a l h)))
field_told ids m number place (MessageFailsAt.update k f) = go number place f
  where
    go : (number place : ℕ) → UpdateFailsAt ids.held ids.type_of m number place → FieldTold m number place
    go number place (UpdateFailsAt.unknown_id_case l h) = field_at m 6 1 (omega arith) (omega arith) (omega (arith, l))
    go number place (UpdateFailsAt.cut_id l) = field_cut m _
    go number place (UpdateFailsAt.cut_number a l h) = field_cut m _
    go number place (UpdateFailsAt.value a known l h) =
        by_told m number _ (value_told _ _ number _ h) (place_in_message ids m number _ (MessageFailsAt.update k (UpdateFailsAt.value a known l h)))

-- ---- reasons

pub record RefusalTold (m : List ℕ) (number place : ℕ) : Type 0 where
  pub can_meet : CanMeet number
  pub within : 4 ≤ number → number ≤ 10 → place < length m

unfoldable pub Told : List ℕ → Reason → Type 0
Told m (Refused fault) = RefusalTold m fault.number fault.place
Told m KeepAlive = Unit {0}
Told m (NameHeld id) = Unit {0}
Told m Equal = Unit {0}
Told m (Older d) = Unit {0}
Told m Undefined = Unit {0}
Told m (Applied d) = Unit {0}
Told m Done = Unit {0}

no_field : (m : List ℕ) (number : ℕ) → 1 ≤ number → number ≤ 3 → RefusalTold m number 0
no_field m number a b = record { can_meet = CanMeet.in_message a (omega arith); within = λ low high. absurd (omega arith) }

of_field : (m : List ℕ) (number place : ℕ) → FieldTold m number place → RefusalTold m number place
of_field m number place f = record { can_meet = CanMeet.in_message f.at_least (omega (arith, f.at_most)); within = λ low _. f.within low }

holds_told : (limit : ℕ) (mem : ServerMemory) (c : ℕ) (m : List ℕ) (r : Reason) → HoldsOf limit mem c m r → Told m r
unfolding Told
holds_told limit mem c m r (HoldsOf.unsound_memory h) = record { can_meet = CanMeet.in_memory; within = λ low high. absurd (omega arith) }
holds_told limit mem c m r (HoldsOf.no_connection s h) = no_field m 2 (omega arith) (omega arith)
holds_told limit mem c m r (HoldsOf.connection_closed b h) = no_field m 3 (omega arith) (omega arith)
holds_told limit mem c m r (HoldsOf.hello_not_open b k h) = no_field m 3 (omega arith) (omega arith)
holds_told limit mem c m r (HoldsOf.assignment_not_greeted b k h) = no_field m 3 (omega arith) (omega arith)
holds_told limit mem c m r (HoldsOf.update_not_greeted b k h) = no_field m 3 (omega arith) (omega arith)
holds_told limit mem c m r (HoldsOf.no_kind o n h) = no_field m 1 (omega arith) (omega arith)
holds_told limit mem c m r (HoldsOf.kind_unknown o n l a b d e) = of_field m 4 0 (field_at m 4 0 (omega arith) (omega arith) l)
holds_told limit mem c m r (HoldsOf.cut_revision b o k h) = of_field m 1 1 (field_cut m 1)
holds_told limit mem c m r (HoldsOf.field_fails b g f) = of_field m _ _ (field_told _ m _ _ f)
holds_told limit mem c m r (HoldsOf.full n h) = record { can_meet = CanMeet.in_message {number = 11} (omega arith) (omega arith); within = λ low high. absurd (omega arith) }
holds_told limit mem c m r (HoldsOf.keep_alive_lem h) = tt
holds_told limit mem c m r (HoldsOf.name_held_lem e h l i) = tt
holds_told limit mem c m r (HoldsOf.equal u h) = tt
holds_told limit mem c m r (HoldsOf.older u h i) = tt
holds_told limit mem c m r (HoldsOf.undefined u h) = tt
holds_told limit mem c m r (HoldsOf.applied u h i j) = tt
holds_told limit mem c m r (HoldsOf.hello_done v h) = tt
holds_told limit mem c m r (HoldsOf.assignment_done n h) = tt

pub why_told : (limit : ℕ) (mem : ServerMemory) (c : ℕ) (m : List ℕ) → Bytes m → Told m (why limit mem c m)
why_told limit mem c m b = holds_told limit mem c m _ (reason_holds limit mem c m b)

pub reason_numbers : ReasonNumbers
unfolding Told
reason_numbers limit mem c m b fault is = let h = rw is at (why_told limit mem c m b) in h.can_meet

-- ---- any output

not_room : (m : List ℕ) (r : Reason) → Told m r → number_of r ≢ 12
unfolding Told
not_room m (Refused fault) h e = go fault.number h.can_meet e
  where
    go : (n : ℕ) → CanMeet n → n ≢ 12
    go n (CanMeet.in_message a b) e = omega arith
    go n CanMeet.in_memory e = omega arith
not_room m KeepAlive h e = omega arith
not_room m (NameHeld id) h e = omega arith
not_room m Equal h e = omega arith
not_room m (Older d) h e = omega arith
not_room m Undefined h e = omega arith
not_room m (Applied d) h e = omega arith
not_room m Done h e = omega arith

pub any_output : AnyOutput
any_output limit some mem c m out b = go (eqb (number_of (why limit mem c m)) 0) refl
  where
    room : List ℕ
    room = longest_output limit

    long : longest_hello limit ≤ length room
    long = unfold longest_output in omega (arith, length-replicate {A = ℕ} (longest_hello limit) 0)

    gives : (call_step limit mem (message_call c m room)).number ≡ number_of (why limit mem c m)
    gives = call_gives limit some mem c m room long

    fits : (t : Bool) → leb (call_step limit mem (message_call c m room)).sent (length out) ≡ t → number_of (why limit mem c m) ≡ 0
        → RoomDecides mem out (call_step limit mem (message_call c m room)) (call_step limit mem (message_call c m out))
        → GivenIn (number_of (why limit mem c m)) (call_step limit mem (message_call c m out)).number
    fits true t z decides = rw (decides.fits (leb-true _ _ t), z) GivenIn.same
    fits false t z decides = rw (decides.too_short (leb-false _ _ t)) (GivenIn.no_room z)

    go : (t : Bool) → eqb (number_of (why limit mem c m)) 0 ≡ t → GivenIn (number_of (why limit mem c m)) (call_step limit mem (message_call c m out)).number
    go true e = fits _ refl (eqb-true _ 0 e) (call_needs_room limit mem (client_message c m) room out (gives ∙ eqb-true _ 0 e))
    go false e =
        rw (ap (λ (x : CallResult). x.number)
        (room_last limit mem (client_message c m) room out (λ d. eqb-false _ 0 e (sym gives ∙ d))
        (λ d. not_room m _ (why_told limit mem c m b) (sym gives ∙ d))) ∙ gives)
        GivenIn.same
