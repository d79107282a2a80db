-- What must be refused is refused: the check that fails is the first one.
use Rattle.std.specs.Prelude.{Err}
use mathlib.Core.Path.{◌≡◌, refl, sym, ap, ◌∙◌}
use mathlib.Core.Logic.{◌≢◌}
use mathlib.Core.Bool.{Bool, true, false, ◌&&◌, and-false}
use mathlib.Core.List.{List, [], ◌∷◌, ◌++◌}
use Prim.Native.Nat.{ℕ, suc, ◌≤◌, ◌<◌}
use native.Mathlib.Omega.{arith}
use lib.Dec.{leb}
use lib.ListN.{length, get_or}
use borrow.Author.Tests.{le-leb, lt-leb, lt-ltb, le-ltb, ne_eqb}
use Rattle.field.specs.Answer.{done, connection_too_high, unknown_id, output_too_short, unsound}
use Rattle.field.specs.Choice.{pick}
use Rattle.field.specs.Field.{fault_at}
use Rattle.field.specs.Octets.{encode16}
use Rattle.field.proofs.ChoiceLaws.{by_test, pick_true, pick_false}
use Rattle.field.proofs.OctetsLaws.{decode_encode}
use Rattle.value.proofs.ValueLaws.{lone_taken}
use Rattle.message.specs.Layout.{hello_kind, assignment_kind, update_kind, kind_size, update_bytes, hello, assignment, update, layout}
use Rattle.message.proofs.ReaderLaws.{update_unknown}
use Rattle.table.specs.Table.{entry_of, parse_held_update, entries_of}
use Rattle.table.proofs.TabulateLaws.{length_entries}
use Rattle.soundness.specs.Sound.{sound_table, sound_marks, connections, greeted}
use Rattle.protocol.specs.Judge.{Call, open_connection, leave, client_message, local_create, local_write, read_entry, Verdict, refuse, ignore, read_done, open_mark, close_mark, accept_hello, unsupported_revision, store_new, store_update, protocol_revision, new_id, judge_hello, judge_update, judge_kind, judge_message, judge_create, judge_write, judge}
use Rattle.protocol.specs.Step.{ServerMemory, CallResult, refusal, execute, sound_for, call_step}
use Rattle.protocol.specs.Kept.{SoundMemory}
use Rattle.protocol.specs.Taken.{message_call}
use Rattle.protocol.specs.Refused.{Concerns, UnsoundTableRefused, UnsoundMarksRefused, TooHighRefused, ClosedRefused, OpenAgainRefused, EmptyRefused, KindRefused, GreetedHelloRefused, UngreetedRefused, UnknownIdRefused, FullRefused, RoomDecides, CallNeedsRoom, without_room, RoomLast, HelloNoRoom, AssignmentNoRoom, UpdateNoRoom, OtherRevisionNoRoom, CreateNoRoom, WriteNoRoom, HeldNameRefused, NoEntryRefused}
use Rattle.protocol.proofs.SoundnessLaws.{step_is}
use Rattle.protocol.proofs.MessageLaws.{comes_to, connected, client_step}
use Rattle.protocol.proofs.ChangeLaws.{held}
use Rattle.protocol.proofs.DoneLaws.{name_checked}

-- ---- 14

pub unsound_table_refused : UnsoundTableRefused
unfolding call_step
unsound_table_refused limit mem k e = pick_false _ _ (not_sound k.call)
  where
    not_sound : (call : Call) → sound_for limit mem call ≡ false
    not_sound (open_connection c) = rw e
    not_sound (leave c) = rw e
    not_sound (client_message c m) = rw e
    not_sound (local_create name type value) = rw e
    not_sound (local_write id value) = rw e
    not_sound (read_entry id) = e

pub unsound_marks_refused : UnsoundMarksRefused
unfolding call_step
unsound_marks_refused limit mem k other e = pick_false _ _ (not_sound k.call other)
  where
    marks : (sound_table limit mem.table && sound_marks mem.marks) ≡ false
    marks = rw e (and-false (sound_table limit mem.table))

    not_sound : (call : Call) → ((id : ℕ) → call ≢ read_entry id) → sound_for limit mem call ≡ false
    not_sound (open_connection c) o = marks
    not_sound (leave c) o = marks
    not_sound (client_message c m) o = marks
    not_sound (local_create name type value) o = marks
    not_sound (local_write id value) o = marks
    not_sound (read_entry id) o = absurd (o id refl)

-- ---- connections

pub too_high_refused : TooHighRefused
unfolding judge execute pick
too_high_refused limit mem s c b k concerns = step_is limit mem s k ∙ go k.call concerns
  where
    go : (call : Call) → Concerns c call → execute mem k.output (judge limit (entries_of mem.table) mem.marks call) ≡ refusal mem k.output connection_too_high
    go (open_connection d) Concerns.opening = rw (le-ltb c connections b)
    go (leave d) Concerns.leaving = rw (le-ltb c connections b)
    go (client_message d m) Concerns.sending = rw (le-ltb c connections b)
    go (read_entry id) x3 = elim x3 [ ]
    go (local_write id value) x'' = elim x'' [ ]
    go (local_create name type value) x' = elim x' [ ]

pub closed_refused : ClosedRefused
unfolding judge execute pick
closed_refused limit mem s c b o m out =
    record {
      message = step_is limit mem s (message_call c m out) ∙ rw (lt-ltb c connections b, o);
      left = step_is limit mem s (record { call = leave c; output = out }) ∙ rw (lt-ltb c connections b, o);
    }

pub open_again_refused : OpenAgainRefused
unfolding judge execute pick
open_again_refused limit mem s c b o out = step_is limit mem s (record { call = open_connection c; output = out }) ∙ rw (lt-ltb c connections b, ne_eqb _ _ o)

-- ---- a client's message

pub empty_refused : EmptyRefused
unfolding judge judge_message execute pick
empty_refused limit mem s c b o out = step_is limit mem s (message_call c [] out) ∙ rw (lt-ltb c connections b, ne_eqb _ _ o)

pub kind_refused : KindRefused
unfolding judge judge_message judge_kind execute pick
kind_refused limit mem s c b o kind a h n u rest out =
    step_is limit mem s (message_call c (kind ∷ rest) out)
    ∙ rw (lt-ltb c connections b, ne_eqb _ _ o, le-leb 1 (suc (length rest)) (omega arith), ne_eqb _ _ a, ne_eqb _ _ h, ne_eqb _ _ n, ne_eqb _ _ u)

pub greeted_hello_refused : GreetedHelloRefused
unfolding judge judge_message judge_kind judge_hello execute pick
greeted_hello_refused limit mem s c b g rest out =
    step_is limit mem s (message_call c (hello_kind ∷ rest) out) ∙ rw (lt-ltb c connections b, g, le-leb 1 (suc (length rest)) (omega arith))

pub ungreeted_refused : UngreetedRefused
unfolding judge judge_message judge_kind execute pick
ungreeted_refused limit mem s c b o rest out =
    record {
      assignment = step_is limit mem s (message_call c (assignment_kind ∷ rest) out) ∙ rw (lt-ltb c connections b, o, le-leb 1 (suc (length rest)) (omega arith));
      update = step_is limit mem s (message_call c (update_kind ∷ rest) out) ∙ rw (lt-ltb c connections b, o, le-leb 1 (suc (length rest)) (omega arith));
    }

-- an update of an ID that is not held
not_held : (mem : ServerMemory) (id number : ℕ) (value rest : List ℕ) → mem.table.count ≤ id
    → parse_held_update (entries_of mem.table) (update_bytes id number value ++ rest) ≡ Err (fault_at unknown_id kind_size)
unfolding update_bytes encode16
not_held mem id number value rest l =
    let b : length (entries_of mem.table) ≤ id = omega (arith, length_entries mem.table) in
    update_unknown _ _ _ id (omega arith) (sym (decode_encode id _)) (le-ltb _ _ b)

-- an update of a greeted connection is judged as it is read
update_step : (limit : ℕ) (mem : ServerMemory) → SoundMemory limit mem → (c : ℕ) → c < connections → get_or mem.marks c 0 ≡ greeted → (rest out : List ℕ)
    → call_step limit mem (message_call c (update_kind ∷ rest) out)
    ≡ execute mem out (judge_update c (entries_of mem.table) (update_kind ∷ rest) (parse_held_update (entries_of mem.table) (update_kind ∷ rest)))
unfolding judge judge_message judge_kind pick
update_step limit mem s c b g rest out =
    step_is limit mem s (message_call c (update_kind ∷ rest) out) ∙ rw (lt-ltb c connections b, g, le-leb 1 (suc (length rest)) (omega arith))

pub unknown_id_refused : UnknownIdRefused
unfolding judge_update execute update_bytes
unknown_id_refused limit mem s c b g id number value rest out l = update_step limit mem s c b g _ out ∙ rw (not_held mem id number value rest l)

pub full_refused : FullRefused
unfolding comes_to execute pick layout
full_refused limit mem s c b g e rest out w h l =
    let f : limit ≤ length (entries_of mem.table) = omega (arith, length_entries mem.table) in
    client_step limit mem s c (connected mem c b (omega arith)) (assignment new_id e) (refl, w) rest out ∙ rw (g, h, le-ltb _ _ f)

-- ---- room

-- where nothing is sent, no room is needed
no_need : (mem : ServerMemory) (out : List ℕ) (done_with_lem r : CallResult) → done_with_lem.sent ≡ 0 → r.number ≡ done → RoomDecides mem out done_with_lem r
no_need mem out done_with_lem r none e = record { fits = λ _. e; too_short = λ l. absurd (omega (arith, none)) }

module _ (mem : ServerMemory) (room out : List ℕ) where
  answer_needs : (size : ℕ) (x y : CallResult) → x.sent ≡ size → y.number ≡ done → (pick (leb size (length room)) x (refusal mem room output_too_short)).number ≡ done
      → RoomDecides mem out (pick (leb size (length room)) x (refusal mem room output_too_short)) (pick (leb size (length out)) y (refusal mem out output_too_short))
  answer_needs size x y sent is_done =
      by_test (λ (z : CallResult). z.number ≡ done → RoomDecides mem out z (pick (leb size (length out)) y (refusal mem out output_too_short))) (leb size (length room)) _ _
      (λ _ _. record {
        fits = λ l. ap (λ (z : CallResult). z.number) (pick_true _ _ (le-leb size (length out) (omega (arith, l, sent)))) ∙ is_done;
        too_short = λ l. pick_false _ _ (lt-leb size (length out) (omega (arith, l, sent)));
      })
      (λ _ e. absurd (omega (arith, e)))

  executed_needs : (v : Verdict) → (execute mem room v).number ≡ done → RoomDecides mem out (execute mem room v) (execute mem out v)
  unfolding execute
  executed_needs (refuse fault) e = no_need mem out _ _ refl e
  executed_needs (ignore taken) e = no_need mem out _ _ refl e
  executed_needs read_done e = answer_needs _ _ _ refl refl e
  executed_needs (open_mark c) e = answer_needs _ _ _ refl refl e
  executed_needs (close_mark c) e = answer_needs _ _ _ refl refl e
  executed_needs (accept_hello c) e = answer_needs _ _ _ refl refl e
  executed_needs (unsupported_revision c) e = answer_needs _ _ _ refl refl e
  executed_needs (store_new new taken) e = answer_needs _ _ _ refl refl e
  executed_needs (store_update id number value taken to) e = answer_needs _ _ _ refl refl e

pub call_needs_room : CallNeedsRoom
unfolding call_step
call_needs_room limit mem call room out = go (sound_for limit mem call) (judge limit (entries_of mem.table) mem.marks call)
  where
    go : (b : Bool) (v : Verdict) → (pick b (execute mem room v) (refusal mem room unsound)).number ≡ done
        → RoomDecides mem out (pick b (execute mem room v) (refusal mem room unsound)) (pick b (execute mem out v) (refusal mem out unsound))
    go true v = unfold pick in executed_needs mem room out v
    go false v = unfold pick in λ e. no_need mem out _ _ refl e

-- a call that sends is done, or refused with 12
module _ (mem : ServerMemory) (room out : List ℕ) where
  done_or_12 : (b : Bool) (x : CallResult) → x.number ≡ done → (pick b x (refusal mem room output_too_short)).number ≢ done
      → (pick b x (refusal mem room output_too_short)).number ≢ output_too_short → ⊥
  unfolding pick
  done_or_12 true x e d t = d e
  done_or_12 false x e d t = t refl

  executed_last : (v : Verdict) → (execute mem room v).number ≢ done → (execute mem room v).number ≢ output_too_short
      → execute mem out v ≡ without_room mem out (execute mem room v)
  unfolding execute
  executed_last (refuse fault) d t = refl
  executed_last (ignore taken) d t = refl
  executed_last read_done d t = absurd (done_or_12 _ _ refl d t)
  executed_last (open_mark c) d t = absurd (done_or_12 _ _ refl d t)
  executed_last (close_mark c) d t = absurd (done_or_12 _ _ refl d t)
  executed_last (accept_hello c) d t = absurd (done_or_12 _ _ refl d t)
  executed_last (unsupported_revision c) d t = absurd (done_or_12 _ _ refl d t)
  executed_last (store_new new taken) d t = absurd (done_or_12 _ _ refl d t)
  executed_last (store_update id number value taken to) d t = absurd (done_or_12 _ _ refl d t)

pub room_last : RoomLast
unfolding call_step
room_last limit mem call room out = go (sound_for limit mem call) (judge limit (entries_of mem.table) mem.marks call)
  where
    go : (b : Bool) (v : Verdict) → (pick b (execute mem room v) (refusal mem room unsound)).number ≢ done
        → (pick b (execute mem room v) (refusal mem room unsound)).number ≢ output_too_short
        → pick b (execute mem out v) (refusal mem out unsound) ≡ without_room mem out (pick b (execute mem room v) (refusal mem room unsound))
    go true v = unfold pick in executed_last mem room out v
    go false v = unfold pick in λ _ _. refl

pub hello_no_room : HelloNoRoom
unfolding comes_to execute pick layout
hello_no_room limit mem s c b o rest out l =
    client_step limit mem s c (connected mem c b (omega arith)) (hello protocol_revision) tt rest out ∙ rw (o, lt-leb _ _ l)

pub assignment_no_room : AssignmentNoRoom
unfolding comes_to execute pick layout
assignment_no_room limit mem s c b g e rest out w h l room =
    let few : length (entries_of mem.table) < limit = omega (arith, length_entries mem.table) in
    client_step limit mem s c (connected mem c b (omega arith)) (assignment new_id e) (refl, w) rest out ∙ rw (g, h, lt-ltb _ _ few, lt-leb _ _ room)

pub update_no_room : UpdateNoRoom
unfolding comes_to execute pick layout
update_no_room limit mem s c b g id number value rest out l w greater room =
    client_step limit mem s c (connected mem c b (omega arith)) (update id number value) (omega (arith, length_entries mem.table), rw (held mem.table id l) at w) rest out
    ∙ rw (g, rw (held mem.table id l) at greater, lt-leb _ _ room)

pub other_revision_no_room : OtherRevisionNoRoom
unfolding comes_to execute pick layout
other_revision_no_room limit mem s c b o revision rest out other l =
    client_step limit mem s c (connected mem c b (omega arith)) (hello revision) tt rest out ∙ rw (o, ne_eqb _ _ other, lt-leb _ _ l)

pub create_no_room : CreateNoRoom
unfolding judge judge_create execute pick
create_no_room limit mem s name type value out w h l room =
    let few : length (entries_of mem.table) < limit = omega (arith, length_entries mem.table) in
    step_is limit mem s (record { call = local_create name type value; output = out })
    ∙ rw (name_checked name w.name_fits w.name_text, lone_taken type value w.value_whole, h, lt-ltb _ _ few, lt-leb _ _ room)

pub write_no_room : WriteNoRoom
unfolding judge judge_write execute pick
write_no_room limit mem s id value out l w differs room =
    let b : id < length (entries_of mem.table) = omega (arith, length_entries mem.table) in
    step_is limit mem s (record { call = local_write id value; output = out })
    ∙ rw (lt-ltb _ _ b, ← held mem.table id l, lone_taken (entry_of mem.table id).type value w, differs, lt-leb _ _ room)

-- ---- local calls

pub held_name_refused : HeldNameRefused
unfolding judge judge_create execute pick
held_name_refused limit mem s name type value out w h =
    step_is limit mem s (record { call = local_create name type value; output = out })
    ∙ rw (name_checked name w.name_fits w.name_text, lone_taken type value w.value_whole, h)

pub no_entry_refused : NoEntryRefused
unfolding judge judge_write execute pick
no_entry_refused limit mem s id l value out =
    let b : length (entries_of mem.table) ≤ id = omega (arith, length_entries mem.table) in
    record {
      writing = step_is limit mem s (record { call = local_write id value; output = out }) ∙ rw (le-ltb _ _ b);
      reading = step_is limit mem s (record { call = read_entry id; output = out }) ∙ rw (le-ltb _ _ b);
    }
