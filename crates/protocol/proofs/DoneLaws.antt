-- What must be done is done, for every limit and in every sound memory: no refusal before the verdict, and then room.
use Rattle.std.specs.Prelude.{Ok}
use mathlib.Core.Path.{◌≡◌, refl, sym, ap, ◌∙◌}
use mathlib.Core.Bool.{true}
use mathlib.Core.List.{List, []}
use Prim.Native.Nat.{ℕ, ◌≤◌, ◌<◌}
use native.Mathlib.Omega.{arith}
use lib.ListN.{length, get_or, set}
use borrow.Author.Tests.{le-leb, lt-ltb, ne_eqb}
use Rattle.field.specs.Choice.{pick}
use Rattle.field.specs.Octets.{overwrite_at}
use Rattle.field.proofs.ChoiceLaws.{pick_true}
use Rattle.utf8.specs.Utf8.{is_utf8}
use Rattle.sequence.specs.SequenceNumber.{next_number, passed_by}
use Rattle.value.specs.Value.{IsValue}
use Rattle.value.proofs.ValueLaws.{lone_taken}
use Rattle.message.specs.Layout.{Entry, unsupported_kind, revision_bytes, hello, assignment, update, layout, WellFormed}
use Rattle.writer.specs.Writer.{check_name}
use Rattle.table.specs.Table.{default_entry, entries_of, store_value, entry_of, with_update}
use Rattle.table.proofs.TabulateLaws.{length_entries}
use Rattle.table.proofs.StoreLaws.{with_number_and_value}
use Rattle.soundness.specs.Sound.{large_enough}
use Rattle.soundness.proofs.StoredLaws.{stored_new, stored_value, entries_well_formed, entries_fit}
use Rattle.recipients.specs.Recipients.{Recipients, recipient_set}
use Rattle.recipients.proofs.RecipientLaws.{nobody_set, sender_set}
use Rattle.hello.specs.Hello.{hello_answer}
use Rattle.hello.proofs.HelloLaws.{length_hello}
use Rattle.protocol.specs.Judge.{open_connection, leave, local_create, local_write, protocol_revision, new_id, new_entry, judge_create, judge_write, judge}
use Rattle.protocol.specs.Step.{ServerMemory, answer, execute, fresh_start, read_scalar}
use Rattle.protocol.specs.Kept.{SoundMemory}
use Rattle.protocol.specs.Done.{done_result, HelloDone, OtherRevisionDone, HelloHasRoom, AssignmentDone, GreaterDone, OpenDone, LeaveDone, CreateDone, WriteDone, FreshStartDone, ReadDone}
use Rattle.protocol.proofs.SoundnessLaws.{step_is}
use Rattle.protocol.proofs.MessageLaws.{comes_to, connected, client_step}
use Rattle.protocol.proofs.ChangeLaws.{held}

-- an answer with room for it
answer_done : (mem : ServerMemory) (out : List ℕ) (taken : ℕ) (messages : List ℕ) (to : Recipients) (after : ServerMemory) → length messages ≤ length out
    → answer mem out taken messages to after ≡ done_result out taken messages (recipient_set to mem.marks) after
answer_done mem out taken messages to after room = pick_true _ _ (le-leb _ _ room)

-- the entries after another number and value of one
updated_entries : (limit : ℕ) (mem : ServerMemory) → SoundMemory limit mem → (id number : ℕ) (value : List ℕ) → id < mem.table.count
    → IsValue (entry_of mem.table id).type value
    → entries_of (store_value mem.table id number value) ≡ set (entries_of mem.table) id (with_update (entry_of mem.table id) number value)
unfolding with_number_and_value
updated_entries limit mem s id number value l w =
    stored_value limit mem.table s.table id number value (omega (arith, length_entries mem.table)) (rw (held mem.table id l) at w)
    ∙ ap (λ (e : Entry). set (entries_of mem.table) id (with_update e number value)) (sym (held mem.table id l))

-- ---- clients

pub hello_done : HelloDone
unfolding comes_to execute pick layout
hello_done limit mem s c b open' rest out room =
    client_step limit mem s c (connected mem c b (omega arith)) (hello protocol_revision) tt rest out
    ∙ rw open' (answer_done mem out 3 (hello_answer 0 (entries_of mem.table)) _ _ room ∙ rw (sender_set mem.marks c b))

pub other_revision_done : OtherRevisionDone
unfolding comes_to execute pick layout
other_revision_done limit mem s c b open' revision rest out other room =
    client_step limit mem s c (connected mem c b (omega arith)) (hello revision) tt rest out
    ∙ rw (open', ne_eqb revision protocol_revision other) (answer_done mem out 3 (revision_bytes unsupported_kind protocol_revision) _ _ room ∙ rw (sender_set mem.marks c b))

pub hello_has_room : HelloHasRoom
hello_has_room limit mem s =
    omega (arith, length_hello 0 (entries_of mem.table) default_entry (entries_well_formed limit mem.table s.table), entries_fit limit mem.table s.table)

pub assignment_done : AssignmentDone
unfolding comes_to execute pick layout
assignment_done limit mem s c b g e rest out w h l room =
    let few : length (entries_of mem.table) < limit = omega (arith, length_entries mem.table) in
    let new : WellFormed (new_entry e.name e.type e.value) = record { name_fits = w.name_fits; name_text = w.name_text; value_whole = w.value_whole } in
    record {
      answered = client_step limit mem s c (connected mem c b (omega arith)) (assignment new_id e) (refl, w) rest out ∙ rw (g, h, lt-ltb _ _ few) (answer_done mem out _ _ _ _ room);
      entries = stored_new limit mem.table s.table (new_entry e.name e.type e.value) new h few;
    }

pub greater_done : GreaterDone
unfolding comes_to execute pick layout
greater_done limit mem s c b g id number value rest out l w greater room =
    let newer : passed_by (get_or (entries_of mem.table) id default_entry).number number ≡ true = rw (held mem.table id l) at greater in
    record {
      answered =
          client_step limit mem s c (connected mem c b (omega arith)) (update id number value) (omega (arith, length_entries mem.table), rw (held mem.table id l) at w) rest out
          ∙ rw (g, newer) (answer_done mem out _ _ _ _ room);
      entries = updated_entries limit mem s id number value l w;
    }

-- ---- the plant's own calls

pub open_done : OpenDone
unfolding judge execute pick overwrite_at
open_done limit mem s c b closed out =
    step_is limit mem s (record { call = open_connection c; output = out })
    ∙ rw (lt-ltb c 16 b, closed) (answer_done mem out 0 [] _ _ (omega arith) ∙ rw (nobody_set mem.marks))

pub leave_done : LeaveDone
unfolding judge execute pick overwrite_at
leave_done limit mem s c b on out =
    step_is limit mem s (record { call = leave c; output = out })
    ∙ rw (lt-ltb c 16 b, ne_eqb _ _ on) (answer_done mem out 0 [] _ _ (omega arith) ∙ rw (nobody_set mem.marks))

-- a name that obeys the rules
pub name_checked : (name : List ℕ) → length name ≤ 64 → is_utf8 name ≡ true → check_name name ≡ Ok (length name)
unfolding check_name pick
name_checked name l u = rw (le-leb _ _ l, u)

pub create_done : CreateDone
unfolding judge judge_create execute pick
create_done limit mem s name type value out w h l room =
    let few : length (entries_of mem.table) < limit = omega (arith, length_entries mem.table) in
    record {
      answered =
          step_is limit mem s (record { call = local_create name type value; output = out })
          ∙ rw (name_checked name w.name_fits w.name_text, lone_taken type value w.value_whole, h, lt-ltb _ _ few) (answer_done mem out _ _ _ _ room);
      entries = stored_new limit mem.table s.table (new_entry name type value) w h few;
    }

pub write_done : WriteDone
unfolding judge judge_write execute pick
write_done limit mem s id value out l w differs room =
    let b : id < length (entries_of mem.table) = omega (arith, length_entries mem.table) in
    record {
      answered =
          step_is limit mem s (record { call = local_write id value; output = out })
          ∙ rw (lt-ltb _ _ b, ← held mem.table id l, lone_taken (entry_of mem.table id).type value w, differs) (answer_done mem out _ _ _ _ room);
      entries = updated_entries limit mem s id (next_number (entry_of mem.table id).number) value l w;
    }

-- ---- starting and reading

pub fresh_start_done : FreshStartDone
unfolding fresh_start large_enough pick
fresh_start_done limit mem h marks = rw (le-leb _ _ h.heads_hold, le-leb _ _ h.bytes_hold, le-leb _ _ marks)

pub read_done_lem : ReadDone
unfolding read_scalar pick
read_done_lem limit m s id l = rw (s, lt-ltb _ _ l)
