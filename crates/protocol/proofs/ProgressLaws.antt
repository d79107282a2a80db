-- What a client's message takes is there, and what it sends has room.
use Rattle.std.specs.Prelude.{Ok, Err}
use Rattle.message.specs.Read.{AssignmentRead, UpdateRead}
use mathlib.Core.Path.{◌≡◌, refl, ap, ◌∙◌}
use mathlib.Core.Logic.{inl}
use mathlib.Core.Bool.{Bool, true, and-eq-true_iff}
use mathlib.Core.List.{List, [], ◌∷◌}
use Prim.Native.Nat.{ℕ, suc, ◌+◌, ◌*◌, ◌≤◌}
use native.Mathlib.Nat.{zero-add}
use native.Mathlib.Omega.{arith}
use lib.Dec.{leb}
use lib.ListN.{length, drop, get_or, length-append}
use lib.Seq.{drop-append_seam}
use borrow.Author.Tests.{leb-true}
use Rattle.field.specs.Answer.{RefusalNumber}
use Rattle.field.specs.Octets.{overwrite_at}
use Rattle.field.specs.declared.Fault.{Fault}
use Rattle.field.proofs.ChoiceLaws.{by_test}
use Rattle.field.proofs.OverwriteLaws.{length_overwrite, overwrite_eq}
use Rattle.message.specs.Layout.{Entry, assignment_bytes, update_bytes, revision_bytes}
use Rattle.message.specs.Reader.{id_allowed}
use Rattle.message.specs.declared.AllowedId.TheVariants.{Only}
use Rattle.message.proofs.ReadBack.{length_assignment, length_update, length_revision, longest_assignment_lem, longest_update_lem}
use Rattle.message.proofs.RefusalLaws.{refusal_number}
use Rattle.message.proofs.TakenLaws.{AssignmentIs, assignment_is, UpdateIs, update_is}
use Rattle.table.specs.Table.{entries_of, default_entry}
use Rattle.soundness.specs.Sound.{sound_table, sound_marks}
use Rattle.soundness.proofs.StoredLaws.{entries_well_formed, entries_fit}
use Rattle.recipients.specs.Recipients.{Recipients}
use Rattle.hello.specs.Hello.{hello_answer}
use Rattle.hello.proofs.HelloLaws.{length_hello}
use Rattle.protocol.specs.Judge.{Call, client_message, Verdict, refuse, ignore, accept_hello, unsupported_revision, store_new, store_update, judge, judge_kind, judge_message, judge_hello, judge_assignment, judge_update, close_mark, open_mark, read_done}
use Rattle.protocol.specs.Step.{ServerMemory, call_step, execute, refusal, answer}
use Rattle.protocol.specs.Answered.{MessageProgress, CallProgress}
use Rattle.protocol.proofs.AnswerLaws.{not_refused}
use Rattle.protocol.proofs.JudgeLaws.{VerdictIs, verdict_is}

-- ---- a verdict on a message of n bytes takes some of them

data Within (n : ℕ) : Verdict → Type 0 where
  refused : {fault : Fault} → Within n (refuse fault)
  ignored : {taken : ℕ} → 1 ≤ taken → taken ≤ n → Within n (ignore taken)
  accepted : {c : ℕ} → 3 ≤ n → Within n (accept_hello c)
  unsupported : {c : ℕ} → 3 ≤ n → Within n (unsupported_revision c)
  new : {e : Entry} {taken : ℕ} → 1 ≤ taken → taken ≤ n → Within n (store_new e taken)
  update : {id number taken : ℕ} {value : List ℕ} {to : Recipients} → 1 ≤ taken → taken ≤ n → Within n (store_update id number value taken to)

hello_within : (c mark : ℕ) (m : List ℕ) → Within (length m) (judge_hello c mark m)
unfolding judge_hello
hello_within c mark m =
    by_test (Within (length m)) _ _ _ (λ _. by_test (Within (length m)) _ _ _ (λ l. by_test (Within (length m)) _ _ _ (λ _. accepted (leb-true _ _ l))
    (λ _. unsupported (leb-true _ _ l))) (λ _. refused)) (λ _. refused)

assignment_within : (limit : ℕ) (es : List Entry) (m : List ℕ) (r : AssignmentRead) → AssignmentIs (id_allowed (Only 0xFFFF)) m r → Within (length m) (judge_assignment limit es m r)
unfolding judge_assignment
assignment_within limit es m (Err fault) f = refused
assignment_within limit es m (Ok read) (AssignmentIs.taken a h w f) =
    by_test (Within (length m)) _ _ _ (λ _. ignored (omega arith) h) (λ _. by_test (Within (length m)) _ _ _ (λ _. new (omega arith) h) (λ _. refused))

update_within : (c : ℕ) (es : List Entry) (m : List ℕ) (held : ℕ → Bool) (type_of : ℕ → ℕ) (r : UpdateRead) → UpdateIs held type_of m r → Within (length m) (judge_update c es m r)
unfolding judge_update
update_within c es m held type_of (Err fault) f = refused
update_within c es m held type_of (Ok read) (UpdateIs.taken a h w i n) =
    by_test (Within (length m)) _ _ _ (λ _. update (omega arith) h) (λ _. ignored (omega arith) h)

message_within : (limit : ℕ) (es : List Entry) (c mark : ℕ) (m : List ℕ) → Within (length m) (judge_message limit es c mark m)
unfolding judge_message judge_kind
message_within limit es c mark m =
    by_test P _ _ _ (λ l. by_test P _ _ _ (λ _. ignored (omega arith) (leb-true _ _ l)) (λ _. by_test P _ _ _ (λ _. hello_within c mark m)
    (λ _. by_test P _ _ _ (λ _. by_test P _ _ _ (λ _. assignment_within limit es m _ (assignment_is _ m)) (λ _. refused))
    (λ _. by_test P _ _ _ (λ _. by_test P _ _ _ (λ _. update_within c es m _ _ _ (update_is _ _ m)) (λ _. refused)) (λ _. refused))))) (λ _. refused)
  where
    P : Verdict → Type 0
    P = Within (length m)

judged : (limit : ℕ) (es : List Entry) (marks : List ℕ) (c : ℕ) (m : List ℕ) → Within (length m) (judge limit es marks (client_message c m))
unfolding judge
judged limit es marks c m =
    by_test (Within (length m)) _ _ _ (λ _. by_test (Within (length m)) _ _ _ (λ _. refused) (λ _. message_within limit es c (get_or marks c 0) m)) (λ _. refused)

-- ---- the answer

hello_some : (id : ℕ) (es : List Entry) → 1 ≤ length (hello_answer id es)
unfolding hello_answer
hello_some id [] = omega arith
hello_some id (e ∷ es) = omega (arith, length-append (assignment_bytes id e) (hello_answer (suc id) es), length_assignment id e)

module _ (limit : ℕ) (mem : ServerMemory) (m out : List ℕ) where
  quiet : (number : ℕ) → RefusalNumber number → MessageProgress limit m out (refusal mem out number)
  quiet number f = record {
    takes_there = omega arith;
    takes_some = λ taken. absurd (not_refused number f taken);
    sends_some = λ done. absurd (not_refused number f (inl done));
    sends_room = omega arith;
    sends_most = omega arith;
    output_length = refl;
    output_rest = refl;
  }

  refused_with_lem : (number : ℕ) → 1 ≤ number → number ≤ 14 → MessageProgress limit m out (refusal mem out number)
  refused_with_lem number a b = quiet number (refusal_number number a b)

  sent_rest : (messages : List ℕ) → length messages ≤ length out → drop (length messages) (overwrite_at out 0 messages) ≡ drop (length messages) out
  sent_rest messages room =
      ap (drop (length messages)) (overwrite_eq out 0 messages (omega arith)) ∙ drop-append_seam messages (drop (0 + length messages) out) ∙ ap (λ (n : ℕ). drop n out) (zero-add (length messages))

  done_with_lem : (taken : ℕ) (messages : List ℕ) (to : Recipients) (after : ServerMemory) → 1 ≤ taken → taken ≤ length m → 1 ≤ length messages → length messages ≤ 328 * limit + 4
      → MessageProgress limit m out (answer mem out taken messages to after)
  done_with_lem taken messages to after a b some most =
      by_test (MessageProgress limit m out) (leb (length messages) (length out)) _ _
      (λ room. record {
        takes_there = b;
        takes_some = λ _. a;
        sends_some = λ _. some;
        sends_room = leb-true _ _ room;
        sends_most = omega (arith, most);
        output_length = length_overwrite out 0 messages;
        output_rest = sent_rest messages (leb-true _ _ room);
      })
      (λ _. refused_with_lem 12 (omega arith) (omega arith))

  executed : sound_table limit mem.table ≡ true → (call : Call) (v : Verdict) → Within (length m) v → VerdictIs limit (entries_of mem.table) mem.marks call v
      → MessageProgress limit m out (execute mem out v)
  unfolding execute
  executed s call (refuse fault) refused (VerdictIs.refused f) = quiet fault.number f
  executed s call (ignore taken) (ignored a b) f = record {
    takes_there = b;
    takes_some = λ _. a;
    sends_some = λ e. absurd (omega (arith, e));
    sends_room = omega arith;
    sends_most = omega arith;
    output_length = refl;
    output_rest = refl;
  }
  executed s call (close_mark c) x4 f = elim x4 [ ]
  executed s call (open_mark c) x3 f = elim x3 [ ]
  executed s call read_done x'' f = elim x'' [ ]
  executed s call (accept_hello c) (accepted h) f =
      done_with_lem 3 (hello_answer 0 (entries_of mem.table)) _ _ (omega arith) h (hello_some 0 (entries_of mem.table))
      (omega (arith, length_hello 0 (entries_of mem.table) default_entry (entries_well_formed limit mem.table s), entries_fit limit mem.table s))
  executed s call (unsupported_revision c) (unsupported h) f =
      done_with_lem 3 (revision_bytes 2 0x0200) _ _ (omega arith) h (omega (arith, length_revision 2 0x0200)) (omega (arith, length_revision 2 0x0200))
  executed s call (store_new e taken) (new a b) (VerdictIs.created w free room) =
      done_with_lem taken (assignment_bytes mem.table.count e) _ _ a b (omega (arith, length_assignment mem.table.count e))
      (omega (arith, longest_assignment_lem mem.table.count e w))
  executed s call (store_update id number value taken to) (update a b) (VerdictIs.updated held w sent) =
      done_with_lem taken (update_bytes id number value) _ _ a b (omega (arith, length_update id number value))
      (omega (arith, longest_update_lem _ id number value w, entries_fit limit mem.table s))

pub call_progress : CallProgress
unfolding call_step
call_progress limit mem c m out =
    by_test (MessageProgress limit m out) _ _ _
    (λ s. executed limit mem m out ((and-eq-true_iff (sound_table limit mem.table) (sound_marks mem.marks)).0 s).0 (client_message c m) _ (judged limit _ _ c m) (verdict_is limit _ _ (client_message c m)))
    (λ _. refused_with_lem limit mem m out 14 (omega arith) (omega arith))
