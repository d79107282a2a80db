-- The copy takes the message that stands first, and looks at nothing behind it.
use Rattle.std.specs.Prelude.{Ok, Err}
use Rattle.message.specs.Read.{AssignmentRead, UpdateRead}
use mathlib.Core.Path.{◌≡◌, refl, sym, ap, ◌∙◌}
use mathlib.Core.Logic.{◌⊎◌}
use mathlib.Core.Bool.{true}
use mathlib.Core.List.{List, ◌++◌}
use Prim.Native.Nat.{ℕ}
use native.Mathlib.Omega.{arith}
use lib.Dec.{ltb}
use lib.ListN.{length, drop, get_or}
use borrow.Author.Tests.{ltb-true, leb-true, eqb-true}
use Rattle.field.specs.Answer.{RefusalNumber}
use Rattle.field.specs.Octets.{decode16}
use Rattle.field.specs.declared.Fault.{Fault}
use Rattle.field.proofs.ChoiceLaws.{by_test}
use Rattle.message.specs.Layout.{Entry, Message, keep_alive, hello, unsupported, hello_complete, assignment, update, layout, keep_alive_kind, unsupported_kind, hello_complete_kind, WellFormedMessage}
use Rattle.message.specs.Reader.{id_allowed, Bytes, BeginsWith}
use Rattle.message.specs.declared.AllowedId.TheVariants.{Only}
use Rattle.message.proofs.ReadBack.{length_revision}
use Rattle.message.proofs.FirstLaws.{AssignmentFirst, assignment_first, UpdateFirst, update_first}
use Rattle.message.proofs.ReadBytesLaws.{revision_stands, kind_stands}
use Rattle.message.proofs.RefusalLaws.{refusal_number}
use Rattle.table.specs.Table.{TableMemory, entries_of, default_entry}
use Rattle.soundness.specs.Sound.{sound_table}
use Rattle.protocol.specs.Copy.{CopyVerdict, refuse, judge_copy_assignment, judge_copy_update, judge_copy_kind, judge_copy, CopyResult, execute_copy, copy_message}
use Rattle.protocol.specs.CopyTaken.{FromServer, CopyStandsFirst, CopyOneStandsFirst, CopyTakesFirst, CopyMessageTaken}
use Rattle.protocol.proofs.AnswerLaws.{not_refused}
use Rattle.protocol.proofs.CopyLaws.{CopyVerdictIs, copy_verdict_is, copy_step, copy_comes_to, copy_judged}
use Rattle.protocol.proofs.TakenLaws.{type_in, update_typed, one_first}

-- ---- what stands first

well_formed : (es : List Entry) (m : List ℕ) (x : Message) → CopyStandsFirst es m x → WellFormedMessage (type_in es m) x
well_formed es m keep_alive s = tt
well_formed es m (hello revision) s = tt
well_formed es m (unsupported revision) s = tt
well_formed es m hello_complete s = tt
well_formed es m (assignment id e) s = s.obeys.1
well_formed es m (update id number value) s = update_typed es m id number value s.first s.obeys.1

pub copy_one_stands_first : CopyOneStandsFirst
copy_one_stands_first es m x y s t = one_first (type_in es m) m x y (well_formed es m x s) (well_formed es m y t) s.first t.first

data Judged (es : List Entry) (m : List ℕ) : CopyVerdict → Type 0 where
  refused : {fault : Fault} → Judged es m (refuse fault)
  taken : {v : CopyVerdict} (x : Message) → FromServer es x → BeginsWith m x → Judged es m v

module _ (limit : ℕ) (es : List Entry) (m : List ℕ) (b : Bytes m) where
  assignment_judged : (r : AssignmentRead) → AssignmentFirst (id_allowed (Only (length es))) m r → Judged es m (judge_copy_assignment limit es m r)
  unfolding judge_copy_assignment
  assignment_judged (Err fault) f = refused
  assignment_judged (Ok read) (AssignmentFirst.taken a w f l) = taken (assignment read.id _) (eqb-true read.id (length es) a, w) f

  update_judged : (r : UpdateRead) → UpdateFirst (λ i. ltb i (length es)) (λ i. (get_or es i default_entry).type) m r → Judged es m (judge_copy_update m r)
  unfolding judge_copy_update
  update_judged (Err fault) f = refused
  update_judged (Ok read) (UpdateFirst.taken h w f l) = taken (update read.id read.number _) (ltb-true _ _ h, w) f

  message_judged : Judged es m (judge_copy limit es m)
  unfolding judge_copy judge_copy_kind layout
  message_judged =
      by_test P _ _ _ (λ there.
      by_test P _ _ _ (λ k. taken keep_alive tt (kind_stands m keep_alive_kind (eqb-true _ _ k) (leb-true _ _ there))) (λ _.
      by_test P _ _ _ (λ k. taken hello_complete tt (kind_stands m hello_complete_kind (eqb-true _ _ k) (leb-true _ _ there))) (λ _.
      by_test P _ _ _ (λ k. by_test P _ _ _
      (λ l. taken (unsupported (decode16 (drop 1 m))) tt (revision_stands m unsupported_kind b (eqb-true _ _ k) (leb-true _ _ l))) (λ _. refused)) (λ _.
      by_test P _ _ _ (λ k. assignment_judged _ (assignment_first (id_allowed (Only (length es))) m b (eqb-true _ _ k))) (λ _.
      by_test P _ _ _ (λ k. update_judged _ (update_first (λ i. ltb i (length es)) (λ i. (get_or es i default_entry).type) m b (eqb-true _ _ k))) (λ _. refused))))))
      (λ _. refused)
    where
      P : CopyVerdict → Type 0
      P = Judged es m

-- ---- the call

data CopyCall (limit : ℕ) (m : TableMemory) (bytes : List ℕ) : CopyResult → Type 0 where
  refused : {r : CopyResult} → RefusalNumber r.number → CopyCall limit m bytes r
  taken : sound_table limit m ≡ true → (x : Message) → FromServer (entries_of m) x → BeginsWith bytes x → CopyCall limit m bytes (execute_copy m (copy_comes_to limit (entries_of m) x))

copy_call : (limit : ℕ) (m : TableMemory) (bytes : List ℕ) → Bytes bytes → CopyCall limit m bytes (copy_message limit m bytes)
unfolding copy_message execute_copy
copy_call limit m bytes b =
    by_test (CopyCall limit m bytes) _ _ _
    (λ s. go s _ refl (copy_verdict_is limit (entries_of m) bytes) (message_judged limit (entries_of m) bytes b))
    (λ _. CopyCall.refused (refusal_number 14 (omega arith) (omega arith)))
  where
    go : sound_table limit m ≡ true → (v : CopyVerdict) → judge_copy limit (entries_of m) bytes ≡ v → CopyVerdictIs limit (entries_of m) bytes v → Judged (entries_of m) bytes v
        → CopyCall limit m bytes (execute_copy m v)
    go s (refuse fault) e (CopyVerdictIs.refused n) refused = CopyCall.refused n
    go s v e f (taken x o first) =
        rw (sym e ∙ ap (judge_copy limit (entries_of m)) first ∙ copy_judged limit (entries_of m) x o _) (CopyCall.taken s x o first)

-- where a message is answered 0 or 16, so many bytes are taken
record Takes (n : ℕ) (r : CopyResult) : Type 0 where
  at_taken : (r.number ≡ 0) ⊎ (r.number ≡ 16) → r.taken ≡ n

takes_refused : (n number : ℕ) (m : TableMemory) → RefusalNumber number → Takes n (record { number = number; taken = 0; revision = 0; memory = m })
takes_refused n number m r = record { at_taken = λ e. absurd (not_refused number r e) }

comes_to_takes : (limit : ℕ) (m : TableMemory) (x : Message) → FromServer (entries_of m) x → Takes (length (layout x)) (execute_copy m (copy_comes_to limit (entries_of m) x))
unfolding execute_copy copy_comes_to layout
comes_to_takes limit m keep_alive o = record { at_taken = λ _. refl }
comes_to_takes limit m (hello revision) o = absurd o
comes_to_takes limit m (unsupported revision) o = record { at_taken = λ _. sym (length_revision unsupported_kind revision) }
comes_to_takes limit m hello_complete o = record { at_taken = λ _. refl }
comes_to_takes limit m (assignment id e) o =
    by_test P _ _ _ (λ _. takes_refused _ 13 m (refusal_number 13 (omega arith) (omega arith))) (λ _.
    by_test P _ _ _ (λ _. record { at_taken = λ _. refl }) (λ _. takes_refused _ 11 m (refusal_number 11 (omega arith) (omega arith))))
  where
    P : CopyVerdict → Type 0
    P v = Takes (length (layout (assignment id e))) (execute_copy m v)
comes_to_takes limit m (update id number value) o = record { at_taken = λ _. refl }

pub copy_message_taken : CopyMessageTaken
copy_message_taken limit m bytes b = go _ refl (copy_call limit m bytes b)
  where
    go : (r : CopyResult) → copy_message limit m bytes ≡ r → CopyCall limit m bytes r
        → ((copy_message limit m bytes).number ≡ 0) ⊎ ((copy_message limit m bytes).number ≡ 16) → CopyTakesFirst limit m bytes
    go r e (CopyCall.refused n) f = absurd (not_refused _ n (rw e at f))
    go r e (CopyCall.taken s x o first) f =
        record {
          message = x;
          stands = record { obeys = o; first = first };
          taken = rw e ((comes_to_takes limit m x o).at_taken (rw e at f));
          alone = λ rest. copy_step limit m (layout x ++ rest) s ∙ ap (execute_copy m) (copy_judged limit (entries_of m) x o rest) ∙ sym e;
        }
