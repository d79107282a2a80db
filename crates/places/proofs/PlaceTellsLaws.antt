-- What is true at the place that a call of either half tells.
use Rattle.std.specs.Prelude.{Ok, Err}
use mathlib.Core.Path.{◌≡◌, refl, sym, ◌∙◌}
use mathlib.Core.Bool.{Bool, true, false, and-eq-true_iff, false≢true}
use mathlib.Core.List.{List}
use Prim.Native.Nat.{ℕ, ◌<◌}
use native.Mathlib.Omega.{arith}
use lib.Dec.{ltb}
use lib.ListN.{length, get_or}
use borrow.Author.Tests.{ltb-true, eqb-true}
use Rattle.field.specs.Choice.{pick}
use Rattle.field.specs.Field.{fault_at}
use Rattle.field.specs.Place.{TellsPlace, Told}
use Rattle.field.specs.declared.Fault.{Fault}
use Rattle.field.proofs.ChoiceLaws.{by_test}
use Rattle.field.proofs.PlaceLaws.{told, untold}
use Rattle.value.specs.Value.{known_type}
use Rattle.value.proofs.ValueLaws.{value_known}
use Rattle.message.specs.Layout.{Entry, assignment_kind, update_kind}
use Rattle.message.specs.Read.{AssignmentRead, UpdateRead}
use Rattle.places.specs.MessageFails.{MessageFailsAt}
use Rattle.message.specs.Reader.{id_allowed}
use Rattle.message.specs.declared.AllowedId.TheVariants.{Only}
use Rattle.places.proofs.MessageFailsLaws.{AssignmentRefuses, assignment_refuses, UpdateRefuses, update_refuses, place_in_message}
use Rattle.places.proofs.WriterFailsLaws.{entry_refuses, lone_then}
use Rattle.table.specs.Table.{TableMemory, entries_of}
use Rattle.recipients.specs.Recipients.{Recipients}
use Rattle.soundness.specs.Sound.{sound_table}
use Rattle.soundness.proofs.StoredLaws.{entries_well_formed}
use Rattle.protocol.specs.Judge.{Call, open_connection, leave, client_message, local_create, local_write, read_entry, Verdict, refuse, ignore, read_done, open_mark, close_mark, accept_hello, unsupported_revision, store_new, store_update, new_id, refuse_call, judge_hello, judge_assignment, judge_update, judge_kind, judge_message, judge_create, judge_write, judge}
use Rattle.protocol.specs.Step.{ServerMemory, CallResult, refusal, execute, sound_for, call_step}
use Rattle.protocol.specs.Copy as C
use Rattle.protocol.specs.Copy.{CopyVerdict, judge_copy_assignment, judge_copy_update, judge_copy_kind, judge_copy, execute_copy, copy_message}
use Rattle.protocol.specs.Place.{place_of, call_place, copy_place_of, copy_place}
use Rattle.protocol.specs.Taken.{message_call}
use Rattle.places.specs.PlaceTells.{stored_type, copy_ids, CallFailsAt, CallTells, CallPlaceInMessage, CopyTells, CopyPlaceInMessage}

-- the types of held entries are known
unfoldable pub KnownTypes : List Entry → Type 0
KnownTypes es = (id : ℕ) → id < length es → known_type (stored_type es id) ≡ true

pub sound_types : (limit : ℕ) (m : TableMemory) → sound_table limit m ≡ true → KnownTypes (entries_of m)
unfolding KnownTypes
sound_types limit m s id l = value_known _ _ _ (entries_well_formed limit m s id l).value_whole

-- ---- a verdict

-- a refusal's place is that of a field which breaks the rule of its number
data VerdictFails (F : ℕ → ℕ → Type 0) : Verdict → Type 0 where
  refused : {fault : Fault} → (TellsPlace fault.number → F fault.number fault.place) → VerdictFails F (refuse fault)
  ignored : {taken : ℕ} → VerdictFails F (ignore taken)
  shown : VerdictFails F read_done
  opened : {c : ℕ} → VerdictFails F (open_mark c)
  left : {c : ℕ} → VerdictFails F (close_mark c)
  welcomed : {c : ℕ} → VerdictFails F (accept_hello c)
  turned_away : {c : ℕ} → VerdictFails F (unsupported_revision c)
  created : {e : Entry} {taken : ℕ} → VerdictFails F (store_new e taken)
  updated : {id number taken : ℕ} {value : List ℕ} {to : Recipients} → VerdictFails F (store_update id number value taken to)

module _ (mem : ServerMemory) (out : List ℕ) (F : ℕ → ℕ → Type 0) where
  room : (enough : Bool) (x y : CallResult) → x.number ≡ 0 → y.number ≡ 12 → Told F (pick enough x y).number 0
  room enough x y a b =
      by_test (λ (r : CallResult). Told F r.number 0) enough x y (λ _. rw a (untold F 0 (λ tells. omega arith))) (λ _. rw b (untold F 12 (λ tells. omega arith)))

  executed : (v : Verdict) → VerdictFails F v → Told F (execute mem out v).number (place_of v)
  unfolding execute
  executed (refuse fault) (refused h) = told F fault h
  executed (ignore taken) f = untold F 16 (λ tells. omega arith)
  executed read_done f = room _ _ _ refl refl
  executed (open_mark c) f = room _ _ _ refl refl
  executed (close_mark c) f = room _ _ _ refl refl
  executed (accept_hello c) f = room _ _ _ refl refl
  executed (unsupported_revision c) f = room _ _ _ refl refl
  executed (store_new e taken) f = room _ _ _ refl refl
  executed (store_update id number value taken to) f = room _ _ _ refl refl

-- ---- the server half

-- no place is told with the number
no_field : (F : ℕ → ℕ → Type 0) (number place : ℕ) → (TellsPlace number → ⊥) → VerdictFails F (refuse (fault_at number place))
no_field F number place other = VerdictFails.refused (λ tells. absurd (other tells))

module _ (limit : ℕ) (es : List Entry) (known : KnownTypes es) where
  assignment_fails : (c : ℕ) (m : List ℕ) → get_or m 0 0 ≡ assignment_kind → (r : AssignmentRead) → AssignmentRefuses (id_allowed (Only new_id)) m r
      → VerdictFails (CallFailsAt es (client_message c m)) (judge_assignment limit es m r)
  unfolding judge_assignment
  assignment_fails c m k (Err fault) (AssignmentRefuses.refused h) = refused (λ _. CallFailsAt.in_message (MessageFailsAt.assignment k h))
  assignment_fails c m k (Ok read) h =
      by_test (VerdictFails (CallFailsAt es (client_message c m))) _ _ _ (λ _. ignored) (λ _.
      by_test (VerdictFails (CallFailsAt es (client_message c m))) _ _ _ (λ _. created) (λ _. no_field _ 11 0 (λ tells. omega arith)))

  update_fails : (c : ℕ) (m : List ℕ) → get_or m 0 0 ≡ update_kind → (r : UpdateRead) → UpdateRefuses (λ id. ltb id (length es)) (stored_type es) m r
      → VerdictFails (CallFailsAt es (client_message c m)) (judge_update c es m r)
  unfolding judge_update KnownTypes
  update_fails c m k (Err fault) (UpdateRefuses.type_unknown n h u) = absurd (false≢true (sym u ∙ known _ (ltb-true _ _ h)))
  update_fails c m k (Err fault) (UpdateRefuses.refused n h) = refused (λ _. CallFailsAt.in_message (MessageFailsAt.update k h))
  update_fails c m k (Ok read) h = by_test (VerdictFails (CallFailsAt es (client_message c m))) _ _ _ (λ _. updated) (λ _. ignored)

  message_fails : (c mark : ℕ) (m : List ℕ) → VerdictFails (CallFailsAt es (client_message c m)) (judge_message limit es c mark m)
  unfolding judge_message judge_kind judge_hello
  message_fails c mark m =
      by_test P _ _ _ (λ _.
      by_test P _ _ _ (λ _. ignored) (λ _.
      by_test P _ _ _ (λ _.
      by_test P _ _ _ (λ _. by_test P _ _ _ (λ _. by_test P _ _ _ (λ _. welcomed) (λ _. turned_away)) (λ _. no_field _ 1 1 (λ tells. omega arith))) (λ _. wrong_state_lem)) (λ _.
      by_test P _ _ _ (λ k.
      by_test P _ _ _ (λ _. assignment_fails c m (eqb-true _ _ k) _ (assignment_refuses (id_allowed (Only new_id)) m)) (λ _. wrong_state_lem)) (λ _.
      by_test P _ _ _ (λ k. by_test P _ _ _ (λ _. update_fails c m (eqb-true _ _ k) _ (update_refuses _ _ m)) (λ _. wrong_state_lem))
      (λ _. no_field _ 4 0 (λ tells. omega arith))))))
      (λ _. no_field _ 1 0 (λ tells. omega arith))
    where
      P : Verdict → Type 0
      P = VerdictFails (CallFailsAt es (client_message c m))

      wrong_state_lem : P (refuse_call 3)
      wrong_state_lem = no_field _ 3 0 (λ tells. omega arith)

  create_fails : (name : List ℕ) (type : ℕ) (value : List ℕ) → VerdictFails (CallFailsAt es (local_create name type value)) (judge_create limit es name type value)
  unfolding judge_create
  create_fails name type value =
      entry_refuses name type value P refuse _ (λ fault h. refused (λ _. CallFailsAt.in_entry h))
      (by_test P _ _ _ (λ _. no_field _ 13 0 (λ tells. omega arith)) (λ _. by_test P _ _ _ (λ _. created) (λ _. no_field _ 11 0 (λ tells. omega arith))))
    where
      P : Verdict → Type 0
      P = VerdictFails (CallFailsAt es (local_create name type value))

  write_fails : (id : ℕ) (value : List ℕ) → VerdictFails (CallFailsAt es (local_write id value)) (judge_write es id value)
  unfolding judge_write KnownTypes
  write_fails id value =
      by_test P _ _ _ (λ l.
      lone_then (stored_type es id) value P refuse _ (λ fault h. refused (λ _. CallFailsAt.in_value (ltb-true _ _ l) (known id (ltb-true _ _ l)) h))
      (by_test P _ _ _ (λ _. ignored) (λ _. updated)))
      (λ _. no_field _ 6 0 (λ tells. omega arith))
    where
      P : Verdict → Type 0
      P = VerdictFails (CallFailsAt es (local_write id value))

  call_fails : (marks : List ℕ) (call : Call) → VerdictFails (CallFailsAt es call) (judge limit es marks call)
  unfolding judge
  call_fails marks (open_connection c) =
      by_test (VerdictFails _) _ _ _ (λ _. by_test (VerdictFails _) _ _ _ (λ _. opened) (λ _. no_field _ 3 0 (λ tells. omega arith))) (λ _. no_field _ 2 0 (λ tells. omega arith))
  call_fails marks (leave c) =
      by_test (VerdictFails _) _ _ _ (λ _. by_test (VerdictFails _) _ _ _ (λ _. no_field _ 3 0 (λ tells. omega arith)) (λ _. left)) (λ _. no_field _ 2 0 (λ tells. omega arith))
  call_fails marks (client_message c m) =
      by_test (VerdictFails _) _ _ _ (λ _. by_test (VerdictFails _) _ _ _ (λ _. no_field _ 3 0 (λ tells. omega arith)) (λ _. message_fails c _ m)) (λ _. no_field _ 2 0 (λ tells. omega arith))
  call_fails marks (local_create name type value) = create_fails name type value
  call_fails marks (local_write id value) = write_fails id value
  call_fails marks (read_entry id) = by_test (VerdictFails _) _ _ _ (λ _. shown) (λ _. no_field _ 6 0 (λ tells. omega arith))

-- a call that is judged is lent a sound table
table_sound : (limit : ℕ) (mem : ServerMemory) (call : Call) → sound_for limit mem call ≡ true → sound_table limit mem.table ≡ true
table_sound limit mem (open_connection c) s = ((and-eq-true_iff _ _).0 s).0
table_sound limit mem (leave c) s = ((and-eq-true_iff _ _).0 s).0
table_sound limit mem (client_message c m) s = ((and-eq-true_iff _ _).0 s).0
table_sound limit mem (local_create name type value) s = ((and-eq-true_iff _ _).0 s).0
table_sound limit mem (local_write id value) s = ((and-eq-true_iff _ _).0 s).0
table_sound limit mem (read_entry id) s = s

pub call_tells : CallTells
unfolding call_step call_place pick
call_tells limit mem k = go (sound_for limit mem k.call) refl
  where
    F : ℕ → ℕ → Type 0
    F = CallFailsAt (entries_of mem.table) k.call

    v : Verdict
    v = judge limit (entries_of mem.table) mem.marks k.call

    go : (sound : Bool) → sound_for limit mem k.call ≡ sound
        → Told F (pick sound (execute mem k.output v) (refusal mem k.output 14)).number (pick sound (place_of v) 0)
    go true s =
        executed mem k.output F v
        (call_fails limit (entries_of mem.table) (sound_types limit mem.table (table_sound limit mem k.call s)) mem.marks k.call)
    go false s = untold F 14 (λ tells. omega arith)

pub call_place_in_message : CallPlaceInMessage
call_place_in_message limit mem c m out tells = go _ _ ((call_tells limit mem (message_call c m out)).at_field tells) tells
  where
    go : (number place : ℕ) → CallFailsAt (entries_of mem.table) (client_message c m) number place → TellsPlace number → place < length m
    go number place (CallFailsAt.in_message f) tells = place_in_message _ m number place f tells

-- ---- the copy

data CopyFails (F : ℕ → ℕ → Type 0) : CopyVerdict → Type 0 where
  refused : {fault : Fault} → (TellsPlace fault.number → F fault.number fault.place) → CopyFails F (C.refuse fault)
  ignored : {taken revision : ℕ} → CopyFails F (C.ignore taken revision)
  created : {e : Entry} {taken : ℕ} → CopyFails F (C.store_new e taken)
  updated : {id number taken : ℕ} {value : List ℕ} → CopyFails F (C.store_update id number value taken)

copy_executed : (table : TableMemory) (F : ℕ → ℕ → Type 0) (v : CopyVerdict) → CopyFails F v → Told F (execute_copy table v).number (copy_place_of v)
unfolding execute_copy
copy_executed table F (C.refuse fault) (CopyFails.refused h) = told F fault h
copy_executed table F (C.ignore taken revision) f = untold F 16 (λ tells. omega arith)
copy_executed table F (C.store_new e taken) f = untold F 0 (λ tells. omega arith)
copy_executed table F (C.store_update id number value taken) f = untold F 0 (λ tells. omega arith)

module _ (limit : ℕ) (es : List Entry) (known : KnownTypes es) (m : List ℕ) where
  P : CopyVerdict → Type 0
  P = CopyFails (MessageFailsAt (copy_ids es) m)

  no_copy_field : (number place : ℕ) → (TellsPlace number → ⊥) → P (C.refuse (fault_at number place))
  unfolding P
  no_copy_field number place other = CopyFails.refused (λ tells. absurd (other tells))

  copy_assignment_fails : get_or m 0 0 ≡ assignment_kind → (r : AssignmentRead) → AssignmentRefuses (id_allowed (Only (length es))) m r → P (judge_copy_assignment limit es m r)
  unfolding P judge_copy_assignment
  copy_assignment_fails k (Err fault) (AssignmentRefuses.refused h) = CopyFails.refused (λ _. MessageFailsAt.assignment k h)
  copy_assignment_fails k (Ok read) h =
      by_test P _ _ _ (λ _. no_copy_field 13 0 (λ tells. omega arith)) (λ _.
      by_test P _ _ _ (λ _. CopyFails.created) (λ _. no_copy_field 11 0 (λ tells. omega arith)))

  copy_update_fails : get_or m 0 0 ≡ update_kind → (r : UpdateRead) → UpdateRefuses (λ id. ltb id (length es)) (stored_type es) m r → P (judge_copy_update m r)
  unfolding P judge_copy_update KnownTypes
  copy_update_fails k (Err fault) (UpdateRefuses.type_unknown n h u) = absurd (false≢true (sym u ∙ known _ (ltb-true _ _ h)))
  copy_update_fails k (Err fault) (UpdateRefuses.refused n h) = CopyFails.refused (λ _. MessageFailsAt.update k h)
  copy_update_fails k (Ok read) h = CopyFails.updated

  copy_fails : CopyFails (MessageFailsAt (copy_ids es) m) (judge_copy limit es m)
  unfolding P judge_copy judge_copy_kind
  copy_fails =
      by_test P _ _ _ (λ _.
      by_test P _ _ _ (λ _. CopyFails.ignored) (λ _.
      by_test P _ _ _ (λ _. CopyFails.ignored) (λ _.
      by_test P _ _ _ (λ _. by_test P _ _ _ (λ _. CopyFails.ignored) (λ _. no_copy_field 1 1 (λ tells. omega arith))) (λ _.
      by_test P _ _ _ (λ k. copy_assignment_fails (eqb-true _ _ k) _ (assignment_refuses (id_allowed (Only (length es))) m)) (λ _.
      by_test P _ _ _ (λ k. copy_update_fails (eqb-true _ _ k) _ (update_refuses _ _ m)) (λ _. no_copy_field 4 0 (λ tells. omega arith)))))))
      (λ _. no_copy_field 1 0 (λ tells. omega arith))

pub copy_tells : CopyTells
unfolding copy_message copy_place execute_copy pick
copy_tells limit table m = go (sound_table limit table) refl
  where
    F : ℕ → ℕ → Type 0
    F = MessageFailsAt (copy_ids (entries_of table)) m

    v : CopyVerdict
    v = judge_copy limit (entries_of table) m

    go : (sound : Bool) → sound_table limit table ≡ sound
        → Told F (pick sound (execute_copy table v) (execute_copy table (C.refuse_message 14))).number (pick sound (copy_place_of v) 0)
    go true s = copy_executed table F v (copy_fails limit (entries_of table) (sound_types limit table s) m)
    go false s = untold F 14 (λ tells. omega arith)

pub copy_place_in_message : CopyPlaceInMessage
copy_place_in_message limit table m tells = place_in_message _ m _ _ ((copy_tells limit table m).at_field tells) tells
