-- What is known of a call's verdict: whom and what it concerns is as the rules have it.
use Rattle.message.specs.Read.{AssignmentRead, UpdateRead}
use Rattle.std.specs.Prelude.{Err, Ok}
use mathlib.Core.Path.{◌≡◌, refl}
use mathlib.Core.Bool.{Bool, false}
use mathlib.Core.List.{List}
use Prim.Native.Nat.{ℕ, ◌≤◌, ◌<◌}
use native.Mathlib.Omega.{arith}
use lib.Dec.{ltb}
use lib.ListN.{length, get_or}
use borrow.Author.Tests.{ltb-true, leb-true, eqb-true}
use Rattle.field.specs.Answer.{RefusalNumber}
use Rattle.field.specs.Choice.{pick}
use Rattle.field.specs.Field.{fault_at, and_then, Parsed}
use Rattle.field.specs.declared.Fault.{Fault}
use Rattle.field.proofs.ChoiceLaws.{by_test}
use Rattle.value.specs.Value.{parse_lone, IsValue}
use Rattle.value.proofs.ValueLaws.{LoneIs, lone_is}
use Rattle.message.specs.Layout.{Entry, WellFormed, update_kind}
use Rattle.message.specs.Reader.{id_allowed}
use Rattle.message.specs.declared.AllowedId.TheVariants.{Only}
use Rattle.message.proofs.TakenLaws.{AssignmentIs, assignment_is, UpdateIs, update_is}
use Rattle.writer.specs.Writer.{check_name}
use Rattle.writer.proofs.WriterLaws.{NameIs, name_is}
use Rattle.table.specs.Names.{name_held}
use Rattle.table.specs.Table.{default_entry}
use Rattle.recipients.specs.Recipients.{Recipients, all_greeted, other_greeted}
use Rattle.message.proofs.RefusalLaws.{refusal_number, RefusedRightly, numbered, lone_rightly, AssignmentRefused, assignment_rightly, UpdateRefused, update_rightly}
use Rattle.protocol.specs.Judge.{Call, open_connection, leave, client_message, local_create, local_write, read_entry, Verdict, refuse, ignore, read_done, open_mark, close_mark, accept_hello, unsupported_revision, store_new, store_update, new_id, judge_hello, judge_assignment, judge_update, judge_kind, judge_message, judge_create, judge_write, judge, refuse_call, new_entry}

-- to whom an update goes: a local write's to all greeted, a client's to all but that client
pub data SentTo (call : Call) : Recipients → Type 0 where
  local_write_case : SentTo call all_greeted
  client_update : {c : ℕ} {m : List ℕ} → call ≡ client_message c m → 1 ≤ length m → get_or m 0 0 ≡ update_kind → SentTo call (other_greeted c)

pub data VerdictIs (limit : ℕ) (es : List Entry) (marks : List ℕ) (call : Call) : Verdict → Type 0 where
  refused : {fault : Fault} → RefusalNumber fault.number → VerdictIs limit es marks call (refuse fault)
  ignored : {taken : ℕ} → VerdictIs limit es marks call (ignore taken)
  shown : VerdictIs limit es marks call read_done
  opened : {c : ℕ} → c < 16 → get_or marks c 0 ≡ 0 → VerdictIs limit es marks call (open_mark c)
  left : {c : ℕ} → c < 16 → call ≡ leave c → VerdictIs limit es marks call (close_mark c)
  welcomed : {c : ℕ} → c < 16 → get_or marks c 0 ≡ 1 → VerdictIs limit es marks call (accept_hello c)
  turned_away : {c : ℕ} → c < 16 → get_or marks c 0 ≡ 1 → VerdictIs limit es marks call (unsupported_revision c)
  created : {e : Entry} {taken : ℕ} → WellFormed e → name_held e.name es ≡ false → length es < limit → VerdictIs limit es marks call (store_new e taken)
  updated : {id number taken : ℕ} {value : List ℕ} {to : Recipients} → id < length es → IsValue (get_or es id default_entry).type value → SentTo call to
      → VerdictIs limit es marks call (store_update id number value taken to)

pub name_rightly : (name : List ℕ) → RefusedRightly (check_name name)
unfolding check_name
name_rightly name =
    by_test RefusedRightly _ _ _ (λ _. by_test RefusedRightly _ _ _ (λ _. RefusedRightly.taken) (λ _. numbered 9 0 (omega arith) (omega arith))) (λ _. numbered 10 0 (omega arith) (omega arith))

module _ (limit : ℕ) (es : List Entry) (marks : List ℕ) where
  refusal_at : (call : Call) (number place : ℕ) → 1 ≤ number → number ≤ 14 → VerdictIs limit es marks call (refuse (fault_at number place))
  refusal_at call number place a b = refused (refusal_number number a b)

  refusal : (call : Call) (number : ℕ) → 1 ≤ number → number ≤ 14 → VerdictIs limit es marks call (refuse_call number)
  refusal call number a b = refusal_at call number 0 a b

  assignment_verdict : (call : Call) (allowed : ℕ → Bool) (m : List ℕ) (r : AssignmentRead) → AssignmentIs allowed m r → AssignmentRefused r
      → VerdictIs limit es marks call (judge_assignment limit es m r)
  unfolding judge_assignment
  assignment_verdict call allowed m (Err fault) f (AssignmentRefused.refused n) = refused n
  assignment_verdict call allowed m (Ok read) (AssignmentIs.taken a h w f) g =
      by_test (VerdictIs limit es marks call) _ _ _ (λ _. ignored) (λ new.
      by_test (VerdictIs limit es marks call) _ _ _ (λ l. created (w _) new (ltb-true _ _ l)) (λ _. refusal call 11 (omega arith) (omega arith)))

  update_verdict : (c : ℕ) (m : List ℕ) → 1 ≤ length m → get_or m 0 0 ≡ update_kind → (r : UpdateRead)
      → UpdateIs (λ id. ltb id (length es)) (λ id. (get_or es id default_entry).type) m r → UpdateRefused r → VerdictIs limit es marks (client_message c m) (judge_update c es m r)
  unfolding judge_update
  update_verdict c m l k (Err fault) f (UpdateRefused.refused h) = refused h
  update_verdict c m l k (Ok read) (UpdateIs.taken h n w i q') g =
      by_test (VerdictIs limit es marks (client_message c m)) _ _ _ (λ _. updated (ltb-true _ _ h) w (client_update refl l k)) (λ _. ignored)

  pub message_verdict : (c : ℕ) (m : List ℕ) → c < 16 → VerdictIs limit es marks (client_message c m) (judge_message limit es c (get_or marks c 0) m)
  unfolding judge_message judge_kind judge_hello
  message_verdict c m l =
      by_test P _ _ _ (λ there.
      by_test P _ _ _ (λ _. ignored) (λ _.
      by_test P _ _ _ (λ _.
      by_test P _ _ _ (λ mark.
      by_test P _ _ _ (λ _. by_test P _ _ _ (λ _. welcomed l (eqb-true _ _ mark)) (λ _. turned_away l (eqb-true _ _ mark))) (λ _. cut_short 1)) (λ _. wrong_state_lem)) (λ _.
      by_test P _ _ _ (λ _.
      by_test P _ _ _ (λ _. assignment_verdict (client_message c m) allowed m _ (assignment_is allowed m) (assignment_rightly allowed m)) (λ _. wrong_state_lem)) (λ _.
      by_test P _ _ _ (λ kind.
      by_test P _ _ _ (λ _. update_verdict c m (leb-true _ _ there) (eqb-true _ _ kind) _ (update_is _ _ m) (update_rightly _ _ m)) (λ _. wrong_state_lem))
      (λ _. refusal (client_message c m) 4 (omega arith) (omega arith))))))
      (λ _. cut_short 0)
    where
      P : Verdict → Type 0
      P = VerdictIs limit es marks (client_message c m)

      allowed : ℕ → Bool
      allowed = id_allowed (Only new_id)

      cut_short : (place : ℕ) → P (refuse (fault_at 1 place))
      cut_short place = refusal_at (client_message c m) 1 place (omega arith) (omega arith)

      wrong_state_lem : P (refuse_call 3)
      wrong_state_lem = refusal (client_message c m) 3 (omega arith) (omega arith)

  create_verdict_lem : (name : List ℕ) (type : ℕ) (value : List ℕ) → VerdictIs limit es marks (local_create name type value) (judge_create limit es name type value)
  unfolding judge_create
  create_verdict_lem name type value = go (check_name name) (name_is name) (name_rightly name) (parse_lone type value) (lone_is type value) (lone_rightly type value)
    where
      P : Verdict → Type 0
      P = VerdictIs limit es marks (local_create name type value)

      go : (p : Parsed) → NameIs name p → RefusedRightly p → (q : Parsed) → LoneIs type value q → RefusedRightly q
          → P (and_then refuse p (λ _. and_then refuse q (λ _. pick (name_held name es) (refuse_call 13) (pick (ltb (length es) limit) (store_new (new_entry name type value) 0) (refuse_call 11)))))
      go (Err fault) f (RefusedRightly.refused h) q g i = refused h
      go (Ok n) f h (Err fault) g (RefusedRightly.refused i) = refused i
      go (Ok n) (NameIs.taken a fits text) h (Ok v) (LoneIs.taken b whole) i =
          by_test P _ _ _ (λ _. refusal (local_create name type value) 13 (omega arith) (omega arith)) (λ new.
          by_test P _ _ _ (λ l. created (record { name_fits = fits; name_text = text; value_whole = whole }) new (ltb-true _ _ l))
          (λ _. refusal (local_create name type value) 11 (omega arith) (omega arith)))

  write_verdict_lem : (id : ℕ) (value : List ℕ) → VerdictIs limit es marks (local_write id value) (judge_write es id value)
  unfolding judge_write
  write_verdict_lem id value =
      by_test P _ _ _ (λ l. go (ltb-true _ _ l) _ (lone_is (get_or es id default_entry).type value) (lone_rightly (get_or es id default_entry).type value) _ _)
      (λ _. refusal (local_write id value) 6 (omega arith) (omega arith))
    where
      P : Verdict → Type 0
      P = VerdictIs limit es marks (local_write id value)

      go : id < length es → (q : Parsed) → LoneIs (get_or es id default_entry).type value q → RefusedRightly q → (equal : Bool) (number : ℕ)
          → P (and_then refuse q (λ _. pick equal (ignore 0) (store_update id number value 0 all_greeted)))
      go l (Err fault) g (RefusedRightly.refused h) equal number = refused h
      go l (Ok v) (LoneIs.taken b whole) h equal number = by_test P _ _ _ (λ _. ignored) (λ _. updated l whole local_write_case)

  pub verdict_is : (call : Call) → VerdictIs limit es marks call (judge limit es marks call)
  unfolding judge
  verdict_is (open_connection c) =
      by_test P _ _ _ (λ l. by_test P _ _ _ (λ mark. opened (ltb-true _ _ l) (eqb-true _ _ mark)) (λ _. refusal (open_connection c) 3 (omega arith) (omega arith)))
      (λ _. refusal (open_connection c) 2 (omega arith) (omega arith))
    where
      P : Verdict → Type 0
      P = VerdictIs limit es marks (open_connection c)
  verdict_is (leave c) =
      by_test P _ _ _ (λ l. by_test P _ _ _ (λ _. refusal (leave c) 3 (omega arith) (omega arith)) (λ _. left (ltb-true _ _ l) refl))
      (λ _. refusal (leave c) 2 (omega arith) (omega arith))
    where
      P : Verdict → Type 0
      P = VerdictIs limit es marks (leave c)
  verdict_is (client_message c m) =
      by_test P _ _ _ (λ l. by_test P _ _ _ (λ _. refusal (client_message c m) 3 (omega arith) (omega arith)) (λ _. message_verdict c m (ltb-true _ _ l)))
      (λ _. refusal (client_message c m) 2 (omega arith) (omega arith))
    where
      P : Verdict → Type 0
      P = VerdictIs limit es marks (client_message c m)
  verdict_is (local_create name type value) = create_verdict_lem name type value
  verdict_is (local_write id value) = write_verdict_lem id value
  verdict_is (read_entry id) =
      by_test (VerdictIs limit es marks (read_entry id)) _ _ _ (λ _. shown) (λ _. refusal (read_entry id) 6 (omega arith) (omega arith))
