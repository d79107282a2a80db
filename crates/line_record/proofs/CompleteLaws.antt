-- A call that answers 1: a client's message is short, and a local call whose value is whole never does.
use Rattle.std.specs.Prelude.{Ok, Err}
use mathlib.Core.Path.{◌≡◌}
use mathlib.Core.Logic.{◌≢◌}
use mathlib.Core.Bool.{Bool, false}
use mathlib.Core.List.{List}
use Prim.Native.Nat.{ℕ, ◌≤◌, ◌<◌}
use native.Mathlib.Omega.{arith}
use lib.Dec.{leb, ltb}
use lib.ListN.{length, get_or}
use borrow.Author.Tests.{leb-false}
use Rattle.field.specs.Answer.{done, ignored as ignoredNumber, incomplete, connection_too_high, wrong_state, unknown_kind, unknown_id, not_utf8, too_long, table_full, output_too_short, name_taken, unsound}
use Rattle.field.specs.Choice.{pick}
use Rattle.field.specs.Field.{fault_at, and_then, Parsed}
use Rattle.field.specs.declared.Fault.{Fault}
use Rattle.field.proofs.ChoiceLaws.{by_test}
use Rattle.value.specs.Value.{IsValue}
use Rattle.value.proofs.ValueLaws.{lone_taken}
use Rattle.message.specs.Layout.{Entry, max_name_length, kind_size, revision_length}
use Rattle.message.specs.Read.{AssignmentRead, UpdateRead}
use Rattle.writer.specs.Writer.{check_name}
use Rattle.table.specs.Names.{name_held}
use Rattle.table.specs.Table.{entries_of, default_entry}
use Rattle.recipients.specs.Recipients.{Recipients}
use Rattle.protocol.specs.Judge.{Call, client_message, local_create, local_write, Verdict, refuse, ignore, accept_hello, unsupported_revision, store_new, store_update, refuse_call, new_entry, judge_hello, judge_assignment, judge_update, judge_kind, judge_message, judge_create, judge_write, judge, close_mark, open_mark, read_done}
use Rattle.protocol.specs.Step.{ServerMemory, CallResult, refusal, execute, call_step}
use Rattle.line_record.specs.Held.{longest_incomplete}
use Rattle.line_record.proofs.ShortLaws.{not_incomplete, AssignmentShort, assignment_short, UpdateShort, update_short}

-- ---- verdicts

-- a verdict that refuses with 1 tells that H
data Brief (H : Type 0) : Verdict → Type 0 where
  refused : {fault : Fault} → (fault.number ≡ incomplete → H) → Brief H (refuse fault)
  ignored : {taken : ℕ} → Brief H (ignore taken)
  accepted : {c : ℕ} → Brief H (accept_hello c)
  unsupported : {c : ℕ} → Brief H (unsupported_revision c)
  new : {e : Entry} {taken : ℕ} → Brief H (store_new e taken)
  update : {id number taken : ℕ} {value : List ℕ} {to : Recipients} → Brief H (store_update id number value taken to)

refuses : {H : Type 0} (number : ℕ) → incomplete < number → Brief H (refuse_call number)
refuses number h = refused (not_incomplete number h)

module _ (m : List ℕ) where
  -- the first n bytes are not there
  cut_message : (n place : ℕ) → n ≤ longest_incomplete → leb n (length m) ≡ false → Brief (length m ≤ longest_incomplete) (refuse (fault_at incomplete place))
  cut_message n place h l = refused (λ _. omega (arith, leb-false n (length m) l))

  hello_brief : (c mark : ℕ) → Brief (length m ≤ longest_incomplete) (judge_hello c mark m)
  unfolding judge_hello
  hello_brief c mark =
      by_test P _ _ _ (λ _. by_test P (leb revision_length (length m)) _ _ (λ _. by_test P _ _ _ (λ _. accepted) (λ _. unsupported)) (cut_message revision_length kind_size (omega arith)))
      (λ _. refuses wrong_state (omega arith))
    where
      P : Verdict → Type 0
      P = Brief (length m ≤ longest_incomplete)

  assignment_brief : (limit : ℕ) (es : List Entry) (r : AssignmentRead) → AssignmentShort m r → Brief (length m ≤ longest_incomplete) (judge_assignment limit es m r)
  unfolding judge_assignment
  assignment_brief limit es (Err fault) (AssignmentShort.refused f) = refused f
  assignment_brief limit es (Ok read) f =
      by_test (Brief (length m ≤ longest_incomplete)) _ _ _ (λ _. ignored)
      (λ _. by_test (Brief (length m ≤ longest_incomplete)) _ _ _ (λ _. new) (λ _. refuses table_full (omega arith)))

  update_brief : (c : ℕ) (es : List Entry) (r : UpdateRead) → UpdateShort m r → Brief (length m ≤ longest_incomplete) (judge_update c es m r)
  unfolding judge_update
  update_brief c es (Err fault) (UpdateShort.refused f) = refused f
  update_brief c es (Ok read) f = by_test (Brief (length m ≤ longest_incomplete)) _ _ _ (λ _. update) (λ _. ignored)

  message_brief : (limit : ℕ) (es : List Entry) (marks : List ℕ) (c : ℕ) → Brief (length m ≤ longest_incomplete) (judge limit es marks (client_message c m))
  unfolding judge judge_message judge_kind
  message_brief limit es marks c =
      by_test P _ _ _ (λ _. by_test P _ _ _ (λ _. refuses wrong_state (omega arith)) (λ _. by_test P (leb kind_size (length m)) _ _
      (λ _. by_test P _ _ _ (λ _. ignored) (λ _. by_test P _ _ _ (λ _. hello_brief c (get_or marks c 0))
      (λ _. by_test P _ _ _ (λ _. by_test P _ _ _ (λ _. assignment_brief limit es _ (assignment_short _ m)) (λ _. refuses wrong_state (omega arith)))
      (λ _. by_test P _ _ _ (λ _. by_test P _ _ _ (λ _. update_brief c es _ (update_short _ _ m)) (λ _. refuses wrong_state (omega arith)))
      (λ _. refuses unknown_kind (omega arith))))))
      (cut_message kind_size 0 (omega arith))))
      (λ _. refuses connection_too_high (omega arith))
    where
      P : Verdict → Type 0
      P = Brief (length m ≤ longest_incomplete)

-- a local call whose value is whole is never answered 1
create_brief : (limit : ℕ) (es : List Entry) (name : List ℕ) (t : ℕ) (value : List ℕ) → IsValue t value → Brief ⊥ (judge_create limit es name t value)
unfolding judge_create check_name
create_brief limit es name t value w =
    rw (lone_taken t value w)
    (by_test P (leb (length name) max_name_length) _ _
    (λ _. by_test P _ _ _ (λ _. by_test (Brief ⊥) _ _ _ (λ _. refuses name_taken (omega arith)) (λ _. by_test (Brief ⊥) _ _ _ (λ _. new) (λ _. refuses table_full (omega arith))))
    (λ _. refuses not_utf8 (omega arith)))
    (λ _. refuses too_long (omega arith)))
  where
    P : Parsed → Type 0
    P p =
        Brief ⊥ (and_then refuse p (λ _. pick (name_held name es) (refuse_call name_taken) (pick (ltb (length es) limit) (store_new (new_entry name t value) 0) (refuse_call table_full))))

write_brief : (es : List Entry) (id : ℕ) (value : List ℕ) → IsValue (get_or es id default_entry).type value → Brief ⊥ (judge_write es id value)
unfolding judge_write
write_brief es id value w =
    rw (lone_taken (get_or es id default_entry).type value w)
    (by_test (Brief ⊥) _ _ _ (λ _. by_test (Brief ⊥) _ _ _ (λ _. ignored) (λ _. update)) (λ _. refuses unknown_id (omega arith)))

-- ---- calls

-- an answer of 1 tells that H
record Tells (H : Type 0) (r : CallResult) : Type 0 where
  tells : r.number ≡ incomplete → H

module _ (H : Type 0) (mem : ServerMemory) (out : List ℕ) where
  done_tells : {taken sent recipients : ℕ} {after : ServerMemory} {output : List ℕ}
      → Tells H (record { number = done; taken = taken; sent = sent; recipients = recipients; memory = after; output = output })
  done_tells = record { tells = λ e. absurd (omega (arith, e)) }

  no_room : Tells H (refusal mem out output_too_short)
  no_room = record { tells = not_incomplete output_too_short (omega arith) }

  -- an answer is done if there is room for it
  answered : (room : Bool) (x y : CallResult) → Tells H x → Tells H y → Tells H (pick room x y)
  answered room x y f g = by_test (Tells H) room x y (λ _. f) (λ _. g)

  execute_tells : (v : Verdict) → Brief H v → Tells H (execute mem out v)
  unfolding execute
  execute_tells read_done x' = elim x' [ ]
  execute_tells (open_mark c) x'' = elim x'' [ ]
  execute_tells (close_mark c) x3 = elim x3 [ ]
  execute_tells (refuse fault) (refused f) = record { tells = f }
  execute_tells (ignore taken) ignored = record { tells = not_incomplete ignoredNumber (omega arith) }
  execute_tells (accept_hello c) accepted = answered _ _ _ done_tells no_room
  execute_tells (unsupported_revision c) unsupported = answered _ _ _ done_tells no_room
  execute_tells (store_new e taken) new = answered _ _ _ done_tells no_room
  execute_tells (store_update id number value taken to) update = answered _ _ _ done_tells no_room

  call_tells : (limit : ℕ) (call : Call) → Brief H (judge limit (entries_of mem.table) mem.marks call) → Tells H (call_step limit mem (record { call = call; output = out }))
  unfolding call_step
  call_tells limit call b = by_test (Tells H) _ _ _ (λ _. execute_tells _ b) (λ _. record { tells = not_incomplete unsound (omega arith) })

module _ (limit : ℕ) (mem : ServerMemory) (out : List ℕ) where
  pub client_short : (c : ℕ) (m : List ℕ) → (call_step limit mem (record { call = client_message c m; output = out })).number ≡ incomplete → length m ≤ longest_incomplete
  client_short c m = (call_tells (length m ≤ longest_incomplete) mem out limit (client_message c m) (message_brief m limit (entries_of mem.table) mem.marks c)).tells

  pub create_complete : (name : List ℕ) (t : ℕ) (value : List ℕ) → IsValue t value
      → (call_step limit mem (record { call = local_create name t value; output = out })).number ≢ incomplete
  unfolding judge
  create_complete name t value w = (call_tells ⊥ mem out limit (local_create name t value) (create_brief limit (entries_of mem.table) name t value w)).tells

  pub write_complete : (id : ℕ) (value : List ℕ) → IsValue (get_or (entries_of mem.table) id default_entry).type value
      → (call_step limit mem (record { call = local_write id value; output = out })).number ≢ incomplete
  unfolding judge
  write_complete id value w = (call_tells ⊥ mem out limit (local_write id value) (write_brief (entries_of mem.table) id value w)).tells
