-- There is room: no call sends more than the longest hello answer, and where there is room for that the output decides nothing.
use mathlib.Core.Path.{◌≡◌, refl, sym, ap, ◌∙◌}
use mathlib.Core.Bool.{true}
use mathlib.Core.List.{List, []}
use Prim.Native.Nat.{ℕ, ◌≤◌}
use native.Mathlib.Omega.{arith}
use lib.ListN.{length, get_or, length-replicate}
use borrow.Author.Tests.{le-leb}
use Rattle.field.specs.Answer.{done, ignored}
use Rattle.field.specs.Choice.{pick}
use Rattle.field.specs.Octets.{encode16}
use Rattle.value.specs.Value.{max_value_size}
use Rattle.value.proofs.ValueLaws.{value_small}
use Rattle.message.specs.Layout.{Entry, max_name_length, revision_length, unsupported_kind, revision_bytes, assignment_bytes, update_bytes}
use Rattle.message.proofs.ReadBack.{length_assignment, length_update}
use Rattle.table.specs.Table.{TableMemory, default_entry, entry_at, entries_of, store_entry, store_value}
use Rattle.soundness.specs.Sound.{sound_table, closed, open', greeted}
use Rattle.soundness.proofs.ReadableLaws.{sound_count, sound_readable}
use Rattle.hello.specs.Hello.{hello_answer, longest_hello}
use Rattle.hello.proofs.HelloLaws.{length_hello_below, length_below_most}
use Rattle.protocol.specs.Judge.{Call, Verdict, refuse, ignore, read_done, open_mark, close_mark, accept_hello, unsupported_revision, store_new, store_update, protocol_revision, judge}
use Rattle.protocol.specs.Step.{ServerMemory, with_mark, with_table, execute, call_step}
use Rattle.protocol.specs.Kept.{SoundMemory}
use Rattle.protocol.proofs.JudgeLaws.{VerdictIs, verdict_is}
use Rattle.protocol.proofs.SoundnessLaws.{step_is}
use Rattle.protocol.specs.Effect.{Effect, effect_of, longest_output, with_output, SameEffect}

-- ---- what is sent at most

pub hello_room : (limit : ℕ) (table : TableMemory) → sound_table limit table ≡ true → length (hello_answer 0 (entries_of table)) ≤ longest_hello limit
unfolding entries_of
hello_room limit table h =
    let few = sound_count limit table h in
    let most = length_below_most table.count table.heads table.bytes (sound_readable limit table h) in
    omega (arith, few, most, length_hello_below table.count (entry_at table.heads table.bytes))

pub revision_room : (limit kind revision : ℕ) → 1 ≤ limit → length (revision_bytes kind revision) ≤ longest_hello limit
unfolding revision_bytes encode16
revision_room limit kind revision l = omega arith

pub assignment_room : (limit id : ℕ) (e : Entry) → 1 ≤ limit → length e.name ≤ max_name_length → length e.value ≤ max_value_size
    → length (assignment_bytes id e) ≤ longest_hello limit
assignment_room limit id e l name value = omega (arith, length_assignment id e)

pub update_room : (limit id number : ℕ) (value : List ℕ) → 1 ≤ limit → length value ≤ max_value_size → length (update_bytes id number value) ≤ longest_hello limit
update_room limit id number value l fits = omega (arith, length_update id number value)

-- ---- what a verdict does where there is room

-- the messages that it sends
abbrev pub sends : ServerMemory → Verdict → List ℕ
sends mem (refuse fault) = []
sends mem (ignore taken) = []
sends mem read_done = []
sends mem (open_mark c) = []
sends mem (close_mark c) = []
sends mem (accept_hello c) = hello_answer 0 (entries_of mem.table)
sends mem (unsupported_revision c) = revision_bytes unsupported_kind protocol_revision
sends mem (store_new e taken) = assignment_bytes mem.table.count e
sends mem (store_update id number value taken to) = update_bytes id number value

abbrev pub done_with : (taken : ℕ) → ServerMemory → Effect
done_with taken mem = record { number = done; taken = taken; memory = mem }

abbrev pub with_room : ServerMemory → Verdict → Effect
with_room mem (refuse fault) = record { number = fault.number; taken = 0; memory = mem }
with_room mem (ignore taken) = record { number = ignored; taken = taken; memory = mem }
with_room mem read_done = done_with 0 mem
with_room mem (open_mark c) = done_with 0 (with_mark mem c open')
with_room mem (close_mark c) = done_with 0 (with_mark mem c closed)
with_room mem (accept_hello c) = done_with revision_length (with_mark mem c greeted)
with_room mem (unsupported_revision c) = done_with revision_length (with_mark mem c closed)
with_room mem (store_new e taken) = done_with taken (with_table mem (store_entry mem.table e))
with_room mem (store_update id number value taken to) = done_with taken (with_table mem (store_value mem.table id number value))

module _ (mem : ServerMemory) (out : List ℕ) where
  pub executed_with_room : (v : Verdict) → length (sends mem v) ≤ length out → effect_of (execute mem out v) ≡ with_room mem v
  unfolding execute pick
  executed_with_room (refuse fault) l = refl
  executed_with_room (ignore taken) l = refl
  executed_with_room read_done l = rw (le-leb _ _ l)
  executed_with_room (open_mark c) l = rw (le-leb _ _ l)
  executed_with_room (close_mark c) l = rw (le-leb _ _ l)
  executed_with_room (accept_hello c) l = rw (le-leb _ _ l)
  executed_with_room (unsupported_revision c) l = rw (le-leb _ _ l)
  executed_with_room (store_new e taken) l = rw (le-leb _ _ l)
  executed_with_room (store_update id number value taken to) l = rw (le-leb _ _ l)

pub length_longest : (limit : ℕ) → length (longest_output limit) ≡ longest_hello limit
unfolding longest_output
length_longest limit = length-replicate {A = ℕ} (longest_hello limit) 0

-- in the longest output
pub executed_longest : (limit : ℕ) (mem : ServerMemory) (v : Verdict) → length (sends mem v) ≤ longest_hello limit
    → effect_of (execute mem (longest_output limit) v) ≡ with_room mem v
executed_longest limit mem v l = executed_with_room mem (longest_output limit) v (omega (arith, length_longest limit))

-- ---- every call has room

module _ (limit : ℕ) (mem : ServerMemory) (some : 1 ≤ limit) (s : SoundMemory limit mem) where
  verdict_room : (call : Call) (v : Verdict) → VerdictIs limit (entries_of mem.table) mem.marks call v → length (sends mem v) ≤ longest_hello limit
  verdict_room call (refuse fault) f = omega arith
  verdict_room call (ignore taken) f = omega arith
  verdict_room call read_done f = omega arith
  verdict_room call (open_mark c) f = omega arith
  verdict_room call (close_mark c) f = omega arith
  verdict_room call (accept_hello c) f = hello_room limit mem.table s.table
  verdict_room call (unsupported_revision c) f = revision_room limit unsupported_kind protocol_revision some
  verdict_room call (store_new e taken) (VerdictIs.created w new few) =
      assignment_room limit mem.table.count e some w.name_fits (value_small e.type e.value (length e.value) w.value_whole)
  verdict_room call (store_update id number value taken to) (VerdictIs.updated h w t) =
      update_room limit id number value some (value_small (get_or (entries_of mem.table) id default_entry).type value (length value) w)

  pub call_with_room : (call : Call) (out : List ℕ) → longest_hello limit ≤ length out
      → effect_of (call_step limit mem (record { call = call; output = out })) ≡ with_room mem (judge limit (entries_of mem.table) mem.marks call)
  call_with_room call out room =
      let v = judge limit (entries_of mem.table) mem.marks call in
      let l = verdict_room call v (verdict_is limit (entries_of mem.table) mem.marks call) in
      ap effect_of (step_is limit mem s (record { call = call; output = out })) ∙ executed_with_room mem out v (omega (arith, l, room))

  pub call_longest : (call : Call) → effect_of (call_step limit mem (with_output limit call)) ≡ with_room mem (judge limit (entries_of mem.table) mem.marks call)
  call_longest call = call_with_room call (longest_output limit) (omega (arith, length_longest limit))

pub same_effect : SameEffect
same_effect limit some mem s call out room = call_with_room limit mem some s call out room ∙ sym (call_longest limit mem some s call)
