-- Every call keeps a sound table and sound marks sound, and a fresh start makes them so.
use mathlib.Core.Path.{◌≡◌, refl}
use mathlib.Core.Bool.{Bool, true, false, ◌&&◌, and-eq-true_iff}
use mathlib.Core.List.{List}
use Prim.Native.Nat.{ℕ, ◌≤◌, ◌<◌}
use native.Mathlib.Decide.{ℕ_discrete}
use native.Mathlib.Nat.{zero-add}
use native.Mathlib.Omega.{arith}
use lib.Dec.{leb}
use lib.ListN.{length, get_or, set, replicate, length-set, get_or-replicate}
use lib.Seq.{get_or-set_same, get_or-set_other}
use borrow.Author.Tests.{leb-true}
use Rattle.field.specs.Choice.{pick}
use Rattle.field.specs.Octets.{overwrite_at}
use Rattle.field.proofs.ChoiceLaws.{by_test, pick_true}
use Rattle.field.proofs.OverwriteLaws.{length_overwrite, overwrite_inside}
use Rattle.table.specs.Table.{entries_of, emptied}
use Rattle.soundness.specs.Sound.{large_enough, sound_table, sound_marks}
use Rattle.soundness.proofs.SoundLaws.{marks_facts, facts_marks}
use Rattle.protocol.specs.Judge.{Call, open_connection, leave, client_message, local_create, local_write, read_entry, Verdict, refuse, ignore, read_done, open_mark, close_mark, accept_hello, unsupported_revision, store_new, store_update, judge}
use Rattle.protocol.specs.Step.{ServerMemory, LentCall, CallResult, with_mark, execute, sound_for, call_step, StartResult, fresh_start}
use Rattle.protocol.specs.Kept.{SoundMemory, StartSound, SoundKept, SoundTableKept}
use Rattle.soundness.proofs.StoredLaws.{new_sound, value_sound, empty_sound}
use Rattle.protocol.proofs.JudgeLaws.{VerdictIs, verdict_is}

-- ---- a call

record SoundAfter (limit : ℕ) (r : CallResult) : Type 0 where
  after : SoundMemory limit r.memory

module _ (limit : ℕ) (mem : ServerMemory) (s : SoundMemory limit mem) where
  sound_mark : (c mark : ℕ) → mark ≤ 2 → SoundMemory limit (with_mark mem c mark)
  sound_mark c mark l =
      let f = marks_facts mem.marks s.marks in
      record { table = s.table; marks = facts_marks (set mem.marks c mark) (omega (arith, f.0, length-set mem.marks c mark)) (λ d b. go d b f.0 f.1 (ℕ_discrete d c)) }
    where
      go : (d : ℕ) → d < 16 → 16 ≤ length mem.marks → ((d : ℕ) → d < 16 → get_or mem.marks d 0 ≤ 2) → Dec (d ≡ c) → get_or (set mem.marks c mark) d 0 ≤ 2
      go d b n old (yes q) = rw (q, get_or-set_same mem.marks c mark 0 (omega arith)) l
      go d b n old (no ne) = rw (get_or-set_other mem.marks c d mark 0 ne) (old d b)

  -- an answer is done if there is room for it, and nothing changes otherwise
  answered : (room : Bool) (x y : CallResult) → SoundMemory limit x.memory → SoundMemory limit y.memory → SoundAfter limit (pick room x y)
  answered room x y a b = by_test (SoundAfter limit) room x y (λ _. record { after = a }) (λ _. record { after = b })

  execute_sound : (out : List ℕ) (call : Call) (v : Verdict) → VerdictIs limit (entries_of mem.table) mem.marks call v
      → SoundAfter limit (execute mem out v)
  unfolding execute
  execute_sound out call (refuse fault) f = record { after = s }
  execute_sound out call (ignore taken) f = record { after = s }
  execute_sound out call read_done f = answered _ _ _ s s
  execute_sound out call (open_mark c) f = answered _ _ _ (sound_mark c _ (omega arith)) s
  execute_sound out call (close_mark c) f = answered _ _ _ (sound_mark c _ (omega arith)) s
  execute_sound out call (accept_hello c) f = answered _ _ _ (sound_mark c _ (omega arith)) s
  execute_sound out call (unsupported_revision c) f = answered _ _ _ (sound_mark c _ (omega arith)) s
  execute_sound out call (store_new e taken) (VerdictIs.created w new room) =
      answered _ _ _ (record { table = new_sound limit mem.table s.table e w new room; marks = s.marks }) s
  execute_sound out call (store_update id number value taken to) (VerdictIs.updated held w sent) =
      answered _ _ _ (record { table = value_sound limit mem.table s.table id _ value held w; marks = s.marks }) s

  both : (sound_table limit mem.table && sound_marks mem.marks) ≡ true
  both = rw (s.table, s.marks)

  sound_for_lem : (call : Call) → sound_for limit mem call ≡ true
  sound_for_lem (open_connection c) = both
  sound_for_lem (leave c) = both
  sound_for_lem (client_message c m) = both
  sound_for_lem (local_create name type value) = both
  sound_for_lem (local_write id value) = both
  sound_for_lem (read_entry id) = s.table

  -- 14 does not arise
  pub step_is : (k : LentCall) → call_step limit mem k ≡ execute mem k.output (judge limit (entries_of mem.table) mem.marks k.call)
  unfolding call_step
  step_is k = pick_true _ _ (sound_for_lem k.call)

pub sound_kept : SoundKept
sound_kept limit mem s k =
    rw (step_is limit mem s k)
    (execute_sound limit mem s k.output k.call (judge limit (entries_of mem.table) mem.marks k.call) (verdict_is limit (entries_of mem.table) mem.marks k.call)).after

record SoundTableAfter (limit : ℕ) (r : CallResult) : Type 0 where
  after : sound_table limit r.memory.table ≡ true

read_kept : (limit : ℕ) (mem : ServerMemory) → sound_table limit mem.table ≡ true → (out : List ℕ) (id : ℕ)
    → SoundTableAfter limit (call_step limit mem (record { call = read_entry id; output = out }))
unfolding call_step judge execute
read_kept limit mem s out id =
    by_test (SoundTableAfter limit) _ _ _ (λ _.
    by_test (λ (v : Verdict). SoundTableAfter limit (execute mem out v)) _ _ _ (λ _. by_test (SoundTableAfter limit) _ _ _ (λ _. same) (λ _. same)) (λ _. record { after = s }))
    (λ _. record { after = s })
  where
    same : {number taken sent recipients : ℕ} {output : List ℕ}
        → SoundTableAfter limit (record { number = number; taken = taken; sent = sent; recipients = recipients; memory = mem; output = output })
    same = record { after = s }

-- marks that are not sound: every call is refused but reading, which changes nothing
table_unmarked : (limit : ℕ) (mem : ServerMemory) → sound_table limit mem.table ≡ true → sound_marks mem.marks ≡ false → (out : List ℕ) (call : Call)
    → sound_table limit (call_step limit mem (record { call = call; output = out })).memory.table ≡ true
unfolding call_step pick
table_unmarked limit mem s u out (open_connection c) = rw (s, u) s
table_unmarked limit mem s u out (leave c) = rw (s, u) s
table_unmarked limit mem s u out (client_message c m) = rw (s, u) s
table_unmarked limit mem s u out (local_create name type value) = rw (s, u) s
table_unmarked limit mem s u out (local_write id value) = rw (s, u) s
table_unmarked limit mem s u out (read_entry id) = (read_kept limit mem s out id).after

pub sound_table_kept : SoundTableKept
sound_table_kept limit mem k s = go (sound_marks mem.marks) refl
  where
    go : (t : Bool) → sound_marks mem.marks ≡ t → sound_table limit (call_step limit mem k).memory.table ≡ true
    go true m = (sound_kept limit mem (record { table = s; marks = m }) k).table
    go false m = table_unmarked limit mem s m k.output k.call

-- ---- fresh starts

-- a start that answered 0
record Started (limit : ℕ) (r : StartResult) : Type 0 where
  at_done : r.number ≡ 0 → SoundMemory limit r.memory

started : (limit : ℕ) (mem : ServerMemory) → Started limit (fresh_start limit mem)
unfolding fresh_start
started limit mem =
    by_test (Started limit) (large && leb 16 (length mem.marks)) _ _
    (λ h. record { at_done = λ _. sound ((and-eq-true_iff large (leb 16 (length mem.marks))).0 h) })
    (λ _. record { at_done = λ e. absurd (omega arith) })
  where
    large : Bool
    large = large_enough limit mem.table.heads mem.table.bytes

    closed_marks : 16 ≤ length mem.marks → (c : ℕ) → c < 16 → get_or (overwrite_at mem.marks 0 (replicate 16 0)) c 0 ≤ 2
    closed_marks l c b =
        let closed_there : get_or (overwrite_at mem.marks 0 (replicate 16 0)) c 0 ≡ get_or (replicate 16 0) c 0 = rw (zero-add c) at (overwrite_inside mem.marks 0 (replicate 16 0) c (omega arith) (omega arith)) in
        omega (arith, closed_there, get_or-replicate {A = ℕ} 16 c 0 0 b)

    sound : (large ≡ true) × (leb 16 (length mem.marks) ≡ true)
        → SoundMemory limit (record { table = emptied mem.table; marks = overwrite_at mem.marks 0 (replicate 16 0) })
    sound h =
        let l : 16 ≤ length mem.marks = leb-true 16 (length mem.marks) h.1 in
        record {
          table = empty_sound limit mem.table h.0;
          marks = facts_marks (overwrite_at mem.marks 0 (replicate 16 0)) (omega (arith, length_overwrite mem.marks 0 (replicate 16 0))) (closed_marks l);
        }

pub start_sound : StartSound
start_sound limit mem e = (started limit mem).at_done e
