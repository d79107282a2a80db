-- Each call of a replay has room, and the same calls with other outputs that have room leave the same memory.
use mathlib.Core.Path.{◌≡◌, refl, sym, ap, ◌∙◌}
use mathlib.Core.List.{List, [], ◌∷◌, ◌++◌}
use Prim.Native.Nat.{ℕ, zero, suc, ◌≤◌}
use native.Mathlib.Omega.{arith}
use lib.ListN.{length, get_or, drop}
use Rattle.field.proofs.ChoiceLaws.{by_test}
use Rattle.table.specs.Table.{entries_of}
use Rattle.protocol.specs.Judge.{Call, open_connection, leave, Verdict, judge}
use Rattle.protocol.specs.Step.{ServerMemory, LentCall, call_step, fresh_start}
use Rattle.protocol.specs.Run.{memory_after_run}
use Rattle.protocol.specs.Kept.{SoundMemory}
use Rattle.protocol.proofs.SoundnessLaws.{step_is, sound_kept, start_sound}
use Rattle.protocol.specs.Effect.{Effect, effect_of, with_output}
use Rattle.line_record.specs.Plant.{PlantMessage, refused_message, asks, plant_message}
use Rattle.line_record.specs.Held.{plant_calls, message_effect, message_calls, Settled, leaving, settle, gather}
use Rattle.line_record.specs.Record.{Record, opens, leaves, came, NextRecord, refused_record, found, next_record}
use Rattle.line_record.specs.Replay.{RunState, run_state, step_record, advance_on, advance, Ran, run, none_held, replay}
use Rattle.line_record.specs.Demand.{HasRoom, EachHasRoom, ReplayHasRoom, SameCalls, SameMemory, ReplayIsCallsByHand}
use Rattle.line_record.proofs.CallsLaws.{replay_is_calls}
use Rattle.protocol.proofs.RoomLaws.{sends, with_room, executed_with_room, length_longest, call_with_room}

-- ---- each call of a replay has room

module _ (limit : ℕ) where
  -- calls behind calls
  rooms : (ks ls : List LentCall) → EachHasRoom limit ks → EachHasRoom limit ls → EachHasRoom limit (ks ++ ls)
  rooms [] ls f g = g
  rooms (k ∷ ks) ls (EachHasRoom.and_then h f) g = EachHasRoom.and_then h (rooms ks ls f g)

  one_room : (k : LentCall) → HasRoom limit k → EachHasRoom limit (k ∷ [])
  one_room k h = EachHasRoom.and_then h EachHasRoom.no_more

  longest_room : (call : Call) → EachHasRoom limit (with_output limit call ∷ [])
  longest_room call = one_room _ (HasRoom.longest (omega (arith, length_longest limit)))

  plant_room : (p : PlantMessage) → EachHasRoom limit (plant_calls limit p)
  plant_room (refused_message number) = EachHasRoom.no_more
  plant_room (asks call size) = longest_room call

  message_room : (mem : ServerMemory) (c : ℕ) (m : List ℕ) → EachHasRoom limit (message_calls limit mem c m)
  unfolding message_calls
  message_room mem c m = by_test (EachHasRoom limit) _ _ _ (λ _. longest_room _) (λ _. plant_room (plant_message (entries_of mem.table) m))

  leaving_room : (c : ℕ) → EachHasRoom limit (leaving c)
  unfolding leaving
  leaving_room c = by_test (EachHasRoom limit) _ _ _ (λ _. one_room _ HasRoom.leaving) (λ _. EachHasRoom.no_more)

record SettledRoom (limit : ℕ) (s : Settled) : Type 0 where
  room : EachHasRoom limit s.calls

settle_room : (most limit : ℕ) (mem : ServerMemory) (c : ℕ) (held : List ℕ) → SettledRoom limit (settle most limit mem c held)
unfolding settle
settle_room zero limit mem c held = record { room = EachHasRoom.no_more }
settle_room (suc most) limit mem c held =
    by_test P _ _ _ (λ _. by_test P _ _ _ (λ _. record { room = one }) (λ _. by_test P _ _ _
    (λ _. by_test P _ _ _ (λ _. record { room = one })
    (λ _. record { room = rooms limit _ _ one (settle_room most limit (message_effect limit mem c held).memory c (drop (message_effect limit mem c held).taken held)).room }))
    (λ _. record { room = rooms limit _ _ one (leaving_room limit c) })))
    (λ _. record { room = EachHasRoom.no_more })
  where
    P : Settled → Type 0
    P = SettledRoom limit

    one : EachHasRoom limit (message_calls limit mem c held)
    one = message_room limit mem c held

gather_room : (limit : ℕ) (mem : ServerMemory) (c : ℕ) (held arrived : List ℕ) → EachHasRoom limit (gather limit mem c held arrived).calls
unfolding gather
gather_room limit mem c held arrived =
    (by_test (SettledRoom limit) _ _ _ (λ _. record { room = EachHasRoom.no_more }) (λ _. settle_room (length (held ++ arrived)) limit mem c (held ++ arrived))).room

step_room : (limit : ℕ) (s : RunState) (r : Record) → EachHasRoom limit (step_record limit s r).calls
unfolding step_record
step_room limit s (opens c) = one_room limit _ HasRoom.opening
step_room limit s (leaves c) = one_room limit _ HasRoom.leaving
step_room limit s (came c arrived) = gather_room limit s.memory c (get_or s.held c []) arrived

advance_room : (limit : ℕ) (s : RunState) (bytes : List ℕ) → EachHasRoom limit (advance limit s bytes).calls
advance_room limit s bytes = go (next_record bytes)
  where
    go : (n : NextRecord) → EachHasRoom limit (advance_on limit s n).calls
    go (refused_record number) = unfold advance_on in EachHasRoom.no_more
    go (found r size) = unfold advance_on in step_room limit s r

record RanRoom (limit : ℕ) (r : Ran) : Type 0 where
  room : EachHasRoom limit r.calls

run_room : (most limit : ℕ) (s : RunState) (bytes : List ℕ) → RanRoom limit (run most limit s bytes)
unfolding run
run_room zero limit s bytes = record { room = EachHasRoom.no_more }
run_room (suc most) limit s bytes =
    by_test (RanRoom limit) _ _ _ (λ _. by_test (RanRoom limit) _ _ _
    (λ _. record { room = rooms limit _ _ (advance_room limit s bytes) (run_room most limit (advance limit s bytes).state (drop (advance limit s bytes).size bytes)).room })
    (λ _. record { room = EachHasRoom.no_more }))
    (λ _. record { room = EachHasRoom.no_more })

pub replay_has_room : ReplayHasRoom
unfolding replay
replay_has_room limit mem recorded =
    (by_test (RanRoom limit) _ _ _ (λ _. run_room (length recorded) limit (run_state (fresh_start limit mem).memory none_held) recorded) (λ _. record { room = EachHasRoom.no_more })).room

-- ---- other outputs

module _ (limit : ℕ) (some : 1 ≤ limit) (mem : ServerMemory) (s : SoundMemory limit mem) where
  -- a verdict that sends nothing
  record Silent (v : Verdict) : Type 0 where
    sends_none : length (sends mem v) ≤ 0

  silent_call : (k : LentCall) → Silent (judge limit (entries_of mem.table) mem.marks k.call)
      → effect_of (call_step limit mem k) ≡ with_room mem (judge limit (entries_of mem.table) mem.marks k.call)
  silent_call k f =
      ap effect_of (step_is limit mem s k) ∙ executed_with_room mem k.output (judge limit (entries_of mem.table) mem.marks k.call) (omega (arith, f.sends_none))

  open_silent : (c : ℕ) → Silent (judge limit (entries_of mem.table) mem.marks (open_connection c))
  unfolding judge
  open_silent c = by_test Silent _ _ _ (λ _. by_test Silent _ _ _ (λ _. record { sends_none = omega arith }) (λ _. record { sends_none = omega arith })) (λ _. record { sends_none = omega arith })

  leave_silent : (c : ℕ) → Silent (judge limit (entries_of mem.table) mem.marks (leave c))
  unfolding judge
  leave_silent c = by_test Silent _ _ _ (λ _. by_test Silent _ _ _ (λ _. record { sends_none = omega arith }) (λ _. record { sends_none = omega arith })) (λ _. record { sends_none = omega arith })

  -- what a call with room does is decided without its output
  room_decides : (k : LentCall) → HasRoom limit k → effect_of (call_step limit mem k) ≡ with_room mem (judge limit (entries_of mem.table) mem.marks k.call)
  room_decides k (HasRoom.longest room) = call_with_room limit mem some s k.call k.output room
  room_decides k (HasRoom.opening {c} {out}) = silent_call (record { call = open_connection c; output = out }) (open_silent c)
  room_decides k (HasRoom.leaving {c} {out}) = silent_call (record { call = leave c; output = out }) (leave_silent c)

  same_step : (k l : LentCall) → k.call ≡ l.call → HasRoom limit k → HasRoom limit l → (call_step limit mem k).memory ≡ (call_step limit mem l).memory
  same_step k l e f g =
      ap (λ (r : Effect). r.memory)
      (room_decides k f ∙ ap (λ (call : Call). with_room mem (judge limit (entries_of mem.table) mem.marks call)) e ∙ sym (room_decides l g))

pub same_memory : SameMemory
unfolding memory_after_run
same_memory limit some mem s [] (l ∷ ls) x7 f g = elim x7 [ ]
same_memory limit some mem s (k ∷ ks) [] x6 f g = elim x6 [ ]
same_memory limit some mem s [] [] SameCalls.no_more f g = refl
same_memory limit some mem s (k ∷ ks) (l ∷ ls) (SameCalls.and_then e more) (EachHasRoom.and_then h f) (EachHasRoom.and_then i g) =
    same_memory limit some (call_step limit mem k).memory (sound_kept limit mem s k) ks ls more f g
    ∙ ap (λ (m : ServerMemory). memory_after_run limit m ls) (same_step limit some mem s k l e h i)

pub replay_is_calls_by_hand : ReplayIsCallsByHand
replay_is_calls_by_hand limit some mem started recorded byHand same room =
    replay_is_calls limit mem recorded
    ∙ same_memory limit some (fresh_start limit mem).memory (start_sound limit mem started) (replay limit mem recorded).calls byHand same (replay_has_room limit mem recorded) room
