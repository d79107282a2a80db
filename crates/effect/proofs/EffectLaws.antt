-- What a decision changes, on sound memory, is the effect of its call: there is room for what it would send.
use Rattle.std.proofs.Common.{◌≡◌, sym, ap, ◌∙◌, true, List, [], ℕ, ◌+◌, ◌≤◌, arith, length, drop, Result, Ok, Err}
use lib.ListN.{length-take}
use Rattle.field.specs.Place.{WithPlace}
use Rattle.field.specs.Refusal.{refusal_number}
use Rattle.field.specs.declared.Fault.{Fault}
use Rattle.field.specs.declared.Refusal.{Refusal}
use Rattle.message.specs.Layout.{assignment_name_start, assignment_fixed, update_value_start, unsupported_kind}
use Rattle.message.specs.Reader.{name_in, value_in, update_value_in}
use Rattle.table.specs.Table.{entries_of, max_entries}
use Rattle.soundness.specs.Sound.{sound_table}
use Rattle.hello.specs.Hello.{longest_hello}
use Rattle.protocol.specs.Judge.{Call, Verdict, refuse, protocol_revision, new_entry, judge}
use Rattle.protocol.specs.Step.{ServerMemory, CallResult, execute, call_step}
use Rattle.protocol.specs.Kept.{SoundMemory}
use Rattle.protocol.specs.Place.{execute_with_place}
use Rattle.protocol.proofs.SoundnessLaws.{step_is}
use Rattle.judge.specs.declared.Decision.{Decision}
use Rattle.judge.specs.declared.Decision.TheVariants as D
use Rattle.judge.specs.Decision.{verdict_of, Performable}
use Rattle.store.specs.Marked.{marked}
use Rattle.effect.specs.Lent.{done_effect}
use Rattle.protocol.specs.Effect.{effect_of, longest_output, with_output, without_output}
use Rattle.protocol.proofs.RoomLaws.{hello_room, revision_room, assignment_room, update_room, sends, with_room, executed_longest, call_longest}

-- ---- a client's message

module _ (mem : ServerMemory) (h : sound_table max_entries mem.table ≡ true) (c : ℕ) (m : List ℕ) where
  decided_room : (d : Result Decision Fault) → Performable mem.table.count c m d → length (sends mem (verdict_of c m d)) ≤ longest_hello max_entries
  decided_room (Err fault) p = omega arith
  decided_room (Ok (D.Ignore taken)) p = omega arith
  decided_room (Ok D.AcceptHello) p = hello_room max_entries mem.table h
  decided_room (Ok D.UnsupportedRevision) p = revision_room max_entries unsupported_kind protocol_revision (omega arith)
  decided_room (Ok (D.StoreNew read)) p =
      assignment_room max_entries mem.table.count (new_entry (name_in read.name_length m) read.type_code (value_in read.name_length read.value_length m)) (omega arith)
      (omega (arith, p.2, length-take read.name_length (drop assignment_name_start m)))
      (omega (arith, p.3, length-take read.value_length (drop (assignment_fixed + read.name_length) m)))
  decided_room (Ok (D.StoreUpdate read)) p =
      update_room max_entries read.id read.number (update_value_in read.value_length m) (omega arith) (omega (arith, p.2, length-take read.value_length (drop update_value_start m)))

  -- for a decision that is known
  pub decided_effect : (d e : Decision) → d ≡ e → Performable mem.table.count c m (Ok d)
      → with_room mem (verdict_of c m (Ok e)) ≡ effect_of (execute mem (longest_output max_entries) (verdict_of c m (Ok d)))
  decided_effect d e same p =
      ap (λ (x : Decision). with_room mem (verdict_of c m (Ok x))) (sym same) ∙ sym (executed_longest max_entries mem (verdict_of c m (Ok d)) (decided_room (Ok d) p))

-- ---- a call whose decision is known, and the verdict that it is

pub verdict_effect : (mem : ServerMemory) → SoundMemory max_entries mem → (call : Call) (v : Verdict)
    → v ≡ judge max_entries (entries_of mem.table) mem.marks call
    → with_room mem v ≡ effect_of (call_step max_entries mem (with_output max_entries call))
verdict_effect mem s call v decided = ap (with_room mem) decided ∙ sym (call_longest max_entries mem (omega arith) s call)

-- a refusal
pub refused_effect : (mem : ServerMemory) → SoundMemory max_entries mem → (call : Call) (fault : Fault) (refusal : Refusal) → refusal_number refusal ≡ fault.number
    → refuse fault ≡ judge max_entries (entries_of mem.table) mem.marks call
    → done_effect (Err refusal) mem ≡ effect_of (call_step max_entries mem (with_output max_entries call))
refused_effect mem s call fault refusal n decided = rw n (verdict_effect mem s call (refuse fault) decided)

-- ---- opening and leaving: no bytes are taken

pub mark_made : (mem after : ServerMemory) → SoundMemory max_entries mem → (call : Call)
    → marked (Ok tt) after [] ≡ execute_with_place mem [] (judge max_entries (entries_of mem.table) mem.marks call)
    → done_effect (Ok tt) after ≡ effect_of (call_step max_entries mem (without_output call))
mark_made mem after s call done = rw (step_is max_entries mem s (without_output call)) (ap (λ (w : WithPlace CallResult). effect_of w.result) done)

pub mark_refused : (mem after : ServerMemory) → SoundMemory max_entries mem → (call : Call) (fault : Fault) (refusal : Refusal) → refusal_number refusal ≡ fault.number
    → marked (Err fault) after [] ≡ execute_with_place mem [] (judge max_entries (entries_of mem.table) mem.marks call)
    → done_effect (Err refusal) after ≡ effect_of (call_step max_entries mem (without_output call))
mark_refused mem after s call fault refusal n done = rw (n, step_is max_entries mem s (without_output call)) (ap (λ (w : WithPlace CallResult). effect_of w.result) done)
