-- What a call comes to, by its test of soundness and its verdict.
use Rattle.std.proofs.Common.{◌≡◌, refl, ◌∙◌, ℕ, ◌≤◌, ◌<◌, true, false, ◌&&◌, List, [], Result, Ok, Err, None, Some}
use borrow.Author.Tests.{lt-ltb, le-ltb}
use Rattle.field.specs.Answer.{unsound}
use Rattle.field.specs.Choice.{pick}
use Rattle.field.specs.declared.Fault.{Fault}
use Rattle.field.specs.declared.Refusal.{Refusal}
use Rattle.field.specs.declared.Refusal.TheVariants.{UnknownId, Unsound}
use Rattle.answer.specs.Answers.{bare_answer, ignored_answer, refused_answer}
use Rattle.message.specs.Layout.{Entry}
use Rattle.table.specs.Table.{TableMemory, entry_of, entries_of, max_entries}
use Rattle.soundness.specs.Sound.{sound_table, sound_marks}
use Rattle.scalar.specs.Scalar.{scalar_of}
use Rattle.protocol.specs.Judge.{Call, Verdict, judge, client_message, local_create, local_write, read_entry, store_new, store_update, new_entry}
use Rattle.recipients.specs.Recipients.{all_greeted}
use Rattle.scalar.specs.declared.Scalar.{Scalar}
use Rattle.protocol.specs.Kept.{SoundMemory}
use Rattle.protocol.specs.Lent.{answered, beside_marks, lent_call}
use Rattle.protocol.specs.Place.{call_place, execute_with_place, step_with_place}
use Rattle.protocol.specs.Step.{ServerMemory, call_step, execute, number_of, read_scalar, sound_for}
use Rattle.protocol.proofs.ReadLaws.{read_answered}
use Rattle.judge.specs.Decision.{DecidesCreate, DecidesWrite, mark_call}
use Rattle.judge.specs.declared.MarkChange.{MarkChange}
use Rattle.judge.specs.declared.MarkChange.TheVariants as K

-- ---- any call

module _ (memory : ServerMemory) (out : List ℕ) (call : Call) where
  unsound_step : sound_for max_entries memory call ≡ false
      → answered (bare_answer unsound) memory out ≡ step_with_place max_entries memory (lent_call call out)
  unfolding call_step call_place pick
  unsound_step h = rw h

  judged_step : (verdict : Verdict) → sound_for max_entries memory call ≡ true → verdict ≡ judge max_entries (entries_of memory.table) memory.marks call
      → execute_with_place memory out verdict ≡ step_with_place max_entries memory (lent_call call out)
  unfolding call_step call_place pick
  judged_step verdict h e = rw (h, ← e)

-- ---- a mark

mark_sound : (memory : ServerMemory) (change : MarkChange) (c : ℕ) → sound_for max_entries memory (mark_call change c) ≡ (sound_table max_entries memory.table && sound_marks memory.marks)
mark_sound memory K.Open c = refl
mark_sound memory K.Close c = refl

module _ (table : TableMemory) (marks : List ℕ) (change : MarkChange) (c : ℕ) where
  pub unsound_mark : (sound_table max_entries table && sound_marks marks) ≡ false
      → answered (bare_answer unsound) (beside_marks table marks) [] ≡ step_with_place max_entries (beside_marks table marks) (lent_call (mark_call change c) [])
  unsound_mark h = unsound_step (beside_marks table marks) [] (mark_call change c) (mark_sound (beside_marks table marks) change c ∙ h)

  pub judged_mark : (sound_table max_entries table && sound_marks marks) ≡ true
      → execute_with_place (beside_marks table marks) [] (judge max_entries (entries_of table) marks (mark_call change c))
      ≡ step_with_place max_entries (beside_marks table marks) (lent_call (mark_call change c) [])
  judged_mark h = judged_step (beside_marks table marks) [] (mark_call change c) _ (mark_sound (beside_marks table marks) change c ∙ h) refl

-- ---- a message

module _ (memory : ServerMemory) (out : List ℕ) (c : ℕ) (m : List ℕ) where
  pub unsound_message : (sound_table max_entries memory.table && sound_marks memory.marks) ≡ false
      → answered (bare_answer unsound) memory out ≡ step_with_place max_entries memory (lent_call (client_message c m) out)
  unsound_message h = unsound_step memory out (client_message c m) h

  pub judged_message : SoundMemory max_entries memory → (verdict : Verdict) → verdict ≡ judge max_entries (entries_of memory.table) memory.marks (client_message c m)
      → execute_with_place memory out verdict ≡ step_with_place max_entries memory (lent_call (client_message c m) out)
  judged_message sound verdict e = judged_step memory out (client_message c m) verdict (rw (sound.table, sound.marks)) e

-- ---- local calls

module _ (table : TableMemory) (marks out name : List ℕ) (type : ℕ) (value : List ℕ) where
  pub unsound_create : (sound_table max_entries table && sound_marks marks) ≡ false
      → answered (bare_answer unsound) (beside_marks table marks) out ≡ step_with_place max_entries (beside_marks table marks) (lent_call (local_create name type value) out)
  unsound_create h = unsound_step (beside_marks table marks) out (local_create name type value) h

  pub refused_create : (fault : Fault) → (sound_table max_entries table && sound_marks marks) ≡ true
      → DecidesCreate table.count name type value (Err fault) (judge max_entries (entries_of table) marks (local_create name type value))
      → answered (refused_answer fault) (beside_marks table marks) out ≡ step_with_place max_entries (beside_marks table marks) (lent_call (local_create name type value) out)
  unfolding execute
  refused_create fault h decides = judged_step (beside_marks table marks) out (local_create name type value) _ h decides.verdict

  pub stored_create : (sound_table max_entries table && sound_marks marks) ≡ true
      → DecidesCreate table.count name type value (Ok tt) (judge max_entries (entries_of table) marks (local_create name type value))
      → execute_with_place (beside_marks table marks) out (store_new (new_entry name type value) 0)
      ≡ step_with_place max_entries (beside_marks table marks) (lent_call (local_create name type value) out)
  stored_create h decides = judged_step (beside_marks table marks) out (local_create name type value) _ h decides.verdict

module _ (table : TableMemory) (marks out : List ℕ) (id : ℕ) (value : List ℕ) where
  pub unsound_write : (sound_table max_entries table && sound_marks marks) ≡ false
      → answered (bare_answer unsound) (beside_marks table marks) out ≡ step_with_place max_entries (beside_marks table marks) (lent_call (local_write id value) out)
  unsound_write h = unsound_step (beside_marks table marks) out (local_write id value) h

  pub refused_write : (fault : Fault) → (sound_table max_entries table && sound_marks marks) ≡ true
      → DecidesWrite table.count id value (Err fault) (judge max_entries (entries_of table) marks (local_write id value))
      → answered (refused_answer fault) (beside_marks table marks) out ≡ step_with_place max_entries (beside_marks table marks) (lent_call (local_write id value) out)
  unfolding execute
  refused_write fault h decides = judged_step (beside_marks table marks) out (local_write id value) _ h decides.verdict

  pub same_write : (sound_table max_entries table && sound_marks marks) ≡ true
      → DecidesWrite table.count id value (Ok None) (judge max_entries (entries_of table) marks (local_write id value))
      → answered (ignored_answer 0) (beside_marks table marks) out ≡ step_with_place max_entries (beside_marks table marks) (lent_call (local_write id value) out)
  unfolding execute
  same_write h decides = judged_step (beside_marks table marks) out (local_write id value) _ h decides.verdict

  pub stored_write : (number : ℕ) → (sound_table max_entries table && sound_marks marks) ≡ true
      → DecidesWrite table.count id value (Ok (Some number)) (judge max_entries (entries_of table) marks (local_write id value))
      → execute_with_place (beside_marks table marks) out (store_update id number value 0 all_greeted)
      ≡ step_with_place max_entries (beside_marks table marks) (lent_call (local_write id value) out)
  stored_write number h decides = judged_step (beside_marks table marks) out (local_write id value) _ h decides.verdict

-- ---- reading

module _ (table : TableMemory) (id : ℕ) where
  pub unsound_read : sound_table max_entries table ≡ false → Err Unsound ≡ read_scalar max_entries table id
  unfolding read_scalar pick
  unsound_read h = rw h

  pub unknown_read : sound_table max_entries table ≡ true → table.count ≤ id → Err UnknownId ≡ read_scalar max_entries table id
  unfolding read_scalar pick
  unknown_read h l = rw (h, le-ltb id table.count l)

  pub held_read : (e : Entry) → e ≡ entry_of table id → sound_table max_entries table ≡ true → id < table.count → Ok (scalar_of e.type e.value) ≡ read_scalar max_entries table id
  unfolding read_scalar pick
  held_read e same h l = rw (same, h, lt-ltb id table.count l)

  -- the number is the step's, beside any marks
  pub number_read : (read : Result Scalar Refusal) → read ≡ read_scalar max_entries table id
      → (marks : List ℕ) → number_of read ≡ (call_step max_entries (beside_marks table marks) (lent_call (read_entry id) [])).number
  number_read read e marks = rw (e, read_answered (beside_marks table marks) [] max_entries id)
