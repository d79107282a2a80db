-- Laws of held bytes: what a message that goes on takes, that one that is held is short, and that memory stays sound.
use Rattle.std.specs.Prelude.{Ok, Err}
use mathlib.Core.Path.{◌≡◌, refl}
use mathlib.Core.Logic.{◌≢◌, ◌⊎◌, inl, inr}
use mathlib.Core.Bool.{Bool, true, false, ◌||◌, false≢true}
use mathlib.Core.List.{List, [], ◌++◌}
use Prim.Native.Nat.{ℕ, zero, suc, ◌≤◌}
use native.Mathlib.Omega.{arith}
use lib.Dec.{leb, ltb, eqb}
use lib.ListN.{length, get_or, drop, length-drop}
use borrow.Author.Tests.{leb-false, eqb-true}
use Rattle.field.specs.Answer.{done, ignored, incomplete, unknown_kind, RefusalNumber}
use Rattle.field.proofs.ChoiceLaws.{by_test, pick_true}
use Rattle.answer.specs.Answers.{goes_on}
use Rattle.message.specs.Layout.{kind_size}
use Rattle.message.specs.Read.{AssignmentRead, UpdateRead}
use Rattle.message.specs.Reader.{id_allowed, name_in, value_in, update_value_in, assignment_length, update_length}
use Rattle.message.specs.declared.AllowedId.TheVariants.{Only}
use Rattle.message.proofs.RefusalLaws.{refusal_number, AssignmentRefused, assignment_rightly, UpdateRefused, update_rightly}
use Rattle.message.proofs.TakenLaws.{AssignmentIs, assignment_is, UpdateIs, update_is}
use Rattle.table.specs.Table.{entries_of, default_entry}
use Rattle.protocol.specs.Judge.{Call, local_create, local_write, new_id}
use Rattle.protocol.specs.Step.{ServerMemory, LentCall, call_step}
use Rattle.protocol.specs.Run.{memory_after_run}
use Rattle.protocol.specs.Kept.{SoundMemory}
use Rattle.protocol.proofs.AnswerLaws.{not_refused, call_answered}
use Rattle.protocol.proofs.ProgressLaws.{call_progress}
use Rattle.protocol.proofs.SoundnessLaws.{sound_kept}
use Rattle.convergence.proofs.RunLaws.{sound_run}
use Rattle.protocol.specs.Effect.{Effect, effect_of, longest_output, with_output}
use Rattle.line_record.specs.Plant.{PlantMessage, refused_message, asks, plant_number, plant_create, plant_write, plant_message}
use Rattle.line_record.specs.Held.{plant_effect, client_call, message_effect, Settled, leaving, settle, gather, longest_incomplete, IncompleteShort, GatherShort}
use Rattle.line_record.proofs.ShortLaws.{not_incomplete, AssignmentShort, assignment_short, UpdateShort, update_short}
use Rattle.line_record.proofs.CompleteLaws.{client_short, create_complete, write_complete}

-- ---- one message

-- a message is taken with 0 or 16
pub done_or_ignored : (number : ℕ) → goes_on number ≡ true → (number ≡ done) ⊎ (number ≡ ignored)
done_or_ignored number = go (eqb number done) (eqb number ignored) refl refl
  where
    go : (a b : Bool) → eqb number done ≡ a → eqb number ignored ≡ b → (a || b) ≡ true → (number ≡ done) ⊎ (number ≡ ignored)
    go true b p q h = inl (eqb-true number done p)
    go false true p q h = inr (eqb-true number ignored q)
    go false false p q h = absurd (false≢true h)

-- with 1 there are few bytes; with 0 or 16 some of them are taken; there is no other number but a refusal's
record EffectFacts (m : List ℕ) (e : Effect) : Type 0 where
  numbers : (e.number ≡ done) ⊎ ((e.number ≡ ignored) ⊎ RefusalNumber e.number)
  short : e.number ≡ incomplete → length m ≤ longest_incomplete
  takes : goes_on e.number ≡ true → (1 ≤ e.taken) × (e.taken ≤ length m)

module _ (limit : ℕ) (mem : ServerMemory) (m : List ℕ) where
  client_facts : (c : ℕ) → EffectFacts m (effect_of (call_step limit mem (client_call limit c m)))
  client_facts c =
      let progress = call_progress limit mem c m (longest_output limit) in
      record {
        numbers = (call_answered limit mem (client_call limit c m)).numbers;
        short = client_short limit mem (longest_output limit) c m;
        takes = λ on. (progress.takes_some (done_or_ignored _ on), progress.takes_there);
      }

  refused_facts : (number : ℕ) → RefusalNumber number → (number ≡ incomplete → length m ≤ longest_incomplete) → EffectFacts m (plant_effect limit mem (refused_message number))
  unfolding plant_effect
  refused_facts number n f = record { numbers = inr (inr n); short = f; takes = λ on. absurd (not_refused number n (done_or_ignored number on)) }

  asks_facts : (call : Call) (size : ℕ) → 1 ≤ size → size ≤ length m → (call_step limit mem (with_output limit call)).number ≢ incomplete
      → EffectFacts m (plant_effect limit mem (asks call size))
  unfolding plant_effect
  asks_facts call size some there complete =
      record { numbers = (call_answered limit mem (with_output limit call)).numbers; short = λ e. absurd (complete e); takes = λ on. rw (pick_true size 0 on) (some, there) }

  create_facts : (r : AssignmentRead) → AssignmentIs (id_allowed (Only new_id)) m r → AssignmentRefused r → AssignmentShort m r → EffectFacts m (plant_effect limit mem (plant_create m r))
  create_facts (Err fault) f (AssignmentRefused.refused n) (AssignmentShort.refused h) = refused_facts (plant_number fault.number) (right fault.number n) (one fault.number h)
    where
      right : (number : ℕ) → RefusalNumber number → RefusalNumber (plant_number number)
      right number n = by_test RefusalNumber _ _ _ (λ _. refusal_number unknown_kind (omega arith) (omega arith)) (λ _. n)

      one : (number : ℕ) → (number ≡ incomplete → length m ≤ longest_incomplete) → plant_number number ≡ incomplete → length m ≤ longest_incomplete
      one number h =
          by_test (λ (k : ℕ). k ≡ incomplete → length m ≤ longest_incomplete) _ _ _ (λ _. not_incomplete unknown_kind (omega arith)) (λ _. h)
  create_facts (Ok read) (AssignmentIs.taken a h w f) g s =
      asks_facts (local_create (name_in read.name_length m) read.type_code (value_in read.name_length read.value_length m)) (assignment_length read.name_length read.value_length) (omega arith) h
      (create_complete limit mem (longest_output limit) (name_in read.name_length m) read.type_code (value_in read.name_length read.value_length m) (w 0).value_whole)

  write_facts : (r : UpdateRead) → UpdateIs (λ id. ltb id (length (entries_of mem.table))) (λ id. (get_or (entries_of mem.table) id default_entry).type) m r → UpdateRefused r
      → UpdateShort m r → EffectFacts m (plant_effect limit mem (plant_write m r))
  write_facts (Err fault) f (UpdateRefused.refused n) (UpdateShort.refused h) = refused_facts fault.number n h
  write_facts (Ok read) (UpdateIs.taken a h w i k) g s =
      asks_facts (local_write read.id (update_value_in read.value_length m)) (update_length read.value_length) (omega arith) h (write_complete limit mem (longest_output limit) read.id (update_value_in read.value_length m) w)

  plant_facts : EffectFacts m (plant_effect limit mem (plant_message (entries_of mem.table) m))
  unfolding plant_message
  plant_facts =
      by_test P (leb kind_size (length m)) _ _
      (λ _. by_test P _ _ _ (λ _. create_facts _ (assignment_is _ m) (assignment_rightly _ m) (assignment_short _ m))
      (λ _. by_test P _ _ _ (λ _. write_facts _ (update_is _ _ m) (update_rightly _ _ m) (update_short _ _ m))
      (λ _. refused_facts unknown_kind (refusal_number unknown_kind (omega arith) (omega arith)) (not_incomplete unknown_kind (omega arith)))))
      (λ l. refused_facts incomplete (refusal_number incomplete (omega arith) (omega arith)) (λ _. omega (arith, leb-false kind_size (length m) l)))
    where
      P : PlantMessage → Type 0
      P p = EffectFacts m (plant_effect limit mem p)

  effect_facts : (c : ℕ) → EffectFacts m (message_effect limit mem c m)
  unfolding message_effect
  effect_facts c = by_test (EffectFacts m) _ _ _ (λ _. client_facts c) (λ _. plant_facts)

pub incomplete_short : IncompleteShort
incomplete_short limit mem c m = (effect_facts limit mem m c).short

pub effect_numbers : (limit : ℕ) (mem : ServerMemory) (c : ℕ) (m : List ℕ)
    → ((message_effect limit mem c m).number ≡ done) ⊎ (((message_effect limit mem c m).number ≡ ignored) ⊎ RefusalNumber (message_effect limit mem c m).number)
effect_numbers limit mem c m = (effect_facts limit mem m c).numbers

pub effect_takes : (limit : ℕ) (mem : ServerMemory) (c : ℕ) (m : List ℕ) → goes_on (message_effect limit mem c m).number ≡ true
    → (1 ≤ (message_effect limit mem c m).taken) × ((message_effect limit mem c m).taken ≤ length m)
effect_takes limit mem c m = (effect_facts limit mem m c).takes

-- ---- all bytes of a connection

-- what is still held is short
record Brief (s : Settled) : Type 0 where
  short : length s.kept.held ≤ longest_incomplete

settle_short : (most limit : ℕ) (mem : ServerMemory) (c : ℕ) (held : List ℕ) → length held ≤ most → Brief (settle most limit mem c held)
unfolding settle
settle_short zero limit mem c held enough = record { short = omega arith }
settle_short (suc most) limit mem c held enough =
    by_test Brief (leb 1 (length held)) _ _ (λ _. by_test Brief _ _ _ (λ e. record { short = incomplete_short limit mem c held (eqb-true _ _ e) })
    (λ _. by_test Brief (goes_on (message_effect limit mem c held).number) _ _ (λ on. by_test Brief _ _ _ (λ _. none)
    (λ _. record { short = (settle_short most limit _ c (drop (message_effect limit mem c held).taken held) (fewer on)).short })) (λ _. none))) (λ _. none)
  where
    none : {after : ServerMemory} {calls : List LentCall} → Brief (record { kept = record { memory = after; held = [] }; calls = calls })
    none = record { short = omega arith }

    fewer : goes_on (message_effect limit mem c held).number ≡ true → length (drop (message_effect limit mem c held).taken held) ≤ most
    fewer on = omega (arith, length-drop (message_effect limit mem c held).taken held, (effect_takes limit mem c held on).0)

pub gather_short : GatherShort
unfolding gather
gather_short limit mem c held arrived h =
    (by_test Brief _ _ _ (λ _. record { short = h }) (λ _. settle_short (length (held ++ arrived)) limit mem c (held ++ arrived) (omega arith))).short

-- ---- memory stays sound

record SoundEffect (limit : ℕ) (e : Effect) : Type 0 where
  after : SoundMemory limit e.memory

plant_sound : (limit : ℕ) (mem : ServerMemory) → SoundMemory limit mem → (p : PlantMessage) → SoundEffect limit (plant_effect limit mem p)
unfolding plant_effect
plant_sound limit mem s (refused_message number) = record { after = s }
plant_sound limit mem s (asks call size) = record { after = sound_kept limit mem s (with_output limit call) }

pub effect_sound : (limit : ℕ) (mem : ServerMemory) (c : ℕ) (m : List ℕ) → SoundMemory limit mem → SoundMemory limit (message_effect limit mem c m).memory
unfolding message_effect
effect_sound limit mem c m s =
    (by_test (SoundEffect limit) _ _ _ (λ _. record { after = sound_kept limit mem s (client_call limit c m) }) (λ _. plant_sound limit mem s _)).after

pub leaving_sound : (limit : ℕ) (mem : ServerMemory) (c : ℕ) → SoundMemory limit mem → SoundMemory limit (memory_after_run limit mem (leaving c))
leaving_sound limit mem c s = sound_run limit mem (leaving c) s

record SoundSettled (limit : ℕ) (s : Settled) : Type 0 where
  after : SoundMemory limit s.kept.memory

settle_sound : (most limit : ℕ) (mem : ServerMemory) (c : ℕ) (held : List ℕ) → SoundMemory limit mem → SoundSettled limit (settle most limit mem c held)
unfolding settle
settle_sound zero limit mem c held s = record { after = s }
settle_sound (suc most) limit mem c held s =
    by_test P _ _ _ (λ _. by_test P _ _ _ (λ _. record { after = next }) (λ _. by_test P _ _ _
    (λ _. by_test P _ _ _ (λ _. record { after = next }) (λ _. record { after = (settle_sound most limit _ c _ next).after }))
    (λ _. record { after = leaving_sound limit _ c next })))
    (λ _. record { after = s })
  where
    P : Settled → Type 0
    P = SoundSettled limit

    next : SoundMemory limit (message_effect limit mem c held).memory
    next = effect_sound limit mem c held s

pub gather_sound : (limit : ℕ) (mem : ServerMemory) (c : ℕ) (held arrived : List ℕ) → SoundMemory limit mem
    → SoundMemory limit (gather limit mem c held arrived).kept.memory
unfolding gather
gather_sound limit mem c held arrived s =
    (by_test (SoundSettled limit) _ _ _ (λ _. record { after = s }) (λ _. settle_sound (length (held ++ arrived)) limit mem c (held ++ arrived) s)).after
