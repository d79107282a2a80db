-- The client half: what is known of its verdict, that it makes progress and keeps a sound copy sound, and what it makes of a server's messages.
use Rattle.std.specs.Prelude.{Ok, Err}
use Rattle.message.specs.Read.{AssignmentRead, UpdateRead}
use mathlib.Core.Path.{◌≡◌, refl, ap, ◌∙◌}
use mathlib.Core.Logic.{◌⊎◌, inl, inr}
use mathlib.Core.Bool.{Bool, true, false}
use mathlib.Core.List.{List, [], ◌∷◌, ◌++◌}
use Prim.Native.Nat.{ℕ, suc, ◌+◌, ◌≤◌, ◌<◌}
use native.Mathlib.Omega.{arith}
use lib.Dec.{ltb}
use lib.ListN.{length, get_or}
use borrow.Author.Tests.{ltb-true, leb-true, le-leb, lt-ltb, eq-eqb}
use Rattle.field.specs.Answer.{RefusalNumber}
use Rattle.field.specs.Choice.{pick, demand}
use Rattle.field.specs.Octets.{encode16}
use Rattle.field.specs.Field.{fault_at}
use Rattle.field.specs.declared.Fault.{Fault}
use Rattle.field.proofs.ChoiceLaws.{by_test, pick_true}
use Rattle.field.proofs.OctetsLaws.{decode_encode}
use Rattle.value.specs.Value.{IsValue}
use Rattle.message.specs.Layout.{Entry, Message, keep_alive, hello, unsupported, hello_complete, assignment, update, layout, WellFormed, keep_alive_kind, unsupported_kind, hello_complete_kind, assignment_kind, update_kind, assignment_bytes, update_bytes, revision_bytes}
use Rattle.message.specs.Reader.{id_allowed, parse_assignment}
use Rattle.message.specs.declared.AllowedId.TheVariants.{Only}
use Rattle.message.proofs.TakenLaws.{AssignmentIs, assignment_is, UpdateIs, update_is}
use Rattle.message.proofs.ReadBack.{assignment_back, name_back, value_back_at, update_back, update_value_back, length_assignment, length_update}
use Rattle.table.specs.Names.{name_held}
use Rattle.table.specs.Table.{TableMemory, tabulate, entries_of, default_entry, parse_held_update, store_entry, store_value}
use Rattle.table.proofs.StoreLaws.{with_number_and_value}
use Rattle.soundness.specs.Sound.{large_enough, sound_table}
use Rattle.protocol.specs.Copy.{CopyVerdict, refuse, ignore, store_new, store_update, refuse_message, judge_copy_assignment, judge_copy_update, judge_copy_kind, judge_copy, CopyResult, execute_copy, copy_message, CopyStart, copy_fresh_start}
use Rattle.protocol.specs.Answered.{CopyRightlyAnswered, CopyAnswered, CopyProgress}
use Rattle.protocol.specs.Kept.{CopySoundKept, CopyStartSound}
use Rattle.protocol.specs.CopyTaken.{FromServer}
use Rattle.message.proofs.RefusalLaws.{refusal_number, AssignmentRefused, assignment_rightly, UpdateRefused, update_rightly}
use Rattle.protocol.proofs.AnswerLaws.{not_refused}
use Rattle.soundness.proofs.StoredLaws.{stored_new, new_sound, stored_value, value_sound, empty_sound}

-- ---- the verdict

pub data CopyVerdictIs (limit : ℕ) (es : List Entry) (m : List ℕ) : CopyVerdict → Type 0 where
  refused : {fault : Fault} → RefusalNumber fault.number → CopyVerdictIs limit es m (refuse fault)
  ignored : {taken revision : ℕ} → 1 ≤ taken → taken ≤ length m → CopyVerdictIs limit es m (ignore taken revision)
  created : {e : Entry} {taken : ℕ} → WellFormed e → name_held e.name es ≡ false → length es < limit → 1 ≤ taken → taken ≤ length m
      → CopyVerdictIs limit es m (store_new e taken)
  updated : {id number taken : ℕ} {value : List ℕ} → id < length es → IsValue (get_or es id default_entry).type value → 1 ≤ taken → taken ≤ length m
      → CopyVerdictIs limit es m (store_update id number value taken)

module _ (limit : ℕ) (es : List Entry) (m : List ℕ) where
  assignment_verdict : (allowed : ℕ → Bool) (r : AssignmentRead) → AssignmentIs allowed m r → AssignmentRefused r → CopyVerdictIs limit es m (judge_copy_assignment limit es m r)
  unfolding judge_copy_assignment
  assignment_verdict allowed (Err fault) f (AssignmentRefused.refused n) = refused n
  assignment_verdict allowed (Ok read) (AssignmentIs.taken a h w f) g =
      by_test (CopyVerdictIs limit es m) _ _ _ (λ _. refused (refusal_number 13 (omega arith) (omega arith))) (λ new.
      by_test (CopyVerdictIs limit es m) _ _ _ (λ l. created (w read.number) new (ltb-true _ _ l) (omega arith) h) (λ _. refused (refusal_number 11 (omega arith) (omega arith))))

  update_verdict : (r : UpdateRead) → UpdateIs (λ id. ltb id (length es)) (λ id. (get_or es id default_entry).type) m r → UpdateRefused r → CopyVerdictIs limit es m (judge_copy_update m r)
  unfolding judge_copy_update
  update_verdict (Err fault) f (UpdateRefused.refused n) = refused n
  update_verdict (Ok read) (UpdateIs.taken h n w i q') g = updated {taken = 5 + read.value_length} (ltb-true _ _ h) w (omega arith) n

  pub copy_verdict_is : CopyVerdictIs limit es m (judge_copy limit es m)
  unfolding judge_copy judge_copy_kind
  copy_verdict_is =
      by_test P _ _ _ (λ there.
      by_test P _ _ _ (λ _. ignored (omega arith) (leb-true _ _ there)) (λ _.
      by_test P _ _ _ (λ _. ignored (omega arith) (leb-true _ _ there)) (λ _.
      by_test P _ _ _ (λ _. by_test P _ _ _ (λ three. ignored (omega arith) (leb-true _ _ three)) (λ _. cut_short 1)) (λ _.
      by_test P _ _ _ (λ _. assignment_verdict allowed _ (assignment_is allowed m) (assignment_rightly allowed m)) (λ _.
      by_test P _ _ _ (λ _. update_verdict _ (update_is _ _ m) (update_rightly _ _ m)) (λ _. refused (refusal_number 4 (omega arith) (omega arith))))))))
      (λ _. cut_short 0)
    where
      P : CopyVerdict → Type 0
      P = CopyVerdictIs limit es m

      allowed : ℕ → Bool
      allowed = id_allowed (Only (length es))

      cut_short : (place : ℕ) → P (refuse (fault_at 1 place))
      cut_short place = refused (refusal_number 1 (omega arith) (omega arith))

-- ---- a sound copy

pub copy_step : (limit : ℕ) (m : TableMemory) (message : List ℕ) → sound_table limit m ≡ true
    → copy_message limit m message ≡ execute_copy m (judge_copy limit (entries_of m) message)
unfolding copy_message
copy_step limit m message s = pick_true _ _ s

execute_sound : (limit : ℕ) (m : TableMemory) (message : List ℕ) → sound_table limit m ≡ true → (v : CopyVerdict)
    → CopyVerdictIs limit (entries_of m) message v → sound_table limit (execute_copy m v).memory ≡ true
unfolding execute_copy
execute_sound limit m message s (refuse fault) f = s
execute_sound limit m message s (ignore k r) f = s
execute_sound limit m message s (store_new e k) (created w new room a b) = new_sound limit m s e w new room
execute_sound limit m message s (store_update id q v k) (updated held w a b) = value_sound limit m s id _ v held w

pub copy_sound_kept : CopySoundKept
copy_sound_kept limit m message s =
    rw (copy_step limit m message s) (execute_sound limit m message s (judge_copy limit (entries_of m) message) (copy_verdict_is limit (entries_of m) message))

-- ---- progress

-- where a message is answered 0 or 16, some of its bytes are taken, and no more than there are
record Progress (message : List ℕ) (r : CopyResult) : Type 0 where
  some_taken : (r.number ≡ 0) ⊎ (r.number ≡ 16) → (1 ≤ r.taken) × (r.taken ≤ length message)

refusal_progress : (message : List ℕ) (r : CopyResult) → RefusalNumber r.number → Progress message r
refusal_progress message r n = record { some_taken = λ e. absurd (not_refused r.number n e) }

execute_progress : (limit : ℕ) (m : TableMemory) (es : List Entry) (message : List ℕ) (v : CopyVerdict) → CopyVerdictIs limit es message v → Progress message (execute_copy m v)
unfolding execute_copy
execute_progress limit m es message (refuse fault) (refused n) = refusal_progress message _ n
execute_progress limit m es message (ignore k r) (ignored a b) = record { some_taken = λ e. (a, b) }
execute_progress limit m es message (store_new e k) (created w new room a b) = record { some_taken = λ e. (a, b) }
execute_progress limit m es message (store_update id q v k) (updated held w a b) = record { some_taken = λ e. (a, b) }

pub copy_progress : CopyProgress
copy_progress limit m message = step.some_taken
  where
    step : Progress message (copy_message limit m message)
    step =
        unfold copy_message execute_copy in
        by_test (Progress message) _ _ _
        (λ _. execute_progress limit m (entries_of m) message _ (copy_verdict_is limit (entries_of m) message))
        (λ _. refusal_progress message _ (refusal_number 14 (omega arith) (omega arith)))

-- ---- what it answers

answered_done : (m : TableMemory) (taken : ℕ) (after : TableMemory) → CopyRightlyAnswered m (record { number = 0; taken = taken; revision = 0; memory = after })
answered_done m taken after =
    record { numbers = inl refl; refusal_takes_nothing = λ n. absurd (omega arith); revision_with_ignored = λ _. refl; unchanged = λ ne. absurd (ne refl) }

answered_refusal : (m : TableMemory) (number : ℕ) → RefusalNumber number → CopyRightlyAnswered m (record { number = number; taken = 0; revision = 0; memory = m })
answered_refusal m number n =
    record { numbers = inr (inr n); refusal_takes_nothing = λ _. refl; revision_with_ignored = λ _. refl; unchanged = λ _. refl }

execute_answered : (limit : ℕ) (m : TableMemory) (es : List Entry) (message : List ℕ) (v : CopyVerdict) → CopyVerdictIs limit es message v → CopyRightlyAnswered m (execute_copy m v)
unfolding execute_copy
execute_answered limit m es message (refuse fault) (refused n) = answered_refusal m fault.number n
execute_answered limit m es message (ignore k r) f =
    record { numbers = inr (inl refl); refusal_takes_nothing = λ n. absurd (omega arith); revision_with_ignored = λ ne. absurd (ne refl); unchanged = λ _. refl }
execute_answered limit m es message (store_new e k) f = answered_done m k (store_entry m e)
execute_answered limit m es message (store_update id q v k) f = answered_done m k (store_value m id q v)

pub copy_answered : CopyAnswered
unfolding copy_message execute_copy
copy_answered limit m message =
    by_test (CopyRightlyAnswered m) _ _ _
    (λ _. execute_answered limit m (entries_of m) message _ (copy_verdict_is limit (entries_of m) message))
    (λ _. answered_refusal m 14 (refusal_number 14 (omega arith) (omega arith)))

-- ---- a fresh start

record CopyStarted (limit : ℕ) (m : TableMemory) (r : CopyStart) : Type 0 where
  at_done : r.number ≡ 0 → (sound_table limit r.memory ≡ true) × (entries_of r.memory ≡ [])

copy_started : (limit : ℕ) (m : TableMemory) → CopyStarted limit m (copy_fresh_start limit m)
unfolding copy_fresh_start entries_of tabulate
copy_started limit m =
    by_test (CopyStarted limit m) (large_enough limit m.heads m.bytes) _ _
    (λ h. record { at_done = λ _. (empty_sound limit m h, refl) })
    (λ _. record { at_done = λ e. absurd (omega arith) })

pub copy_start_sound : CopyStartSound
copy_start_sound limit m e = (copy_started limit m).at_done e

-- ---- the server's messages

kind_assignment : (limit : ℕ) (es : List Entry) (s : List ℕ)
    → judge_copy limit es (assignment_kind ∷ s) ≡ judge_copy_assignment limit es (assignment_kind ∷ s) (parse_assignment (id_allowed (Only (length es))) (assignment_kind ∷ s))
unfolding judge_copy judge_copy_kind pick
kind_assignment limit es s = rw (le-leb 1 (suc (length s)) (omega arith))

kind_update : (limit : ℕ) (es : List Entry) (s : List ℕ) → judge_copy limit es (update_kind ∷ s) ≡ judge_copy_update (update_kind ∷ s) (parse_held_update es (update_kind ∷ s))
unfolding judge_copy judge_copy_kind pick
kind_update limit es s = rw (le-leb 1 (suc (length s)) (omega arith))

by_kind_assignment : (limit : ℕ) (es : List Entry) (id : ℕ) (e : Entry) (rest : List ℕ) → judge_copy limit es (assignment_bytes id e ++ rest)
    ≡ judge_copy_assignment limit es (assignment_bytes id e ++ rest) (parse_assignment (id_allowed (Only (length es))) (assignment_bytes id e ++ rest))
unfolding assignment_bytes
by_kind_assignment limit es id e rest = kind_assignment limit es _

by_kind_update : (limit : ℕ) (es : List Entry) (id number : ℕ) (value rest : List ℕ)
    → judge_copy limit es (update_bytes id number value ++ rest) ≡ judge_copy_update (update_bytes id number value ++ rest) (parse_held_update es (update_bytes id number value ++ rest))
unfolding update_bytes
by_kind_update limit es id number value rest = kind_update limit es _

-- what a message comes to, by itself
unfoldable pub copy_comes_to : ℕ → List Entry → Message → CopyVerdict
copy_comes_to limit es keep_alive = ignore 1 0
copy_comes_to limit es (hello revision) = refuse_message 4
copy_comes_to limit es (unsupported revision) = ignore 3 revision
copy_comes_to limit es hello_complete = ignore 1 0
copy_comes_to limit es (assignment id e) =
    pick (name_held e.name es) (refuse_message 13) (demand (ltb (length es) limit) (refuse_message 11) (store_new e (length (assignment_bytes id e))))
copy_comes_to limit es (update id number value) = store_update id number value (length (update_bytes id number value))

judged_kind : (limit : ℕ) (es : List Entry) (kind : ℕ) (rest : List ℕ) → judge_copy limit es (kind ∷ rest) ≡ judge_copy_kind limit es kind (kind ∷ rest)
unfolding judge_copy pick
judged_kind limit es kind rest = rw (le-leb 1 (suc (length rest)) (omega arith))

judged_revision : (limit : ℕ) (es : List Entry) (revision : ℕ) (rest : List ℕ) → judge_copy limit es (revision_bytes unsupported_kind revision ++ rest) ≡ ignore 3 revision
unfolding judge_copy judge_copy_kind revision_bytes encode16 pick
judged_revision limit es revision rest =
    rw (le-leb 1 (suc (suc (suc (length rest)))) (omega arith), le-leb 3 (suc (suc (suc (length rest)))) (omega arith)) (ap (ignore 3) (decode_encode revision rest))

-- whatever stands behind it
pub copy_judged : (limit : ℕ) (es : List Entry) (x : Message) → FromServer es x → (rest : List ℕ) → judge_copy limit es (layout x ++ rest) ≡ copy_comes_to limit es x
unfolding layout copy_comes_to judge_copy_kind judge_copy_assignment judge_copy_update pick
copy_judged limit es keep_alive o rest = judged_kind limit es keep_alive_kind rest
copy_judged limit es (hello revision) o rest = absurd o
copy_judged limit es (unsupported revision) o rest = judged_revision limit es revision rest
copy_judged limit es hello_complete o rest = judged_kind limit es hello_complete_kind rest
copy_judged limit es (assignment id e) o rest =
    rw (
      by_kind_assignment limit es id e rest,
      assignment_back (id_allowed (Only (length es))) id e rest (eq-eqb id (length es) o.0) o.1,
      name_back id e rest,
      value_back_at id e rest,
      length_assignment id e,
    )
copy_judged limit es (update id number value) o rest =
    rw (
      by_kind_update limit es id number value rest,
      update_back (λ i. ltb i (length es)) (λ i. (get_or es i default_entry).type) id number value rest (lt-ltb id (length es) o.0) o.1,
      update_value_back id number value rest,
      length_update id number value,
    )

-- a sound copy that holds these entries
pub record Holding (limit : ℕ) (es : List Entry) (m : TableMemory) : Type 0 where
  pub sound : sound_table limit m ≡ true
  pub held : entries_of m ≡ es

-- a message is answered 0 or 16, so many bytes are taken, and the copy then holds these entries
pub record Takes (limit taken : ℕ) (es : List Entry) (r : CopyResult) : Type 0 where
  pub accepted : (r.number ≡ 0) ⊎ (r.number ≡ 16)
  pub took : r.taken ≡ taken
  pub holds : Holding limit es r.memory

-- "0x00, 0x03 and 0x02 give 16": hello complete
pub copies_complete : (limit : ℕ) (es : List Entry) (m : TableMemory) → Holding limit es m → (rest : List ℕ)
    → Takes limit 1 es (copy_message limit m (hello_complete_kind ∷ rest))
unfolding execute_copy copy_comes_to layout
copies_complete limit es m h rest =
    rw (copy_step limit m (hello_complete_kind ∷ rest) h.sound, copy_judged limit (entries_of m) hello_complete tt rest) (record { accepted = inr refl; took = refl; holds = h })

-- an assignment with the next ID and a new name: "stored with its number"
pub copies_assignment : (limit : ℕ) (es : List Entry) (m : TableMemory) → Holding limit es m → (e : Entry) (rest : List ℕ)
    → WellFormed e → name_held e.name es ≡ false → length es < limit
    → Takes limit (length (assignment_bytes (length es) e)) (es ++ (e ∷ [])) (copy_message limit m (assignment_bytes (length es) e ++ rest))
unfolding execute_copy copy_comes_to layout pick
copies_assignment limit es m h e rest w new room =
    let n : name_held e.name (entries_of m) ≡ false = rw h.held new in
    let l : length (entries_of m) < limit = rw h.held room in
    let holds : Holding limit (es ++ (e ∷ [])) (store_entry m e) =
    record { sound = new_sound limit m h.sound e w n l; held = stored_new limit m h.sound e w n l ∙ rw h.held } in
    rw (copy_step limit m (assignment_bytes (length es) e ++ rest) h.sound, h.held, copy_judged limit es (assignment (length es) e) (refl, w) rest, new, lt-ltb (length es) limit room)
    (record { accepted = inl refl; took = refl; holds = holds })

-- "An update of a held ID is always stored."
pub copies_update : (limit : ℕ) (es : List Entry) (m : TableMemory) → Holding limit es m → (id number : ℕ) (value rest : List ℕ)
    → id < length es → IsValue (get_or es id default_entry).type value
    → Takes limit (length (update_bytes id number value)) (with_number_and_value es id number value) (copy_message limit m (update_bytes id number value ++ rest))
unfolding execute_copy copy_comes_to layout
copies_update limit es m h id number value rest held w =
    let l : id < length (entries_of m) = rw h.held held in
    let v : IsValue (get_or (entries_of m) id default_entry).type value = rw h.held w in
    let holds : Holding limit (with_number_and_value es id number value) (store_value m id number value) =
    record { sound = value_sound limit m h.sound id number value l v; held = stored_value limit m h.sound id number value l v ∙ rw h.held } in
    rw (copy_step limit m (update_bytes id number value ++ rest) h.sound, h.held, copy_judged limit es (update id number value) (held, w) rest)
    (record { accepted = inl refl; took = refl; holds = holds })
