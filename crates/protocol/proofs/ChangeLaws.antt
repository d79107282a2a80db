-- Demand 2: a client's message changes a held entry only by an update with a strictly greater number; what is not greater is ignored. A local write leaves the value given.
use Rattle.std.specs.Prelude.{Err, Ok}
use mathlib.Core.Path.{◌≡◌, refl, sym, ap, ◌∙◌}
use mathlib.Core.Logic.{◌≢◌}
use mathlib.Core.Bool.{true, false, and-eq-true_iff}
use mathlib.Core.List.{List, [], ◌∷◌, ◌++◌}
use Prim.Native.Nat.{ℕ, ◌<◌}
use native.Mathlib.Decide.{ℕ_discrete}
use native.Mathlib.Omega.{arith}
use lib.ListN.{length, get_or, set, get_or-append}
use lib.Seq.{get_or_at, get_or-set_same, get_or-set_other}
use Rattle.field.specs.Answer.{RefusalNumber}
use Rattle.field.specs.Choice.{pick}
use Rattle.field.specs.Field.{and_then, Parsed}
use Rattle.field.proofs.ChoiceLaws.{by_test}
use Rattle.sequence.specs.SequenceNumber.{passed_by, next_number}
use borrow.Author.Tests.{lt-ltb, ltb-true}
use Rattle.value.specs.Value.{IsValue}
use Rattle.value.proofs.ValueLaws.{lone_taken, LoneIs, lone_is}
use Rattle.scalar.specs.Scalar.{equal_values}
use Rattle.scalar.proofs.Comparisons.{equal_exactly}
use Rattle.protocol.proofs.SoundnessLaws.{step_is}
use Rattle.message.specs.Layout.{Entry, Message, keep_alive, assignment, update, layout, WellFormed}
use Rattle.message.specs.Reader.{BeginsWith}
use Rattle.message.proofs.RefusalLaws.{refusal_number, RefusedRightly, lone_rightly}
use Rattle.table.specs.Names.{name_held}
use Rattle.table.specs.Table.{TableMemory, default_entry, entry_at, entries_of, store_entry, store_value, entry_of, with_update}
use Rattle.table.proofs.TabulateLaws.{length_entries, entry_get}
use Rattle.table.proofs.StoreLaws.{with_number_and_value}
use Rattle.soundness.specs.Sound.{sound_table, sound_marks}
use Rattle.soundness.proofs.ReadableLaws.{stored_entry}
use Rattle.soundness.proofs.StoredLaws.{stored_new, stored_value}
use Rattle.recipients.specs.Recipients.{all_greeted}
use Rattle.protocol.specs.Judge.{local_write, Verdict, refuse, ignore, read_done, open_mark, close_mark, accept_hello, unsupported_revision, store_new, store_update, new_id, new_entry, judge_write, judge}
use Rattle.protocol.specs.Step.{ServerMemory, CallResult, refusal, execute, call_step}
use Rattle.protocol.specs.Kept.{SoundMemory}
use Rattle.protocol.specs.Change.{Applied, EntryAfter, applied, CountAfter, one_more, ClientChange, ClientChanges, NotGreaterIgnored, HeldNameIgnored, KeepAliveIgnored, EqualValueIgnored, LeavesValue, WriteHeld, SameBytesIgnored}
use Rattle.protocol.proofs.AnswerLaws.{not_refused}
use Rattle.protocol.proofs.MessageLaws.{comes_to, Comes, connected, client_step, ClientCall, client_call_lem}

-- ---- entries after a store

-- an entry, read off the entries that memory holds
pub held : (m : TableMemory) (i : ℕ) → i < m.count → entry_of m i ≡ get_or (entries_of m) i default_entry
held m i l = sym (entry_get m i default_entry l)

module _ (before : TableMemory) where
  new_other : (e : Entry) → entries_of (store_entry before e) ≡ entries_of before ++ (e ∷ []) → (i : ℕ) → i < before.count → entry_of (store_entry before e) i ≡ entry_of before i
  new_other e s i l =
      let b : i < (store_entry before e).count = unfold store_entry in omega arith in
      held (store_entry before e) i b ∙ ap (λ (x : List Entry). get_or x i default_entry) s
      ∙ get_or-append (entries_of before) (e ∷ []) default_entry i (omega (arith, length_entries before)) ∙ sym (held before i l)

  new_last : (e : Entry) → entries_of (store_entry before e) ≡ entries_of before ++ (e ∷ []) → entry_of (store_entry before e) before.count ≡ e
  new_last e s =
      let b : before.count < (store_entry before e).count = unfold store_entry in omega arith in
      held (store_entry before e) before.count b ∙ ap (λ (x : List Entry). get_or x before.count default_entry) s
      ∙ get_or_at (entries_of before) e [] default_entry before.count (length_entries before)

  module _ (id number : ℕ) (value : List ℕ) (l : id < before.count) (s : entries_of (store_value before id number value) ≡ with_number_and_value (entries_of before) id number value) where
    stored_get : (i : ℕ) → i < before.count → entry_of (store_value before id number value) i
        ≡ get_or (set (entries_of before) id (with_update (get_or (entries_of before) id default_entry) number value)) i default_entry
    unfolding with_number_and_value
    stored_get i b = held (store_value before id number value) i (unfold store_value in b) ∙ ap (λ (x : List Entry). get_or x i default_entry) s

    value_same : entry_of (store_value before id number value) id ≡ with_update (entry_of before id) number value
    value_same =
        stored_get id l ∙ get_or-set_same (entries_of before) id (with_update (get_or (entries_of before) id default_entry) number value) default_entry (omega (arith, length_entries before))
        ∙ ap (λ (e : Entry). with_update e number value) (sym (held before id l))

    value_other : (i : ℕ) → i < before.count → i ≢ id → entry_of (store_value before id number value) i ≡ entry_of before i
    value_other i b ne =
        stored_get i b ∙ get_or-set_other (entries_of before) id i (with_update (get_or (entries_of before) id default_entry) number value) default_entry ne ∙ sym (held before i b)

-- ---- a client's message

unchanged : {before : TableMemory} {m : List ℕ} {r : CallResult} → r.memory.table ≡ before → ClientChange before m r
unchanged e =
    record { entries = λ i l. EntryAfter.same (ap (λ (t : TableMemory). entry_of t i) e); count = CountAfter.same (ap (λ (t : TableMemory). t.count) e) }

module _ (limit : ℕ) (mem : ServerMemory) (s : SoundMemory limit mem) (m : List ℕ) where
  abbrev before : TableMemory
  before = mem.table

  created_changes : (new e : Entry) → BeginsWith m (assignment new_id e) → new ≡ new_entry e.name e.type e.value → WellFormed e → WellFormed new
      → name_held new.name (entries_of before) ≡ false → length (entries_of before) < limit
      → (r : CallResult) → r.number ≡ 0 → r.memory.table ≡ store_entry before new → ClientChange before m r
  created_changes new e first q o w h l r d t =
      let after = stored_new limit before s.table new w h l in
      record {
        entries = λ i b. EntryAfter.same (rw t (new_other before new after i b));
        count = one_more e o first (rw q at h) d (rw t (unfold store_entry in refl)) (rw t (new_last before new after) ∙ q);
      }

  updated_changes : (id number : ℕ) (value : List ℕ) → BeginsWith m (update id number value) → id < length (entries_of before)
      → IsValue (get_or (entries_of before) id default_entry).type value → passed_by (get_or (entries_of before) id default_entry).number number ≡ true
      → (r : CallResult) → r.number ≡ 0 → r.memory.table ≡ store_value before id number value → ClientChange before m r
  updated_changes id number value first h w g r d t =
      record { entries = λ i b. entry i b (ℕ_discrete i id); count = CountAfter.same (rw t (unfold store_value in refl)) }
    where
      l : id < before.count
      l = omega (arith, h, length_entries before)

      after : entries_of (store_value before id number value) ≡ with_number_and_value (entries_of before) id number value
      after = stored_value limit before s.table id number value h w

      here : Applied before m r id
      here =
          record {
            number = number;
            value = value;
            first = first;
            value_whole = rw (held before id l) w;
            greater = rw (held before id l) g;
            answered = d;
            entry = rw t (value_same before id number value l after);
            others = λ j b ne. rw t (value_other before id number value l after j b ne);
          }

      entry : (i : ℕ) → i < before.count → Dec (i ≡ id) → EntryAfter before m r i
      entry i b (yes e) = rw e (applied here)
      entry i b (no ne) = EntryAfter.same (rw t (value_other before id number value l after i b ne))

  executed_changes : (out : List ℕ) (x : Message) → BeginsWith m x → (v : Verdict) → Comes limit (entries_of before) x v → ClientChange before m (execute mem out v)
  unfolding execute
  executed_changes out x first (refuse fault) f = unchanged refl
  executed_changes out x first (ignore n) f = unchanged refl
  executed_changes out x first (accept_hello d) f = by_test (ClientChange before m) _ _ _ (λ _. unchanged refl) (λ _. unchanged refl)
  executed_changes out x first (unsupported_revision d) f = by_test (ClientChange before m) _ _ _ (λ _. unchanged refl) (λ _. unchanged refl)
  executed_changes out x first (store_new new n) (Comes.created e p q o w h l t) =
      by_test (ClientChange before m) _ _ _ (λ _. created_changes new e (rw p at first) q o w h l _ refl refl) (λ _. unchanged refl)
  executed_changes out x first (store_update id number value n to) (Comes.updated p h w g t) =
      by_test (ClientChange before m) _ _ _ (λ _. updated_changes id number value (rw p at first) h w g _ refl refl) (λ _. unchanged refl)
  executed_changes out x first (close_mark c) f = elim f [ ]
  executed_changes out x first (open_mark c) f = elim f [ ]
  executed_changes out x first read_done f = elim f [ ]

pub client_changes : ClientChanges
client_changes limit mem c m out b = go _ (client_call_lem limit mem c m out b)
  where
    go : (r : CallResult) → ClientCall limit mem c m out r → ClientChange mem.table m r
    go r (ClientCall.refused n) = unchanged refl
    go r (ClientCall.taken {v} s on x stands p k) = executed_changes limit mem s m out x stands.first v k

-- ---- what is ignored

pub not_greater_ignored : NotGreaterIgnored
unfolding comes_to execute pick layout
not_greater_ignored limit mem s c b g id number value rest out l w older =
    let old : passed_by (get_or (entries_of mem.table) id default_entry).number number ≡ false = rw (held mem.table id l) at older in
    client_step limit mem s c (connected mem c b (omega arith)) (update id number value) (omega (arith, length_entries mem.table), rw (held mem.table id l) at w) rest out
    ∙ rw (g, old)

pub held_name_ignored : HeldNameIgnored
unfolding comes_to execute pick layout
held_name_ignored limit mem s c b g e rest out w h =
    client_step limit mem s c (connected mem c b (omega arith)) (assignment new_id e) (refl, w) rest out ∙ rw (g, h)

pub keep_alive_ignored : KeepAliveIgnored
unfolding comes_to execute layout
keep_alive_ignored limit mem s c b on rest out = client_step limit mem s c (connected mem c b (omega arith)) keep_alive tt rest out

pub equal_value_ignored : EqualValueIgnored
unfolding judge judge_write execute pick
equal_value_ignored limit mem s id value out l w same =
    let b : id < length (entries_of mem.table) = omega (arith, length_entries mem.table) in
    step_is limit mem s (record { call = local_write id value; output = out })
    ∙ rw (lt-ltb _ _ b, ← held mem.table id l, lone_taken (entry_of mem.table id).type value w, same)

-- ---- what is written

module _ (limit : ℕ) (mem : ServerMemory) (id : ℕ) (value out : List ℕ) where
  refused_leaves : (number : ℕ) → RefusalNumber number → LeavesValue id value (refusal mem out number)
  refused_leaves number n h = absurd (not_refused number n h)

  abbrev there : Entry
  there = get_or (entries_of mem.table) id default_entry

  abbrev Leaves : Verdict → Type 0
  Leaves v = LeavesValue id value (execute mem out v)

  value_leaves : sound_table limit mem.table ≡ true → id < length (entries_of mem.table) → (q : Parsed) → LoneIs there.type value q → RefusedRightly q
      → Leaves (and_then refuse q (λ _. pick (equal_values there.type there.value value) (ignore 0) (store_update id (next_number there.number) value 0 all_greeted)))
  unfolding execute
  value_leaves s h (Err fault) f (RefusedRightly.refused n) = refused_leaves fault.number n
  value_leaves s h (Ok n) (LoneIs.taken b whole) f =
      by_test Leaves _ _ _ (λ equal. λ _. ap (λ (e : Entry). e.value) (held mem.table id l) ∙ (equal_exactly there.type there.value value).equal_same equal)
      (λ _. by_test (LeavesValue id value) _ _ _ (λ _. λ _. ap (λ (e : Entry). e.value) (value_same mem.table id (next_number there.number) value l stored))
      (λ _. refused_leaves 12 (refusal_number 12 (omega arith) (omega arith))))
    where
      l : id < mem.table.count
      l = omega (arith, h, length_entries mem.table)

      stored : entries_of (store_value mem.table id (next_number there.number) value) ≡ with_number_and_value (entries_of mem.table) id (next_number there.number) value
      stored = stored_value limit mem.table s id (next_number there.number) value h whole

  write_leaves : sound_table limit mem.table ≡ true → Leaves (judge_write (entries_of mem.table) id value)
  unfolding judge_write execute
  write_leaves s =
      by_test Leaves _ _ _ (λ h. value_leaves s (ltb-true _ _ h) _ (lone_is there.type value) (lone_rightly there.type value))
      (λ _. refused_leaves 6 (refusal_number 6 (omega arith) (omega arith)))

pub write_held : WriteHeld
unfolding call_step judge
write_held limit mem id value out =
    by_test (LeavesValue id value) _ _ _ (λ s. write_leaves limit mem id value out ((and-eq-true_iff (sound_table limit mem.table) (sound_marks mem.marks)).0 s).0)
    (λ _. refused_leaves limit mem id value out 14 (refusal_number 14 (omega arith) (omega arith)))

pub same_bytes_ignored : SameBytesIgnored
unfolding entry_at
same_bytes_ignored limit mem s id out l =
    let e = entry_of mem.table id in
    equal_value_ignored limit mem s id e.value out l (stored_entry limit mem.table id s.table l).value_whole ((equal_exactly e.type e.value e.value).same_equal refl)
