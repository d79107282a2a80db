-- A client's message: what the server makes of it depends on the message that stands first, and on nothing behind it.
use Rattle.std.specs.Prelude.{Ok, Err}
use Rattle.message.specs.Read.{AssignmentRead, UpdateRead}
use mathlib.Core.Path.{◌≡◌, refl, sym, ap, ◌∙◌}
use mathlib.Core.Logic.{◌≢◌}
use mathlib.Core.Bool.{true, false, ◌&&◌, and-eq-true_iff}
use mathlib.Core.List.{List, ◌∷◌, ◌++◌}
use Prim.Native.Nat.{ℕ, suc, ◌≤◌, ◌<◌}
use native.Mathlib.Omega.{arith}
use lib.Dec.{ltb, eqb}
use lib.ListN.{length, get_or, drop}
use borrow.Author.Tests.{ltb-true, leb-true, eqb-true, eqb-false, le-leb, lt-ltb, eq-eqb, ne_eqb}
use Rattle.field.specs.Answer.{RefusalNumber}
use Rattle.field.specs.Choice.{pick, demand}
use Rattle.field.specs.Octets.{encode16, decode16}
use Rattle.field.specs.declared.Fault.{Fault}
use Rattle.field.proofs.ChoiceLaws.{by_test, pick_true, pick_false}
use Rattle.field.proofs.OctetsLaws.{decode_encode}
use Rattle.sequence.specs.SequenceNumber.{passed_by}
use Rattle.value.specs.Value.{IsValue}
use Rattle.message.specs.Layout.{Entry, Message, keep_alive, hello, unsupported, hello_complete, assignment, update, keep_alive_kind, hello_kind, assignment_kind, update_kind, assignment_bytes, update_bytes, revision_bytes, layout, WellFormed}
use Rattle.message.specs.Reader.{id_allowed, parse_assignment, Bytes, BeginsWith}
use Rattle.message.specs.declared.AllowedId.TheVariants.{Only}
use Rattle.message.proofs.ReadBack.{assignment_back, name_back, value_back_at, update_back, update_value_back, length_assignment, length_update}
use Rattle.message.proofs.FirstLaws.{AssignmentFirst, assignment_first, UpdateFirst, update_first}
use Rattle.message.proofs.ReadBytesLaws.{revision_stands, kind_stands}
use Rattle.message.proofs.RefusalLaws.{refusal_number}
use Rattle.table.specs.Names.{name_held}
use Rattle.table.specs.Table.{entries_of, default_entry, parse_held_update}
use Rattle.soundness.specs.Sound.{sound_table, sound_marks}
use Rattle.recipients.specs.Recipients.{Recipients, other_greeted}
use Rattle.protocol.specs.Judge.{client_message, Verdict, refuse, ignore, accept_hello, unsupported_revision, store_new, store_update, refuse_call, demand_greeted, protocol_revision, new_id, new_entry, judge_hello, judge_assignment, judge_update, judge_kind, judge_message, judge}
use Rattle.protocol.specs.Step.{ServerMemory, CallResult, refusal, execute, call_step}
use Rattle.protocol.specs.Kept.{SoundMemory}
use Rattle.protocol.specs.Taken.{message_call, FromClient, StandsFirst}
use Rattle.protocol.proofs.JudgeLaws.{VerdictIs, message_verdict}
use Rattle.protocol.proofs.SoundnessLaws.{step_is}

-- ---- what a message comes to, by itself: `judged` says that this is what its bytes come to

unfoldable pub comes_to : ℕ → List Entry → (c mark : ℕ) → Message → Verdict
comes_to limit es c mark keep_alive = ignore 1
comes_to limit es c mark (hello revision) = demand (eqb mark 1) (refuse_call 3) (pick (eqb revision 0x0200) (accept_hello c) (unsupported_revision c))
comes_to limit es c mark (unsupported revision) = refuse_call 4
comes_to limit es c mark hello_complete = refuse_call 4
comes_to limit es c mark (assignment id e) =
    demand_greeted mark (pick (name_held e.name es) (ignore (length (assignment_bytes id e)))
    (demand (ltb (length es) limit) (refuse_call 11) (store_new (new_entry e.name e.type e.value) (length (assignment_bytes id e)))))
comes_to limit es c mark (update id number value) =
    demand_greeted mark (pick (passed_by (get_or es id default_entry).number number)
    (store_update id number value (length (update_bytes id number value)) (other_greeted c)) (ignore (length (update_bytes id number value))))

module _ (limit : ℕ) (es : List Entry) (c mark : ℕ) where
  kind_assignment : (s : List ℕ) → judge_message limit es c mark (assignment_kind ∷ s)
      ≡ demand_greeted mark (judge_assignment limit es (assignment_kind ∷ s) (parse_assignment (id_allowed (Only new_id)) (assignment_kind ∷ s)))
  unfolding judge_message judge_kind pick
  kind_assignment s = rw (le-leb 1 (suc (length s)) (omega arith))

  kind_update : (s : List ℕ) → judge_message limit es c mark (update_kind ∷ s) ≡ demand_greeted mark (judge_update c es (update_kind ∷ s) (parse_held_update es (update_kind ∷ s)))
  unfolding judge_message judge_kind pick
  kind_update s = rw (le-leb 1 (suc (length s)) (omega arith))

  by_kind_assignment : (id : ℕ) (e : Entry) (rest : List ℕ) → judge_message limit es c mark (assignment_bytes id e ++ rest)
      ≡ demand_greeted mark (judge_assignment limit es (assignment_bytes id e ++ rest) (parse_assignment (id_allowed (Only new_id)) (assignment_bytes id e ++ rest)))
  unfolding assignment_bytes
  by_kind_assignment id e rest = kind_assignment _

  by_kind_update : (id number : ℕ) (value rest : List ℕ) → judge_message limit es c mark (update_bytes id number value ++ rest)
      ≡ demand_greeted mark (judge_update c es (update_bytes id number value ++ rest) (parse_held_update es (update_bytes id number value ++ rest)))
  unfolding update_bytes
  by_kind_update id number value rest = kind_update _

  judged_hello : (revision : ℕ) (rest : List ℕ) → judge_message limit es c mark (revision_bytes hello_kind revision ++ rest) ≡ comes_to limit es c mark (hello revision)
  unfolding judge_message judge_kind judge_hello comes_to revision_bytes encode16 pick
  judged_hello revision rest =
      rw (le-leb 1 (suc (suc (suc (length rest)))) (omega arith), le-leb 3 (suc (suc (suc (length rest)))) (omega arith), decode_encode revision rest)

  judged_keep_alive : (rest : List ℕ) → judge_message limit es c mark (keep_alive_kind ∷ rest) ≡ ignore 1
  unfolding judge_message judge_kind pick
  judged_keep_alive rest = rw (le-leb 1 (suc (length rest)) (omega arith))

  -- whatever stands behind it
  pub judged : (x : Message) → FromClient es x → (rest : List ℕ) → judge_message limit es c mark (layout x ++ rest) ≡ comes_to limit es c mark x
  unfolding layout comes_to judge_assignment judge_update
  judged keep_alive o rest = judged_keep_alive rest
  judged (hello revision) o rest = judged_hello revision rest
  judged (unsupported revision) o rest = absurd o
  judged hello_complete o rest = absurd o
  judged (assignment id e) o rest =
      rw (
        by_kind_assignment id e rest,
        assignment_back (id_allowed (Only new_id)) id e rest (eq-eqb id new_id o.0) o.1,
        name_back id e rest,
        value_back_at id e rest,
        length_assignment id e,
      )
  judged (update id number value) o rest =
      rw (
        by_kind_update id number value rest,
        update_back (λ i. ltb i (length es)) (λ i. (get_or es i default_entry).type) id number value rest (lt-ltb id (length es) o.0) o.1,
        update_value_back id number value rest,
        length_update id number value,
      )

-- what is known then
pub data Comes (limit : ℕ) (es : List Entry) (x : Message) : Verdict → Type 0 where
  refused : {fault : Fault} → RefusalNumber fault.number → Comes limit es x (refuse fault)
  ignored : {n : ℕ} → n ≡ length (layout x) → Comes limit es x (ignore n)
  accepted : {d : ℕ} → x ≡ hello protocol_revision → Comes limit es x (accept_hello d)
  turned_away : {d : ℕ} (revision : ℕ) → x ≡ hello revision → revision ≢ protocol_revision → Comes limit es x (unsupported_revision d)
  created : {new : Entry} {n : ℕ} (e : Entry) → x ≡ assignment new_id e → new ≡ new_entry e.name e.type e.value → WellFormed e → WellFormed new
      → name_held new.name es ≡ false → length es < limit → n ≡ length (layout x) → Comes limit es x (store_new new n)
  updated : {id number n : ℕ} {value : List ℕ} {to : Recipients} → x ≡ update id number value → id < length es → IsValue (get_or es id default_entry).type value
      → passed_by (get_or es id default_entry).number number ≡ true → n ≡ length (layout x) → Comes limit es x (store_update id number value n to)

comes : (limit : ℕ) (es : List Entry) (c mark : ℕ) (x : Message) → FromClient es x → Comes limit es x (comes_to limit es c mark x)
unfolding comes_to layout
comes limit es c mark keep_alive o = ignored refl
comes limit es c mark (hello revision) o =
    by_test (Comes limit es (hello revision)) _ _ _ (λ _.
    by_test (Comes limit es (hello revision)) _ _ _ (λ e. accepted (ap hello (eqb-true revision protocol_revision e))) (λ ne. turned_away revision refl (eqb-false revision protocol_revision ne)))
    (λ _. refused (refusal_number 3 (omega arith) (omega arith)))
comes limit es c mark (unsupported revision) o = absurd o
comes limit es c mark hello_complete o = absurd o
comes limit es c mark (assignment id e) o =
    by_test (Comes limit es (assignment id e)) _ _ _ (λ _.
    by_test (Comes limit es (assignment id e)) _ _ _ (λ _. ignored refl) (λ new.
    by_test (Comes limit es (assignment id e)) _ _ _ (λ l.
    created e (ap (λ (i : ℕ). assignment i e) o.0) refl o.1 (record { name_fits = o.1.name_fits; name_text = o.1.name_text; value_whole = o.1.value_whole }) new (ltb-true _ _ l) refl)
    (λ _. refused (refusal_number 11 (omega arith) (omega arith)))))
    (λ _. refused (refusal_number 3 (omega arith) (omega arith)))
comes limit es c mark (update id number value) o =
    by_test (Comes limit es (update id number value)) _ _ _ (λ _.
    by_test (Comes limit es (update id number value)) _ _ _ (λ greater. updated refl o.0 o.1 greater refl) (λ _. ignored refl))
    (λ _. refused (refusal_number 3 (omega arith) (omega arith)))

-- ---- what stands first

data Judged (es : List Entry) (m : List ℕ) : Verdict → Type 0 where
  refused : {fault : Fault} → Judged es m (refuse fault)
  taken : {v : Verdict} (x : Message) → FromClient es x → BeginsWith m x → Judged es m v

module _ (limit : ℕ) (es : List Entry) (m : List ℕ) (b : Bytes m) where
  assignment_judged : (r : AssignmentRead) → AssignmentFirst (id_allowed (Only new_id)) m r → Judged es m (judge_assignment limit es m r)
  unfolding judge_assignment
  assignment_judged (Err fault) f = refused
  assignment_judged (Ok read) (AssignmentFirst.taken a w f l) = taken (assignment read.id _) (eqb-true read.id new_id a, w) f

  update_judged : (c : ℕ) (r : UpdateRead) → UpdateFirst (λ i. ltb i (length es)) (λ i. (get_or es i default_entry).type) m r → Judged es m (judge_update c es m r)
  unfolding judge_update
  update_judged c (Err fault) f = refused
  update_judged c (Ok read) (UpdateFirst.taken h w f l) = taken (update read.id read.number _) (ltb-true _ _ h, w) f

  message_judged : (c mark : ℕ) → Judged es m (judge_message limit es c mark m)
  unfolding judge_message judge_kind judge_hello layout
  message_judged c mark =
      by_test P _ _ _ (λ there.
      by_test P _ _ _ (λ k. taken keep_alive tt (kind_stands m keep_alive_kind (eqb-true _ _ k) (leb-true _ _ there))) (λ _.
      by_test P _ _ _ (λ k. by_test P _ _ _ (λ _.
      by_test P _ _ _ (λ l. taken (hello (decode16 (drop 1 m))) tt (revision_stands m hello_kind b (eqb-true _ _ k) (leb-true _ _ l))) (λ _. refused)) (λ _. refused)) (λ _.
      by_test P _ _ _ (λ k. by_test P _ _ _ (λ _. assignment_judged _ (assignment_first (id_allowed (Only new_id)) m b (eqb-true _ _ k))) (λ _. refused)) (λ _.
      by_test P _ _ _ (λ k. by_test P _ _ _ (λ _.
      update_judged c _ (update_first (λ i. ltb i (length es)) (λ i. (get_or es i default_entry).type) m b (eqb-true _ _ k))) (λ _. refused)) (λ _. refused)))))
      (λ _. refused)
    where
      P : Verdict → Type 0
      P = Judged es m

-- ---- the call

-- a connection that is open or greeted
pub record Connected (mem : ServerMemory) (c : ℕ) : Type 0 where
  pub known : ltb c 16 ≡ true
  pub not_closed : eqb (get_or mem.marks c 0) 0 ≡ false

pub connected : (mem : ServerMemory) (c : ℕ) → c < 16 → 1 ≤ get_or mem.marks c 0 → Connected mem c
connected mem c b l = record { known = lt-ltb c 16 b; not_closed = ne_eqb (get_or mem.marks c 0) 0 (omega arith) }

pub client_step : (limit : ℕ) (mem : ServerMemory) → SoundMemory limit mem → (c : ℕ) → Connected mem c
    → (x : Message) → FromClient (entries_of mem.table) x → (rest out : List ℕ)
    → call_step limit mem (message_call c (layout x ++ rest) out) ≡ execute mem out (comes_to limit (entries_of mem.table) c (get_or mem.marks c 0) x)
unfolding judge
client_step limit mem s c on x o rest out =
    step_is limit mem s (message_call c (layout x ++ rest) out)
    ∙ ap (execute mem out) (pick_true _ _ on.known ∙ pick_false _ _ on.not_closed ∙ judged limit (entries_of mem.table) c (get_or mem.marks c 0) x o rest)

-- every call is refused, or does what the message that stands first comes to
pub data ClientCall (limit : ℕ) (mem : ServerMemory) (c : ℕ) (m out : List ℕ) : CallResult → Type 0 where
  refused : {number : ℕ} → RefusalNumber number → ClientCall limit mem c m out (refusal mem out number)
  taken : {v : Verdict} → SoundMemory limit mem → Connected mem c → (x : Message) → StandsFirst (entries_of mem.table) m x
      → comes_to limit (entries_of mem.table) c (get_or mem.marks c 0) x ≡ v → Comes limit (entries_of mem.table) x v
      → ClientCall limit mem c m out (execute mem out v)

pub client_call_lem : (limit : ℕ) (mem : ServerMemory) (c : ℕ) (m out : List ℕ) → Bytes m → ClientCall limit mem c m out (call_step limit mem (message_call c m out))
unfolding call_step judge execute
client_call_lem limit mem c m out b =
    by_test P _ _ _ (λ h.
    by_test (λ (v : Verdict). P (execute mem out v)) _ _ _ (λ l.
    by_test (λ (v : Verdict). P (execute mem out v)) _ _ _ (λ _. refusal_is 3 (omega arith) (omega arith)) (λ on.
    go (sound h) (record { known = l; not_closed = on }) _ refl (message_verdict limit es mem.marks c m (ltb-true _ _ l)) (message_judged limit es m b c (get_or mem.marks c 0))))
    (λ _. refusal_is 2 (omega arith) (omega arith)))
    (λ _. refusal_is 14 (omega arith) (omega arith))
  where
    es : List Entry
    es = entries_of mem.table

    P : CallResult → Type 0
    P = ClientCall limit mem c m out

    refusal_is : (number : ℕ) → 1 ≤ number → number ≤ 14 → P (refusal mem out number)
    refusal_is number a z = ClientCall.refused (refusal_number number a z)

    sound : (sound_table limit mem.table && sound_marks mem.marks) ≡ true → SoundMemory limit mem
    sound h = let both = (and-eq-true_iff (sound_table limit mem.table) (sound_marks mem.marks)).0 h in record { table = both.0; marks = both.1 }

    go : SoundMemory limit mem → Connected mem c → (v : Verdict) → judge_message limit es c (get_or mem.marks c 0) m ≡ v
        → VerdictIs limit es mem.marks (client_message c m) v → Judged es m v → P (execute mem out v)
    go s on (refuse fault) e (VerdictIs.refused n) refused = ClientCall.refused n
    go s on v e f (taken x o first) =
        rw (sym e ∙ ap (judge_message limit es c (get_or mem.marks c 0)) first ∙ judged limit es c (get_or mem.marks c 0) x o _) (ClientCall.taken s on x (record { obeys = o; first = first }) refl (comes limit es c (get_or mem.marks c 0) x o))
