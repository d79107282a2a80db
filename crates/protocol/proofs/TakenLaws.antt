-- "Taken" is the length of the message that stands first, and "sent" that of the messages written.
use Rattle.std.specs.Prelude.{Err, Ok}
use mathlib.Core.Path.{◌≡◌, refl, sym, ap, subst, ◌∙◌}
use mathlib.Core.Logic.{◌≢◌, ◌⊎◌, inl, inr}
use mathlib.Core.Bool.{Bool, true, false, true≢false}
use mathlib.Core.List.{List, [], ◌∷◌, ◌++◌, append-nil}
use mathlib.Core.Option.{some}
use Prim.Native.Nat.{ℕ, suc, ◌≤◌}
use native.Mathlib.Nat.{zero-add}
use native.Mathlib.Omega.{arith}
use lib.Dec.{leb, ltb, eqb}
use lib.ListN.{length, drop, get_or}
use borrow.Author.Tests.{leb-true, ltb-true, eqb-true, eqb-false}
use Rattle.field.specs.Answer.{RefusalNumber}
use Rattle.field.specs.Choice.{pick}
use Rattle.field.specs.Field.{and_then, Parsed}
use Rattle.field.specs.Octets.{encode16, decode16, overwrite_at}
use Rattle.field.specs.declared.Fault.{Fault}
use Rattle.field.proofs.ChoiceLaws.{by_test}
use Rattle.field.proofs.OctetsLaws.{decode_encode}
use Rattle.field.proofs.OverwriteLaws.{overwrite_eq}
use Rattle.sequence.specs.SequenceNumber.{next_number}
use Rattle.value.specs.Value.{parse_lone, IsValue}
use Rattle.message.specs.Layout.{Entry, Message, keep_alive, hello, unsupported, hello_complete, assignment, update, update_bytes, layout, WellFormedMessage}
use Rattle.message.specs.Reader.{parse_message, contents, Bytes, BeginsWith}
use Rattle.message.proofs.ReadBack.{length_assignment, length_update, length_revision, read_back}
use Rattle.message.proofs.RefusalLaws.{refusal_number, RefusedRightly, lone_rightly}
use Rattle.writer.specs.Writer.{check_name}
use Rattle.table.specs.Names.{name_held}
use Rattle.table.specs.Table.{entries_of, default_entry}
use Rattle.recipients.specs.Recipients.{Recipients, all_greeted}
use Rattle.hello.specs.Hello.{hello_answer}
use Rattle.protocol.specs.Judge.{Call, open_connection, leave, client_message, local_create, local_write, read_entry, Verdict, refuse, ignore, read_done, open_mark, close_mark, accept_hello, unsupported_revision, store_new, store_update, refuse_call, protocol_revision, new_entry, judge_create, judge_write, judge}
use Rattle.protocol.specs.Step.{ServerMemory, LentCall, CallResult, refusal, execute, call_step}
use Rattle.protocol.specs.Taken.{message_call, FromClient, StandsFirst, StateAllows, OneStandsFirst, TakesFirst, MessageTaken, joined, hello_messages, Sends, opening, leaving, reading, accepting, turning_away, assigning, creating, updating, writing, Sent, MessagesSent, NothingTaken}
use Rattle.protocol.proofs.AnswerLaws.{call_answered, not_refused}
use Rattle.protocol.proofs.JudgeLaws.{name_rightly}
use Rattle.protocol.proofs.MessageLaws.{comes_to, Comes, client_step, ClientCall, client_call_lem}

-- ---- a verdict, with what it takes and sends

data Acts (mem : ServerMemory) (call : Call) (n : ℕ) : Verdict → Type 0 where
  refused : {fault : Fault} → RefusalNumber fault.number → Acts mem call n (refuse fault)
  ignored : {k : ℕ} → k ≡ n → Acts mem call n (ignore k)
  shown : 0 ≡ n → Sends mem call [] → Acts mem call n read_done
  opened : {c : ℕ} → 0 ≡ n → Sends mem call [] → Acts mem call n (open_mark c)
  left : {c : ℕ} → 0 ≡ n → Sends mem call [] → Acts mem call n (close_mark c)
  accepted : {c : ℕ} → 3 ≡ n → Sends mem call (hello_messages 0 (entries_of mem.table)) → Acts mem call n (accept_hello c)
  turned_away : {c : ℕ} → 3 ≡ n → Sends mem call (unsupported protocol_revision ∷ []) → Acts mem call n (unsupported_revision c)
  created : {e : Entry} {k : ℕ} → k ≡ n → Sends mem call (assignment mem.table.count e ∷ []) → Acts mem call n (store_new e k)
  updated : {id number k : ℕ} {value : List ℕ} {to : Recipients} → k ≡ n → Sends mem call (update id number value ∷ [])
      → Acts mem call n (store_update id number value k to)

-- where a call answers 0 or 16, so many bytes are taken
record Takes (n : ℕ) (r : CallResult) : Type 0 where
  at_taken : (r.number ≡ 0) ⊎ (r.number ≡ 16) → r.taken ≡ n

takes : {n : ℕ} {r : CallResult} → r.taken ≡ n → Takes n r
takes e = record { at_taken = λ _. e }

-- where it answers 0, its messages are sent
record SentAtDone (mem : ServerMemory) (k : LentCall) (r : CallResult) : Type 0 where
  at_done : r.number ≡ 0 → Sent mem k r

joined_none : joined [] ≡ []
unfolding joined
joined_none = refl

joined_one : (x : Message) → joined (x ∷ []) ≡ layout x
unfolding joined
joined_one x = append-nil (layout x)

joined_hello : (id : ℕ) (es : List Entry) → joined (hello_messages id es) ≡ hello_answer id es
unfolding joined hello_messages hello_answer layout
joined_hello id [] = refl
joined_hello id (e ∷ es) = rw (joined_hello (suc id) es)

module _ (mem : ServerMemory) (call : Call) (out : List ℕ) where
  -- an answer, where there is room for it
  answer_takes : (n : ℕ) (room : Bool) (x : CallResult) → x.taken ≡ n → Takes n (pick room x (refusal mem out 12))
  answer_takes n room x e =
      by_test (Takes n) room x (refusal mem out 12) (λ _. takes e) (λ _. record { at_taken = λ f. absurd (not_refused 12 (refusal_number 12 (omega arith) (omega arith)) f) })

  executed_takes : (n : ℕ) (v : Verdict) → Acts mem call n v → Takes n (execute mem out v)
  unfolding execute
  executed_takes n (refuse fault) (refused r) = record { at_taken = λ f. absurd (not_refused fault.number r f) }
  executed_takes n (ignore k) (ignored e) = takes e
  executed_takes n read_done (shown e s) = answer_takes n _ _ e
  executed_takes n (open_mark c) (opened e s) = answer_takes n _ _ e
  executed_takes n (close_mark c) (left e s) = answer_takes n _ _ e
  executed_takes n (accept_hello c) (accepted e s) = answer_takes n _ _ e
  executed_takes n (unsupported_revision c) (turned_away e s) = answer_takes n _ _ e
  executed_takes n (store_new new k) (created e s) = answer_takes n _ _ e
  executed_takes n (store_update id number value k to) (updated e s) = answer_takes n _ _ e

  abbrev k : LentCall
  k = record { call = call; output = out }

  answer_sent : (xs : List Message) (messages : List ℕ) → joined xs ≡ messages → Sends mem call xs → (taken recipients : ℕ) (after : ServerMemory)
      → SentAtDone mem k
      (pick (leb (length messages) (length out))
      (record { number = 0; taken = taken; sent = length messages; recipients = recipients; memory = after; output = overwrite_at out 0 messages }) (refusal mem out 12))
  answer_sent xs messages e s taken recipients after =
      by_test (SentAtDone mem k) _ _ _ (λ room. record { at_done = λ _. written (leb-true _ _ room) }) (λ _. record { at_done = λ f. absurd (omega arith) })
    where
      written : length messages ≤ length out
          → Sent mem k (record { number = 0; taken = taken; sent = length messages; recipients = recipients; memory = after; output = overwrite_at out 0 messages })
      written room =
          let stored : overwrite_at out 0 messages ≡ messages ++ drop (length messages) out = rw (zero-add (length messages)) at (overwrite_eq out 0 messages (omega arith)) in
          record { messages = xs; are = s; room = rw e room; sent = rw e; output = rw e stored }

  executed_sent : (n : ℕ) (v : Verdict) → Acts mem call n v → SentAtDone mem k (execute mem out v)
  unfolding execute layout
  executed_sent n (refuse fault) (refused r) = record { at_done = λ e. absurd (omega arith) }
  executed_sent n (ignore taken) (ignored e) = record { at_done = λ f. absurd (omega arith) }
  executed_sent n read_done (shown e s) = answer_sent [] [] joined_none s _ _ _
  executed_sent n (open_mark c) (opened e s) = answer_sent [] [] joined_none s _ _ _
  executed_sent n (close_mark c) (left e s) = answer_sent [] [] joined_none s _ _ _
  executed_sent n (accept_hello c) (accepted e s) = answer_sent _ _ (joined_hello 0 (entries_of mem.table)) s _ _ _
  executed_sent n (unsupported_revision c) (turned_away e s) = answer_sent _ _ (joined_one (unsupported protocol_revision)) s _ _ _
  executed_sent n (store_new new taken) (created e s) = answer_sent _ _ (joined_one (assignment mem.table.count new)) s _ _ _
  executed_sent n (store_update id number value taken to) (updated e s) = answer_sent _ _ (joined_one (update id number value)) s _ _ _

-- ---- the message that stands first

-- the type of an update's value, by the ID that stands behind the kind
abbrev pub type_in : List Entry → List ℕ → ℕ
type_in es m = (get_or es (decode16 (drop 1 m)) default_entry).type

update_id : (id number : ℕ) (value rest : List ℕ) → decode16 (drop 1 (update_bytes id number value ++ rest)) ≡ id
unfolding update_bytes encode16
update_id id number value rest = decode_encode id (encode16 number ++ (value ++ rest))

-- a value of the stored type is of that type
pub update_typed : (es : List Entry) (m : List ℕ) (id number : ℕ) (value : List ℕ) → BeginsWith m (update id number value) → IsValue (get_or es id default_entry).type value
    → IsValue (type_in es m) value
unfolding layout
update_typed es m id number value first w =
    let id_is : decode16 (drop 1 m) ≡ id = ap (λ (l : List ℕ). decode16 (drop 1 l)) first ∙ update_id id number value _ in
    subst (λ (i : ℕ). IsValue (get_or es i default_entry).type value) (sym id_is) w

-- bytes are read as one message
pub one_first : (t : ℕ) (m : List ℕ) (x y : Message) → WellFormedMessage t x → WellFormedMessage t y → BeginsWith m x → BeginsWith m y → x ≡ y
one_first t m x y w v a b =
    let both : some x ≡ some y = sym (reads_as x w a) ∙ reads_as y v b in
    cc
  where
    reads_as : (x : Message) → WellFormedMessage t x → BeginsWith m x → contents m (parse_message t m) ≡ some x
    reads_as x w first = ap (λ (l : List ℕ). contents l (parse_message t l)) first ∙ (read_back t x (drop (length (layout x)) m) w).fields_back

well_formed : (es : List Entry) (m : List ℕ) (x : Message) → StandsFirst es m x → WellFormedMessage (type_in es m) x
well_formed es m keep_alive s = tt
well_formed es m (hello revision) s = tt
well_formed es m (unsupported revision) s = tt
well_formed es m hello_complete s = tt
well_formed es m (assignment id e) s = s.obeys.1
well_formed es m (update id number value) s = update_typed es m id number value s.first s.obeys.1

pub one_stands_first : OneStandsFirst
one_stands_first es m x y s t = one_first (type_in es m) m x y (well_formed es m x s) (well_formed es m y t) s.first t.first

-- ---- a client's message

layout_some : (x : Message) → 1 ≤ length (layout x)
unfolding layout
layout_some keep_alive = omega arith
layout_some (hello revision) = omega (arith, length_revision 1 revision)
layout_some (unsupported revision) = omega (arith, length_revision 2 revision)
layout_some hello_complete = omega arith
layout_some (assignment id e) = omega (arith, length_assignment id e)
layout_some (update id number value) = omega (arith, length_update id number value)

module _ (limit : ℕ) (mem : ServerMemory) (c : ℕ) (m : List ℕ) (x : Message) (stands : StandsFirst (entries_of mem.table) m x) where
  three : (revision : ℕ) → x ≡ hello revision → 3 ≡ length (layout x)
  unfolding layout
  three revision e = rw (e, length_revision 1 revision)

  stands_as : {y : Message} → x ≡ y → StandsFirst (entries_of mem.table) m y
  stands_as {y} e = rw e at stands

  comes_acts : (v : Verdict) → Comes limit (entries_of mem.table) x v → Acts mem (client_message c m) (length (layout x)) v
  comes_acts (refuse fault) (Comes.refused n) = refused n
  comes_acts (ignore n) (Comes.ignored e) = ignored e
  comes_acts (accept_hello d) (Comes.accepted e) = accepted (three protocol_revision e) (accepting (stands_as e))
  comes_acts (unsupported_revision d) (Comes.turned_away revision e ne) = turned_away (three revision e) (turning_away (stands_as e) ne)
  comes_acts (store_new new n) (Comes.created e p q o w h l t) = created {e = new} t (rw q (assigning (stands_as p)))
  comes_acts (store_update id number value n to) (Comes.updated p h w g t) = updated t (updating (stands_as p))
  comes_acts (close_mark _) x4 = elim x4 [ ]
  comes_acts (open_mark _) x3 = elim x3 [ ]
  comes_acts read_done x'' = elim x'' [ ]

-- a refusal where the state does not allow the message
StateOf : (mark : ℕ) → Message → (mem : ServerMemory) (out : List ℕ) → Verdict → Type 0
StateOf mark x mem out v = ((execute mem out v).number ≡ 0) ⊎ ((execute mem out v).number ≡ 16) → StateAllows mark x

state_allows_lem : (limit : ℕ) (es : List Entry) (mem : ServerMemory) (out : List ℕ) (c mark : ℕ) → eqb mark 0 ≡ false → (x : Message) → FromClient es x
    → StateOf mark x mem out (comes_to limit es c mark x)
unfolding comes_to StateOf execute
state_allows_lem limit es mem out c mark on keep_alive o = λ _. eqb-false mark 0 on
state_allows_lem limit es mem out c mark on (hello revision) o =
    by_test (StateOf mark (hello revision) mem out) _ _ _ (λ e. λ _. eqb-true mark 1 e) (λ _. λ f. absurd (not_refused 3 (refusal_number 3 (omega arith) (omega arith)) f))
state_allows_lem limit es mem out c mark on (unsupported revision) o = absurd o
state_allows_lem limit es mem out c mark on hello_complete o = absurd o
state_allows_lem limit es mem out c mark on (assignment id e) o =
    by_test (StateOf mark (assignment id e) mem out) _ _ _ (λ e. λ _. eqb-true mark 2 e) (λ _. λ f. absurd (not_refused 3 (refusal_number 3 (omega arith) (omega arith)) f))
state_allows_lem limit es mem out c mark on (update id number value) o =
    by_test (StateOf mark (update id number value) mem out) _ _ _ (λ e. λ _. eqb-true mark 2 e) (λ _. λ f. absurd (not_refused 3 (refusal_number 3 (omega arith) (omega arith)) f))

pub message_taken : MessageTaken
message_taken limit mem c m out b = go _ refl (client_call_lem limit mem c m out b)
  where
    go : (r : CallResult) → call_step limit mem (message_call c m out) ≡ r → ClientCall limit mem c m out r
        → ((call_step limit mem (message_call c m out)).number ≡ 0) ⊎ ((call_step limit mem (message_call c m out)).number ≡ 16) → TakesFirst limit mem c m out
    go r e (ClientCall.refused n) f = absurd (not_refused _ n (rw e at f))
    go r e (ClientCall.taken {v} s on x stands p k) f =
        record {
          message = x;
          stands = stands;
          connection = ltb-true c 16 on.known;
          state = unfold StateOf in rw p at (state_allows_lem limit (entries_of mem.table) mem out c (get_or mem.marks c 0) on.not_closed x stands.obeys) (rw e at f);
          taken = rw e ((executed_takes mem (client_message c m) out (length (layout x)) v (comes_acts limit mem c m x stands v k)).at_taken (rw e at f));
          some_taken = layout_some x;
          alone = λ rest. client_step limit mem s c on x stands.obeys rest out ∙ rw p (sym e);
        }

-- ---- every other call

module _ (limit : ℕ) (mem : ServerMemory) where
  abbrev es : List Entry
  es = entries_of mem.table

  refusal_acts : (call : Call) (number : ℕ) → 1 ≤ number → number ≤ 14 → Acts mem call 0 (refuse_call number)
  refusal_acts call number a b = refused (refusal_number number a b)

  create_acts : (name : List ℕ) (type : ℕ) (value : List ℕ) → Acts mem (local_create name type value) 0 (judge_create limit es name type value)
  unfolding judge_create
  create_acts name type value = go (check_name name) (name_rightly name) (parse_lone type value) (lone_rightly type value)
    where
      P : Verdict → Type 0
      P = Acts mem (local_create name type value) 0

      go : (p : Parsed) → RefusedRightly p → (q : Parsed) → RefusedRightly q
          → P (and_then refuse p (λ _. and_then refuse q (λ _. pick (name_held name es) (refuse_call 13) (pick (ltb (length es) limit) (store_new (new_entry name type value) 0) (refuse_call 11)))))
      go (Err fault) (RefusedRightly.refused f) q g = refused f
      go (Ok n) f (Err fault) (RefusedRightly.refused g) = refused g
      go (Ok n) f (Ok v) g =
          by_test P _ _ _ (λ _. refusal_acts _ 13 (omega arith) (omega arith)) (λ _.
          by_test P _ _ _ (λ _. created refl creating) (λ _. refusal_acts _ 11 (omega arith) (omega arith)))

  write_acts : (id : ℕ) (value : List ℕ) → Acts mem (local_write id value) 0 (judge_write es id value)
  unfolding judge_write
  write_acts id value =
      by_test P _ _ _ (λ _. go (parse_lone (get_or es id default_entry).type value) (lone_rightly (get_or es id default_entry).type value) _)
      (λ _. refusal_acts _ 6 (omega arith) (omega arith))
    where
      P : Verdict → Type 0
      P = Acts mem (local_write id value) 0

      go : (q : Parsed) → RefusedRightly q → (equal : Bool)
          → P (and_then refuse q (λ _. pick equal (ignore 0) (store_update id (next_number (get_or es id default_entry).number) value 0 all_greeted)))
      go (Err fault) (RefusedRightly.refused f) equal = refused f
      go (Ok n) f equal = by_test P _ _ _ (λ _. ignored refl) (λ _. updated refl writing)

  other_acts : (call : Call) → ((c : ℕ) (m : List ℕ) → call ≢ client_message c m) → Acts mem call 0 (judge limit es mem.marks call)
  unfolding judge
  other_acts (open_connection c) ne =
      by_test (Acts mem (open_connection c) 0) _ _ _ (λ _.
      by_test (Acts mem (open_connection c) 0) _ _ _ (λ _. opened refl opening) (λ _. refusal_acts _ 3 (omega arith) (omega arith)))
      (λ _. refusal_acts _ 2 (omega arith) (omega arith))
  other_acts (leave c) ne =
      by_test (Acts mem (leave c) 0) _ _ _ (λ _.
      by_test (Acts mem (leave c) 0) _ _ _ (λ _. refusal_acts _ 3 (omega arith) (omega arith)) (λ _. left refl leaving))
      (λ _. refusal_acts _ 2 (omega arith) (omega arith))
  other_acts (client_message c m) ne = absurd (ne c m refl)
  other_acts (local_create name type value) ne = create_acts name type value
  other_acts (local_write id value) ne = write_acts id value
  other_acts (read_entry id) ne = by_test (Acts mem (read_entry id) 0) _ _ _ (λ _. shown refl reading) (λ _. refusal_acts _ 6 (omega arith) (omega arith))

  other_takes : (call : Call) (out : List ℕ) → ((c : ℕ) (m : List ℕ) → call ≢ client_message c m) → Takes 0 (call_step limit mem (record { call = call; output = out }))
  unfolding call_step
  other_takes call out ne = by_test (Takes 0) _ _ _ (λ _. executed_takes mem call out 0 _ (other_acts call ne)) (λ _. takes refl)

  other_sent : (call : Call) (out : List ℕ) → ((c : ℕ) (m : List ℕ) → call ≢ client_message c m)
      → SentAtDone mem (record { call = call; output = out }) (call_step limit mem (record { call = call; output = out }))
  unfolding call_step
  other_sent call out ne =
      by_test (SentAtDone mem (record { call = call; output = out })) _ _ _ (λ _. executed_sent mem call out 0 _ (other_acts call ne)) (λ _. record { at_done = λ e. absurd (omega arith) })

  message_sent : (c : ℕ) (m out : List ℕ) → Bytes m → SentAtDone mem (message_call c m out) (call_step limit mem (message_call c m out))
  message_sent c m out b = go _ (client_call_lem limit mem c m out b)
    where
      go : (r : CallResult) → ClientCall limit mem c m out r → SentAtDone mem (message_call c m out) r
      go r (ClientCall.refused n) = record { at_done = λ e. absurd (omega arith) }
      go r (ClientCall.taken {v} s on x stands p k) = executed_sent mem (client_message c m) out (length (layout x)) v (comes_acts limit mem c m x stands v k)

  is_message : Call → Bool
  is_message (open_connection c) = false
  is_message (leave c) = false
  is_message (client_message c m) = true
  is_message (local_create name type value) = false
  is_message (local_write id value) = false
  is_message (read_entry id) = false

  no_message_sent : (call : Call) (out : List ℕ) → is_message call ≡ false → SentAtDone mem (record { call = call; output = out }) (call_step limit mem (record { call = call; output = out }))
  unfolding is_message
  no_message_sent call out e = other_sent call out (λ c m f. true≢false (sym (ap is_message f) ∙ e))

  call_sent : (call : Call) (out : List ℕ) → ((c : ℕ) (m : List ℕ) → call ≡ client_message c m → Bytes m)
      → SentAtDone mem (record { call = call; output = out }) (call_step limit mem (record { call = call; output = out }))
  unfolding is_message
  call_sent (open_connection c) out b = no_message_sent (open_connection c) out refl
  call_sent (leave c) out b = no_message_sent (leave c) out refl
  call_sent (client_message c m) out b = message_sent c m out (b c m refl)
  call_sent (local_create name type value) out b = no_message_sent (local_create name type value) out refl
  call_sent (local_write id value) out b = no_message_sent (local_write id value) out refl
  call_sent (read_entry id) out b = no_message_sent (read_entry id) out refl

pub messages_sent : MessagesSent
messages_sent limit mem k b d = (call_sent limit mem k.call k.output b).at_done d

pub nothing_taken : NothingTaken
nothing_taken limit mem k ne = go (call_answered limit mem k).numbers
  where
    go : ((call_step limit mem k).number ≡ 0) ⊎ (((call_step limit mem k).number ≡ 16) ⊎ RefusalNumber (call_step limit mem k).number) → (call_step limit mem k).taken ≡ 0
    go (inl e) = (other_takes limit mem k.call k.output ne).at_taken (inl e)
    go (inr (inl e)) = (other_takes limit mem k.call k.output ne).at_taken (inr e)
    go (inr (inr n)) = (call_answered limit mem k).refusal_takes_nothing n
