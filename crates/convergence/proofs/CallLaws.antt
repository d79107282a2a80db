-- What a call sends to a greeted client leads that client's copy from the server's entries before the call to those after it.
use mathlib.Core.Path.{◌≡◌, refl, sym, ap, ap₂, ◌∙◌}
use mathlib.Core.Logic.{◌≢◌}
use mathlib.Core.Bool.{Bool, true, false, true≢false, ◌&&◌}
use mathlib.Core.List.{List, [], ◌∷◌}
use Prim.Native.Nat.{ℕ, ◌+◌, ◌≤◌, ◌<◌}
use native.Mathlib.Omega.{arith}
use lib.Dec.{leb}
use lib.ListN.{length, get_or, take, drop}
use lib.Seq.{take-append_seam, get_or-set_other}
use borrow.Author.Tests.{leb-true, eq-eqb, ne_eqb}
use Rattle.field.specs.Choice.{pick}
use Rattle.field.specs.Octets.{overwrite_at}
use Rattle.field.proofs.ChoiceLaws.{by_test}
use Rattle.field.proofs.OverwriteLaws.{overwrite_eq}
use Rattle.value.specs.Value.{IsValue}
use Rattle.message.specs.Layout.{Entry, WellFormed, update_kind, unsupported_kind, assignment_bytes, update_bytes, revision_bytes}
use Rattle.table.specs.Names.{name_held}
use Rattle.table.specs.Table.{entries_of, default_entry, store_entry, store_value}
use Rattle.recipients.specs.Recipients.{Recipients, nobody, sender, all_greeted, is_recipient, recipient_set}
use Rattle.hello.specs.Hello.{hello_answer}
use Rattle.protocol.specs.Judge.{Call, leave, client_message, Verdict, refuse, ignore, read_done, open_mark, close_mark, accept_hello, unsupported_revision, store_new, store_update, protocol_revision, judge}
use Rattle.protocol.specs.Step.{ServerMemory, LentCall, CallResult, answer, with_mark, with_table, execute, call_step}
use Rattle.protocol.specs.Run.{addressed_by_call, leaves_or_updates}
use Rattle.recipients.proofs.RecipientLaws.{recipient_bit}
use Rattle.table.proofs.TabulateLaws.{length_entries}
use Rattle.soundness.proofs.StoredLaws.{stored_new, stored_value}
use Rattle.protocol.proofs.JudgeLaws.{SentTo, local_write_case, client_update, VerdictIs, verdict_is}
use Rattle.protocol.specs.Kept.{SoundMemory}
use Rattle.protocol.proofs.SoundnessLaws.{step_is}
use Rattle.convergence.proofs.Leads.{Leads, leads_none, leads_assignment, leads_update}

-- ---- the bytes that are addressed to a client

stored_first : (out messages : List ℕ) → length messages ≤ length out → take (length messages) (overwrite_at out 0 messages) ≡ messages
stored_first out messages l =
    let fits : 0 + length messages ≤ length out = omega arith in
    rw (overwrite_eq out 0 messages fits) (take-append_seam messages (drop (0 + length messages) out))

-- of a call that was answered 0 they are its messages where the client is a recipient, and none otherwise
pub addressed_done : (c taken : ℕ) (out messages : List ℕ) (to : Recipients) (marks : List ℕ) (after : ServerMemory) → c < 16 → length messages ≤ length out
    → addressed_by_call c (record { number = 0; taken = taken; sent = length messages; recipients = recipient_set to marks; memory = after; output = overwrite_at out 0 messages })
    ≡ pick (is_recipient to marks c) messages []
unfolding addressed_by_call
addressed_done c taken out messages to marks after b l =
    ap₂ (λ (t : Bool) (sent : List ℕ). pick t sent []) (recipient_bit to marks c b) (stored_first out messages l)

-- ---- a greeted client that neither leaves nor updates

abbrev mark_of : ServerMemory → ℕ → ℕ
mark_of mem c = get_or mem.marks c 0

-- it stays greeted, and what it is sent leads on
pub record LeadsOn (limit : ℕ) (mem after : ServerMemory) (c : ℕ) (bytes : List ℕ) : Type 0 where
  pub greeted : mark_of after c ≡ 2
  pub leads : Leads limit (entries_of mem.table) bytes (entries_of after.table)

pub record Follows (limit : ℕ) (call : Call) (mem : ServerMemory) (r : CallResult) : Type 0 where
  pub on : (c : ℕ) → c < 16 → mark_of mem c ≡ 2 → (r.number ≡ 0 → leaves_or_updates c call ≡ false) → LeadsOn limit mem r.memory c (addressed_by_call c r)

-- a client's message of kind 0x11 is an update
is_update : (c : ℕ) (m : List ℕ) → 1 ≤ length m → get_or m 0 0 ≡ update_kind → leaves_or_updates c (client_message c m) ≡ true
is_update c [] l k = absurd (omega arith)
is_update c (x ∷ m) l k = ap₂ ◌&&◌ (eq-eqb c c refl) (eq-eqb x update_kind k)

module _ (limit : ℕ) (call : Call) (mem : ServerMemory) (s : SoundMemory limit mem) where
  nothing : (c : ℕ) → mark_of mem c ≡ 2 → LeadsOn limit mem mem c []
  nothing c g = record { greeted = g; leads = leads_none limit (entries_of mem.table) }

  -- nothing is sent and nothing changes
  follows_quiet : (number taken : ℕ) (out : List ℕ) → Follows limit call mem (record { number = number; taken = taken; sent = 0; recipients = 0; memory = mem; output = out })
  unfolding addressed_by_call
  follows_quiet number taken out = record { on = λ c b g q. by_test (LeadsOn limit mem mem c) _ _ _ (λ _. nothing c g) (λ _. nothing c g) }

  -- an answer, where there is room for it
  follows_answer : (out : List ℕ) (taken : ℕ) (messages : List ℕ) (to : Recipients) (after : ServerMemory)
      → ((c : ℕ) → mark_of mem c ≡ 2 → leaves_or_updates c call ≡ false → LeadsOn limit mem after c (pick (is_recipient to mem.marks c) messages []))
      → Follows limit call mem (answer mem out taken messages to after)
  follows_answer out taken messages to after h =
      by_test (Follows limit call mem) (leb (length messages) (length out)) _ _
      (λ room. record { on = λ c b g q. rw (addressed_done c taken out messages to mem.marks after b (leb-true _ _ room)) (h c g (q refl)) })
      (λ _. follows_quiet 12 0 out)

  -- another connection's mark
  other_mark : (c d mark : ℕ) → mark_of mem c ≡ 2 → c ≢ d → mark_of (with_mark mem d mark) c ≡ 2
  other_mark c d mark g ne = get_or-set_other mem.marks d c mark 0 ne ∙ g

  not_greeted : (c d n : ℕ) → mark_of mem c ≡ 2 → mark_of mem d ≡ n → n ≢ 2 → c ≢ d
  not_greeted c d n g h ne e = ne (sym h ∙ ap (mark_of mem) (sym e) ∙ g)

  not_own : (c d : ℕ) → leaves_or_updates d call ≡ true → leaves_or_updates c call ≡ false → c ≢ d
  not_own c d t f e = true≢false (sym t ∙ ap (λ (x : ℕ). leaves_or_updates x call) (sym e) ∙ f)

  -- only the mark of a connection that is not greeted changes, and what is sent goes to that one
  follows_mark : (out : List ℕ) (taken d n mark : ℕ) (messages : List ℕ) (to : Recipients) → mark_of mem d ≡ n → n ≢ 2
      → ((c : ℕ) → c ≢ d → is_recipient to mem.marks c ≡ false) → Follows limit call mem (answer mem out taken messages to (with_mark mem d mark))
  unfolding pick
  follows_mark out taken d n mark messages to h ne other =
      follows_answer out taken messages to (with_mark mem d mark) (λ c g q.
      let cd : c ≢ d = not_greeted c d n g h ne in
      rw (other c cd) (record { greeted = other_mark c d mark g cd; leads = leads_none limit (entries_of mem.table) }))

  follows_leave : (out : List ℕ) (d : ℕ) → call ≡ leave d → Follows limit call mem (answer mem out 0 [] nobody (with_mark mem d 0))
  unfolding pick
  follows_leave out d e =
      let own : leaves_or_updates d call ≡ true = rw e (eq-eqb d d refl) in
      follows_answer out 0 [] nobody (with_mark mem d 0) (λ c g q.
      record { greeted = other_mark c d 0 g (not_own c d own q); leads = leads_none limit (entries_of mem.table) })

  follows_new : (out : List ℕ) (taken : ℕ) (e : Entry) → WellFormed e → name_held e.name (entries_of mem.table) ≡ false → length (entries_of mem.table) < limit
      → Follows limit call mem (answer mem out taken (assignment_bytes mem.table.count e) all_greeted (with_table mem (store_entry mem.table e)))
  unfolding pick
  follows_new out taken e w new room =
      follows_answer out taken (assignment_bytes mem.table.count e) all_greeted (with_table mem (store_entry mem.table e)) (λ c g q.
      rw g (record {
        greeted = g;
        leads = rw (stored_new limit mem.table s.table e w new room) (rw (length_entries mem.table) at (leads_assignment limit (entries_of mem.table) e w new room));
      }))

  follows_update : (out : List ℕ) (taken id number : ℕ) (value : List ℕ) (to : Recipients) → id < length (entries_of mem.table)
      → IsValue (get_or (entries_of mem.table) id default_entry).type value → SentTo call to
      → Follows limit call mem (answer mem out taken (update_bytes id number value) to (with_table mem (store_value mem.table id number value)))
  follows_update out taken id number value to held w sent =
      follows_answer out taken (update_bytes id number value) to (with_table mem (store_value mem.table id number value)) (λ c g q.
      rw (recipient c g q to sent) (record {
        greeted = g;
        leads = rw (stored_value limit mem.table s.table id number value held w) (leads_update limit (entries_of mem.table) id number value held w);
      }))
    where
      -- a greeted client is among those to whom another's update goes
      recipient : (c : ℕ) → mark_of mem c ≡ 2 → leaves_or_updates c call ≡ false → (to : Recipients) → SentTo call to
          → pick (is_recipient to mem.marks c) (update_bytes id number value) [] ≡ update_bytes id number value
      recipient c g q to local_write_case = unfold pick in rw g
      recipient c g q to (client_update {c = d} {m = m} e l k) =
          unfold pick in rw (g, ne_eqb c d (not_own c d (rw e (is_update d m l k)) q))

  execute_follows : (out : List ℕ) (v : Verdict) → VerdictIs limit (entries_of mem.table) mem.marks call v → Follows limit call mem (execute mem out v)
  unfolding execute
  execute_follows out (refuse fault) f = follows_quiet fault.number 0 out
  execute_follows out (ignore taken) f = follows_quiet 16 taken out
  execute_follows out read_done f = follows_answer out 0 [] nobody mem (λ c g q. unfold pick in nothing c g)
  execute_follows out (open_mark d) (VerdictIs.opened b h) = follows_mark out 0 d 0 1 [] nobody h (omega arith) (λ c ne. refl)
  execute_follows out (close_mark d) (VerdictIs.left b e) = follows_leave out d e
  execute_follows out (accept_hello d) (VerdictIs.welcomed b h) =
      follows_mark out 3 d 1 2 (hello_answer 0 (entries_of mem.table)) (sender d) h (omega arith) (λ c ne. ne_eqb c d ne)
  execute_follows out (unsupported_revision d) (VerdictIs.turned_away b h) =
      follows_mark out 3 d 1 0 (revision_bytes unsupported_kind protocol_revision) (sender d) h (omega arith) (λ c ne. ne_eqb c d ne)
  execute_follows out (store_new e taken) (VerdictIs.created w new room) = follows_new out taken e w new room
  execute_follows out (store_update id number value taken to) (VerdictIs.updated held w sent) = follows_update out taken id number value to held w sent

pub call_follows : (limit : ℕ) (mem : ServerMemory) → SoundMemory limit mem → (k : LentCall) → Follows limit k.call mem (call_step limit mem k)
call_follows limit mem s k =
    rw (step_is limit mem s k)
    (execute_follows limit k.call mem s k.output (judge limit (entries_of mem.table) mem.marks k.call) (verdict_is limit (entries_of mem.table) mem.marks k.call))
