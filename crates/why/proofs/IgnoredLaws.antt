-- A message that is ignored can be read again.
use Rattle.std.specs.Prelude.{Ok, Err, Result, true, false, ◌&&◌, ◌<◌, Some, None}
use Rattle.std.specs.Option.{unwrap_or}
use Rattle.message.specs.Read.{AssignmentRead, UpdateRead}
use mathlib.Core.Path.{◌≡◌, refl, sym, ap, subst, ◌∙◌}
use mathlib.Core.Bool.{Bool}
use mathlib.Core.Logic.{◌≢◌}
use mathlib.Core.List.{List}
use Prim.Native.Nat.{ℕ, ◌≤◌}
use native.Mathlib.Omega.{arith}
use lib.Dec.{ltb}
use lib.ListN.{length, get_or}
use borrow.Author.Tests.{leb-true, ltb-true, ltb-false, eqb-true, ne_eqb}
use Rattle.field.specs.declared.Fault.{Fault}
use Rattle.field.specs.Answer.{unsound}
use Rattle.field.specs.Choice.{pick}
use Rattle.field.proofs.ChoiceLaws.{by_test, pick_true, pick_false}
use Rattle.message.specs.Layout.{Entry, keep_alive_kind, assignment_kind, update_kind}
use Rattle.message.specs.Reader.{id_allowed, name_in}
use Rattle.message.specs.declared.AllowedId.TheVariants.{Only}
use Rattle.message.proofs.TakenLaws.{AssignmentIs, assignment_is, UpdateIs, update_is}
use Rattle.table.specs.Names.{holder, name_held, entry_named}
use Rattle.table.specs.Table.{TableMemory, default_entry, entry_of, entries_of, max_entries}
use Rattle.table.proofs.NamesLaws.{holder_most}
use Rattle.table.proofs.TabulateLaws.{length_entries, entry_get}
use Rattle.places.specs.MessageFails.{name_length_in, update_id_in}
use Rattle.reason.specs.Checks.{received_in}
use Rattle.reason.specs.declared.Reason.TheVariants.{Refused, KeepAlive, NameHeld}
use Rattle.recipients.specs.Recipients.{Recipients}
use Rattle.protocol.specs.Judge.{client_message, Verdict, refuse, ignore, accept_hello, unsupported_revision, store_new, store_update, new_id, judge_hello, judge_assignment, judge_update, judge_kind, judge_message, judge}
use Rattle.judge.specs.Decision.{Decides, verdict_of}
use Rattle.judge.specs.declared.Decision.{Decision}
use Rattle.judge.specs.declared.Decision.TheVariants as D
use Rattle.soundness.specs.Sound.{sound_table, sound_marks}
use Rattle.protocol.specs.Lent.{beside_marks}
use Rattle.reason.specs.Reason.{refused_at}
use Rattle.reason.specs.Why.{why}
use Rattle.reason.specs.Explain.{explain, ignored_reason, number_reason}
use Rattle.reason.proofs.ExplainLaws.{why_explained}
use Rattle.why.specs.Ignored.{ReadAgain, Explainable}

data WhenIgnored (count : ℕ) (m : List ℕ) : Verdict → Type 0 where
  ignored : {taken : ℕ} → ReadAgain count m → WhenIgnored count m (ignore taken)
  refused : {fault : Fault} → WhenIgnored count m (refuse fault)
  welcomed : {c : ℕ} → WhenIgnored count m (accept_hello c)
  turned_away : {c : ℕ} → WhenIgnored count m (unsupported_revision c)
  created : {e : Entry} {taken : ℕ} → WhenIgnored count m (store_new e taken)
  updated : {id number taken : ℕ} {value : List ℕ} {to : Recipients} → WhenIgnored count m (store_update id number value taken to)

module _ (limit : ℕ) (es : List Entry) (m : List ℕ) where
  P : Verdict → Type 0
  P = WhenIgnored (length es) m

  assignment_again : get_or m 0 0 ≡ assignment_kind → 1 ≤ length m → (allowed : ℕ → Bool) (r : AssignmentRead) → AssignmentIs allowed m r → P (judge_assignment limit es m r)
  unfolding judge_assignment P
  assignment_again k there allowed (Err fault) f = refused
  assignment_again k there allowed (Ok read) (AssignmentIs.taken a l w fields) =
      by_test (WhenIgnored (length es) m) _ _ _ (λ _. ignored again) (λ _. by_test (WhenIgnored (length es) m) _ _ _ (λ _. created) (λ _. refused))
    where
      again : ReadAgain (length es) m
      again =
          record {
            kind_there = there;
            first_there = λ _. omega (arith, l);
            name_there = λ _. omega (arith, fields.name_is, l);
            number_there = λ _ other. absurd (other k);
          }

  update_again : get_or m 0 0 ≡ update_kind → 1 ≤ length m → (c : ℕ) (r : UpdateRead) → UpdateIs (λ id. ltb id (length es)) (λ id. (get_or es id default_entry).type) m r
      → P (judge_update c es m r)
  unfolding judge_update P
  update_again k there c (Err fault) f = refused
  update_again k there c (Ok read) (UpdateIs.taken h l w i e) =
      by_test (WhenIgnored (length es) m) _ _ _ (λ _. updated) (λ _. ignored again)
    where
      again : ReadAgain (length es) m
      again =
          record {
            kind_there = there;
            first_there = λ _. omega (arith, l);
            name_there = λ (a : get_or m 0 0 ≡ assignment_kind). absurd (omega (arith, k, a));
            number_there = λ _ _. (omega (arith, l), omega (arith, i, ltb-true read.id (length es) h));
          }

  message_again : (c mark : ℕ) → P (judge_message limit es c mark m)
  unfolding judge_message judge_kind judge_hello P
  message_again c mark =
      by_test Q _ _ _ (λ there.
      by_test Q _ _ _ (λ k. ignored (keep_alive_lem (eqb-true _ _ k) (leb-true _ _ there))) (λ _.
      by_test Q _ _ _ (λ _. by_test Q _ _ _ (λ _. by_test Q _ _ _ (λ _. by_test Q _ _ _ (λ _. welcomed) (λ _. turned_away)) (λ _. refused)) (λ _. refused)) (λ _.
      by_test Q _ _ _ (λ k. by_test Q _ _ _ (λ _. assignment_again (eqb-true _ _ k) (leb-true _ _ there) _ _ (assignment_is (id_allowed (Only new_id)) m)) (λ _. refused)) (λ _.
      by_test Q _ _ _ (λ k. by_test Q _ _ _ (λ _. update_again (eqb-true _ _ k) (leb-true _ _ there) c _ (update_is _ _ m)) (λ _. refused)) (λ _. refused)))))
      (λ _. refused)
    where
      Q : Verdict → Type 0
      Q = WhenIgnored (length es) m

      keep_alive_lem : get_or m 0 0 ≡ keep_alive_kind → 1 ≤ length m → ReadAgain (length es) m
      keep_alive_lem k there =
          record {
            kind_there = there;
            first_there = λ other. absurd (other k);
            name_there = λ (a : get_or m 0 0 ≡ assignment_kind). absurd (omega (arith, k, a));
            number_there = λ other _. absurd (other k);
          }

  call_again : (marks : List ℕ) (c : ℕ) → P (judge limit es marks (client_message c m))
  unfolding judge P
  call_again marks c =
      by_test Q _ _ _ (λ _. by_test Q _ _ _ (λ _. refused) (λ _. message_again c _)) (λ _. refused)
    where
      Q : Verdict → Type 0
      Q = WhenIgnored (length es) m

  pub read_again : (marks : List ℕ) (c taken : ℕ) → judge limit es marks (client_message c m) ≡ ignore taken → ReadAgain (length es) m
  unfolding P
  read_again marks c taken e = go (rw e at (call_again marks c))
    where
      go : WhenIgnored (length es) m (ignore taken) → ReadAgain (length es) m
      go (WhenIgnored.ignored h) = h

-- ---- what the reason is, by the test of soundness and the verdict

module _ (table : TableMemory) (marks : List ℕ) (c : ℕ) (m : List ℕ) where
  abbrev verdict : Verdict
  verdict = judge max_entries (entries_of table) marks (client_message c m)

  pub unsound_said : (sound_table max_entries table && sound_marks marks) ≡ false → refused_at unsound 0 ≡ why max_entries (beside_marks table marks) c m
  unsound_said h = sym (why_explained max_entries (beside_marks table marks) c m ∙ pick_false _ _ h)

  pub decided_said : (d : Result Decision Fault) → (sound_table max_entries table && sound_marks marks) ≡ true → Decides table.count c m d verdict
      → explain (entries_of table) (get_or m 0 0) m (verdict_of c m d) ≡ why max_entries (beside_marks table marks) c m
  decided_said d h decides =
      sym
      (why_explained max_entries (beside_marks table marks) c m
      ∙ pick_true _ _ h
      ∙ ap (explain (entries_of table) (get_or m 0 0) m) (sym decides.verdict))

  pub refused_said : (fault : Fault) → (sound_table max_entries table && sound_marks marks) ≡ true → Decides table.count c m (Err fault) verdict
      → Refused fault ≡ why max_entries (beside_marks table marks) c m
  refused_said fault h decides = decided_said (Err fault) h decides

  pub explainable : (d : Decision) → Decides table.count c m (Ok d) verdict → Explainable table.count m d
  explainable (D.Ignore taken) decides =
      subst (λ (n : ℕ). ReadAgain n m) (length_entries table) (read_again max_entries (entries_of table) m marks c taken (sym decides.verdict))
  explainable D.AcceptHello decides = tt
  explainable D.UnsupportedRevision decides = tt
  explainable (D.StoreNew read) decides = tt
  explainable (D.StoreUpdate read) decides = decides.performable.0

-- ---- what is said of an ignored message, by its kind

pub keep_alive_said : (es : List Entry) (m : List ℕ) → get_or m 0 0 ≡ keep_alive_kind → KeepAlive ≡ ignored_reason es (get_or m 0 0) m
unfolding ignored_reason pick
keep_alive_said es m k = rw k

-- the search's answer, or the count where the name is not held
searched : (table : TableMemory) (name : List ℕ) → unwrap_or (entry_named name (entries_of table)) table.count ≡ holder name (entries_of table)
unfolding name_held pick
searched table name = go (name_held name (entries_of table)) refl
  where
    go : (held : Bool) → name_held name (entries_of table) ≡ held → unwrap_or (pick held (Some (holder name (entries_of table))) None) table.count ≡ holder name (entries_of table)
    go true h = refl
    go false h = omega (arith, ltb-false _ _ h, holder_most name (entries_of table), length_entries table)

pub searched_fits : (table : TableMemory) (name : List ℕ) (id : ℕ) → id ≡ unwrap_or (entry_named name (entries_of table)) table.count → id ≤ table.count
searched_fits table name id e = omega (arith, e ∙ searched table name, holder_most name (entries_of table), length_entries table)

module _ (table : TableMemory) (m : List ℕ) where
  pub name_said : get_or m 0 0 ≡ assignment_kind
      → NameHeld (unwrap_or (entry_named (name_in (name_length_in m) m) (entries_of table)) table.count) ≡ ignored_reason (entries_of table) (get_or m 0 0) m
  unfolding ignored_reason pick
  name_said k = rw (k, searched table (name_in (name_length_in m) m))

  pub number_said : (stored : ℕ) → get_or m 0 0 ≢ keep_alive_kind → get_or m 0 0 ≢ assignment_kind → update_id_in m < table.count → stored ≡ (entry_of table (update_id_in m)).number
      → number_reason stored (received_in m) ≡ ignored_reason (entries_of table) (get_or m 0 0) m
  unfolding ignored_reason pick
  number_said stored k a held e =
      rw (ne_eqb _ _ k, ne_eqb _ _ a, e) (ap (λ (x : Entry). number_reason x.number (received_in m)) (sym (entry_get table (update_id_in m) default_entry held)))

-- an update that is stored
pub stored_said : (table : TableMemory) (stored id number : ℕ) → id < table.count → stored ≡ (entry_of table id).number
    → number_reason stored number ≡ number_reason (get_or (entries_of table) id default_entry).number number
stored_said table stored id number held e = rw e (ap (λ (x : Entry). number_reason x.number number) (sym (entry_get table id default_entry held)))
