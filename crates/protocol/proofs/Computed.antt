-- A run of calls, computed: on memory that holds stale numbers, each call's answer, the bytes addressed to a client, and the entries at the end.
use mathlib.Core.Path.{◌≡◌, refl}
use mathlib.Core.Bool.{true, false}
use mathlib.Core.List.{List, [], ◌∷◌, ◌++◌}
use Prim.Native.Nat.{ℕ}
use native.Mathlib.Omega.{arith}
use lib.ListN.{replicate}
use Rattle.field.specs.Choice.{pick}
use Rattle.field.specs.Octets.{decode16, encode16, overwrite_at, bytes_equal}
use Rattle.sequence.specs.SequenceNumber.{passed_by}
use Rattle.utf8.specs.Utf8.{after_first, after_byte, utf8_from, is_utf8}
use Rattle.text.specs.Text.{parse_text}
use Rattle.value.specs.Value.{known_type, parse_boolean, parse_element, parse_value, parse_lone}
use Rattle.scalar.specs.Scalar.{equal_values}
use Rattle.message.specs.Layout.{assignment_bytes, update_bytes, revision_bytes}
use Rattle.reader.specs.Reader.{parse_text_at, parse_value_at}
use Rattle.message.specs.Reader.{parse_behind_id, parse_after_name, parse_assignment, parse_behind_update_id, parse_update}
use Rattle.writer.specs.Writer.{check_name}
use Rattle.table.specs.Names.{holder, name_held, names_differ}
use Rattle.table.specs.Table.{entry_at, tabulate, entries_of, default_entry, heads_with_entry, bytes_with_entry, heads_with_value, bytes_with_value, store_entry, store_value}
use Rattle.soundness.specs.Sound.{all_below, sound_entry, large_enough, sound_table, sound_marks}
use Rattle.recipients.specs.Recipients.{bit_set, test_bit, recipient_set}
use Rattle.hello.specs.Hello.{hello_answer}
use Rattle.protocol.specs.Judge.{Call, open_connection, leave, client_message, local_create, local_write, read_entry, judge_hello, judge_assignment, judge_update, judge_kind, judge_message, judge_create, judge_write, judge}
use Rattle.protocol.specs.Step.{ServerMemory, LentCall, CallResult, execute, call_step, fresh_start}
use Rattle.protocol.specs.Run.{memory_after_run, after_start_and_calls, addressed_by_call, addressed_bytes, hello_call, leaves_or_updates, StaysWithoutOwnUpdate}

-- lent memory for two entries, with whatever it held before
abbrev pub stale : ServerMemory
stale = record { table = record { heads = replicate 9 7; bytes = replicate 641 9; count = 77 }; marks = replicate 17 5 }

-- each call is lent 40 bytes
abbrev pub lent : Call → LentCall
lent call = record { call = call; output = replicate 40 1 }

-- client 1 is connected; `a` is created locally; client 0 is connected and greeted
abbrev pub before : List LentCall
before = lent (open_connection 1) ∷ lent (local_create (0x61 ∷ []) 0 (1 ∷ [])) ∷ lent (open_connection 0) ∷ lent (client_message 0 (1 ∷ 2 ∷ 0 ∷ [])) ∷ []

-- client 1's hello, with another byte behind it
abbrev pub greeting : LentCall
greeting = hello_call 1 (7 ∷ []) (replicate 40 1)

-- client 0 updates `a`; client 0 asks for `b`, a String; client 0 asks for `a` once more (16); `a` is written locally;
-- a third entry (11), an entry that is not there (6), a connection that is not there (2), a write with no room (12),
-- client 1's hello once more (3), and client 1's own update with a number that was new when it was greeted (16)
abbrev pub after : List LentCall
after =
    lent (client_message 0 (0x11 ∷ 0 ∷ 0 ∷ 0 ∷ 2 ∷ 0 ∷ [])) ∷ lent (client_message 0 (0x10 ∷ 0 ∷ 1 ∷ 0x62 ∷ 2 ∷ 255 ∷ 255 ∷ 0 ∷ 9 ∷ 0 ∷ 1 ∷ 0x7A ∷ []))
    ∷ lent (client_message 0 (0x10 ∷ 0 ∷ 1 ∷ 0x61 ∷ 0 ∷ 255 ∷ 255 ∷ 0 ∷ 0 ∷ 1 ∷ [])) ∷ lent (local_write 0 (1 ∷ [])) ∷ lent (local_create (0x63 ∷ []) 0 (1 ∷ []))
    ∷ lent (read_entry 5) ∷ lent (open_connection 99999) ∷ record { call = local_write 0 (0 ∷ []); output = 1 ∷ 1 ∷ [] }
    ∷ lent (client_message 1 (1 ∷ 2 ∷ 0 ∷ [])) ∷ lent (client_message 1 (0x11 ∷ 0 ∷ 0 ∷ 0 ∷ 2 ∷ 1 ∷ [])) ∷ []

-- an answer: its number, taken, sent and recipients
abbrev answer_of : CallResult → List ℕ
answer_of r = r.number ∷ r.taken ∷ r.sent ∷ r.recipients ∷ []

-- what a run's calls answer
unfoldable pub answers : ℕ → ServerMemory → List LentCall → List (List ℕ)
answers limit mem [] = []
answers limit mem (k ∷ ks) = answer_of (call_step limit mem k) ∷ answers limit (call_step limit mem k).memory ks

unfoldable pub refused_with : ℕ → List ℕ
refused_with number = number ∷ 0 ∷ 0 ∷ 0 ∷ []

unfoldable pub nothing_sent : List ℕ
nothing_sent = 0 ∷ 0 ∷ 0 ∷ 0 ∷ []

pub record Computed : Type 0 where
  -- demand 3's hypotheses
  pub started : (fresh_start 2 stale).number ≡ 0
  pub accepted : (call_step 2 (after_start_and_calls 2 stale before) greeting).number ≡ 0
  pub stays : StaysWithoutOwnUpdate 2 (call_step 2 (after_start_and_calls 2 stale before) greeting).memory 1 after
  -- what every call answers
  pub answered : answers 2 (after_start_and_calls 2 stale []) (before ++ (greeting ∷ after)) ≡
      (nothing_sent ∷ (0 ∷ 0 ∷ 10 ∷ 0 ∷ []) ∷ nothing_sent ∷ (0 ∷ 3 ∷ 11 ∷ 1 ∷ []) ∷ (0 ∷ 3 ∷ 11 ∷ 2 ∷ []) ∷ (0 ∷ 6 ∷ 6 ∷ 2 ∷ []) ∷ (0 ∷ 12 ∷ 12 ∷ 3 ∷ [])
      ∷ (16 ∷ 10 ∷ 0 ∷ 0 ∷ []) ∷ (0 ∷ 0 ∷ 6 ∷ 3 ∷ []) ∷ refused_with 11 ∷ refused_with 6 ∷ refused_with 2 ∷ refused_with 12 ∷ refused_with 3 ∷ (16 ∷ 6 ∷ 0 ∷ 0 ∷ []) ∷ [])
  -- the bytes that are addressed to client 1: `a`, hello complete, the update, `b`, the local write
  pub bytes_addressed : addressed_bytes 2 (after_start_and_calls 2 stale before) 1 (greeting ∷ after) ≡
      (0x10 ∷ 0 ∷ 1 ∷ 0x61 ∷ 0 ∷ 0 ∷ 0 ∷ 0 ∷ 1 ∷ 1 ∷ 3 ∷ 0x11 ∷ 0 ∷ 0 ∷ 0 ∷ 2 ∷ 0 ∷ 0x10 ∷ 0 ∷ 1 ∷ 0x62 ∷ 2 ∷ 0 ∷ 1 ∷ 0 ∷ 1 ∷ 0 ∷ 1 ∷ 0x7A ∷ 0x11 ∷ 0 ∷ 0 ∷ 0 ∷ 3 ∷ 1 ∷ [])
  -- and to client 0: not its own update, but the `b` that it asked for, and the local write
  pub bytes_to_sender : addressed_bytes 2 (after_start_and_calls 2 stale before) 0 (greeting ∷ after) ≡
      (0x10 ∷ 0 ∷ 1 ∷ 0x62 ∷ 2 ∷ 0 ∷ 1 ∷ 0 ∷ 1 ∷ 0 ∷ 1 ∷ 0x7A ∷ 0x11 ∷ 0 ∷ 0 ∷ 0 ∷ 3 ∷ 1 ∷ [])
  -- and nothing of a call that is not done
  pub ignored_not_addressed : addressed_by_call 1 (record { number = 16; taken = 1; sent = 1; recipients = 2; memory = stale; output = 7 ∷ [] }) ≡ []
  -- the entries that the server, and so the copy, holds at the end
  pub entries_held : entries_of (after_start_and_calls 2 stale (before ++ (greeting ∷ after))).table ≡
      (record { name = 0x61 ∷ []; type = 0; number = 3; value = 1 ∷ [] } ∷ record { name = 0x62 ∷ []; type = 2; number = 1; value = 0 ∷ 1 ∷ 0x7A ∷ [] } ∷ [])
  -- leaving and an own update are seen, another's are not
  pub leaving_seen : leaves_or_updates 1 (leave 1) ≡ true
  pub leaving_of_another : leaves_or_updates 1 (leave 0) ≡ false
  pub own_update_seen : leaves_or_updates 1 (client_message 1 (0x11 ∷ [])) ≡ true
  pub update_of_another : leaves_or_updates 1 (client_message 0 (0x11 ∷ [])) ≡ false
  -- and no other call is
  pub others_not_seen : (leaves_or_updates 1 (open_connection 1) ∷ leaves_or_updates 1 (client_message 1 []) ∷ leaves_or_updates 1 (client_message 1 (0x10 ∷ []))
      ∷ leaves_or_updates 1 (local_create [] 1 []) ∷ leaves_or_updates 1 (local_write 1 []) ∷ leaves_or_updates 1 (read_entry 1) ∷ []) ≡
      (false ∷ false ∷ false ∷ false ∷ false ∷ false ∷ [])

pub computed : Computed
unfolding answers refused_with nothing_sent pick decode16 encode16 overwrite_at bytes_equal passed_by after_first after_byte utf8_from is_utf8 parse_text known_type parse_boolean parse_element parse_value parse_lone equal_values assignment_bytes update_bytes revision_bytes parse_text_at parse_value_at parse_behind_id parse_after_name parse_assignment parse_behind_update_id parse_update check_name holder name_held names_differ entry_at tabulate entries_of default_entry heads_with_entry bytes_with_entry heads_with_value bytes_with_value store_entry store_value all_below sound_entry large_enough sound_table sound_marks bit_set test_bit recipient_set hello_answer judge_hello judge_assignment judge_update judge_kind judge_message judge_create judge_write judge execute call_step fresh_start memory_after_run addressed_by_call addressed_bytes StaysWithoutOwnUpdate
computed =
    record {
      started = refl;
      accepted = refl;
      stays = ((λ _. refl), ((λ _. refl), ((λ _. refl), ((λ _. refl), ((λ _. refl), ((λ _. refl), ((λ _. refl), ((λ _. refl), ((λ _. refl), ((λ e. absurd (omega arith)), tt))))))))));
      answered = refl;
      bytes_addressed = refl;
      bytes_to_sender = refl;
      ignored_not_addressed = refl;
      entries_held = refl;
      leaving_seen = refl;
      leaving_of_another = refl;
      own_update_seen = refl;
      update_of_another = refl;
      others_not_seen = refl;
    }
