-- Demand 3 at a run with deliveries that meets its hypotheses, and what is sent in it, computed.
use mathlib.Core.Path.{◌≡◌, refl}
use mathlib.Core.List.{List, [], ◌∷◌, ◌++◌}
use native.Mathlib.Omega.{arith}
use lib.ListN.{replicate}
use Rattle.field.specs.Choice.{pick}
use Rattle.field.specs.Octets.{decode16, encode16, overwrite_at, bytes_equal}
use Rattle.sequence.specs.SequenceNumber.{passed_by}
use Rattle.utf8.specs.Utf8.{after_first, after_byte, utf8_from, is_utf8}
use Rattle.text.specs.Text.{parse_text}
use Rattle.value.specs.Value.{known_type, parse_boolean, parse_element, parse_value, parse_lone}
use Rattle.scalar.specs.Scalar.{equal_values}
use Rattle.message.specs.Layout.{assignment_bytes, update_bytes, revision_bytes}
use Rattle.reader.specs.Reader.{parse_text_at, parse_value_at}
use Rattle.message.specs.Reader.{parse_behind_id, parse_after_name, parse_assignment, parse_behind_update_id, parse_update}
use Rattle.writer.specs.Writer.{check_name}
use Rattle.table.specs.Names.{holder, name_held, names_differ}
use Rattle.table.specs.Table.{TableMemory, entry_at, tabulate, entries_of, heads_with_entry, bytes_with_entry, heads_with_value, bytes_with_value, store_entry, store_value}
use Rattle.soundness.specs.Sound.{all_below, sound_entry, large_enough, sound_table, sound_marks}
use Rattle.recipients.specs.Recipients.{bit_set, test_bit, recipient_set}
use Rattle.hello.specs.Hello.{hello_answer}
use Rattle.protocol.specs.Judge.{open_connection, local_create, local_write, judge_hello, judge_assignment, judge_update, judge_kind, judge_message, judge_create, judge_write, judge}
use Rattle.protocol.specs.Step.{ServerMemory, LentCall, execute, call_step, fresh_start}
use Rattle.protocol.specs.Copy.{copy_fresh_start}
use Rattle.protocol.specs.Run.{memory_after_run, after_start_and_calls, hello_call, StaysWithoutOwnUpdate}
use Rattle.protocol.specs.Taken.{message_call}
use Rattle.protocol.proofs.Computed.{stale, lent}
use Rattle.convergence.specs.Begin.{Begins}
use Rattle.convergence.specs.Demand.{CopyHoldsServerEntries}
use Rattle.delivery.specs.Delivery.{heading_bytes, with_heading, message_step, deliver_at_most, deliver, calls_at_most, calls_of}
use Rattle.delivery.specs.Sent.{sent_by_calls, addressed_to, behind_headings}
use Rattle.delivery.specs.Demand.{Item, single, delivery, memory_after_items, sent_by_items, calls_of_items, sent_since}
use Rattle.delivery.proofs.Theorem.{deliveries_demand_3}

-- client 0 and client 1 are connected; `a` is created locally; client 0 says hello and updates `a`; client 1 says hello between two keep alives,
-- and a bad byte ends its delivery; client 0 asks for `b` and updates `a`, and is told 12 for one more update; `a` is written locally
abbrev items : List Item
items =
    single (lent (open_connection 0)) ∷ single (lent (open_connection 1)) ∷ single (lent (local_create (0x61 ∷ []) 0 (1 ∷ [])))
    ∷ delivery 0 (1 ∷ 2 ∷ 0 ∷ 0x11 ∷ 0 ∷ 0 ∷ 0 ∷ 2 ∷ 0 ∷ []) (replicate 40 7) ∷ delivery 1 (0 ∷ 1 ∷ 2 ∷ 0 ∷ 0 ∷ 7 ∷ 0 ∷ []) (replicate 40 7)
    ∷ delivery 0 (0x10 ∷ 0 ∷ 1 ∷ 0x62 ∷ 0 ∷ 255 ∷ 255 ∷ 0 ∷ 9 ∷ 1 ∷ 0x11 ∷ 0 ∷ 0 ∷ 0 ∷ 3 ∷ 1 ∷ 0x11 ∷ 0 ∷ 0 ∷ 0 ∷ 4 ∷ 0 ∷ []) (replicate 39 7)
    ∷ single (lent (local_write 0 (0 ∷ []))) ∷ []

-- their calls, one by one, before client 1's hello and after it
abbrev before : List LentCall
before =
    lent (open_connection 0) ∷ lent (open_connection 1) ∷ lent (local_create (0x61 ∷ []) 0 (1 ∷ []))
    ∷ message_call 0 (1 ∷ 2 ∷ 0 ∷ 0x11 ∷ 0 ∷ 0 ∷ 0 ∷ 2 ∷ 0 ∷ []) (replicate 34 7) ∷ message_call 0 (0x11 ∷ 0 ∷ 0 ∷ 0 ∷ 2 ∷ 0 ∷ []) (replicate 17 7)
    ∷ message_call 1 (0 ∷ 1 ∷ 2 ∷ 0 ∷ 0 ∷ 7 ∷ 0 ∷ []) (replicate 34 7) ∷ []

abbrev after : List LentCall
after =
    message_call 1 (0 ∷ 7 ∷ 0 ∷ []) (replicate 17 7) ∷ message_call 1 (7 ∷ 0 ∷ []) (replicate 17 7)
    ∷ message_call 0 (0x10 ∷ 0 ∷ 1 ∷ 0x62 ∷ 0 ∷ 255 ∷ 255 ∷ 0 ∷ 9 ∷ 1 ∷ 0x11 ∷ 0 ∷ 0 ∷ 0 ∷ 3 ∷ 1 ∷ 0x11 ∷ 0 ∷ 0 ∷ 0 ∷ 4 ∷ 0 ∷ []) (replicate 33 7)
    ∷ message_call 0 (0x11 ∷ 0 ∷ 0 ∷ 0 ∷ 3 ∷ 1 ∷ 0x11 ∷ 0 ∷ 0 ∷ 0 ∷ 4 ∷ 0 ∷ []) (replicate 17 7) ∷ message_call 0 (0x11 ∷ 0 ∷ 0 ∷ 0 ∷ 4 ∷ 0 ∷ []) (replicate 5 7)
    ∷ lent (local_write 0 (0 ∷ [])) ∷ []

abbrev greeting : LentCall
greeting = hello_call 1 (0 ∷ 7 ∷ 0 ∷ []) (replicate 34 7)

abbrev fresh : ServerMemory
fresh = (fresh_start 2 stale).memory

abbrev stale_copy : TableMemory
stale_copy = record { heads = replicate 8 3; bytes = replicate 640 255; count = 5 }

record ComputedRun : Type 0 where
  -- the hypotheses
  started : (fresh_start 2 stale).number ≡ 0
  calls : calls_of_items 2 fresh items ≡ before ++ (greeting ∷ after)
  accepted : (call_step 2 (after_start_and_calls 2 stale before) greeting).number ≡ 0
  stays : StaysWithoutOwnUpdate 2 (call_step 2 (after_start_and_calls 2 stale before) greeting).memory 1 after
  copy_started : (copy_fresh_start 2 stale_copy).number ≡ 0
  -- what is addressed to client 1 from its hello on: `a`, hello complete, `b`, the update, the local write
  bytes_addressed : addressed_to 1 (sent_since 2 fresh before items) ≡
      (0x10 ∷ 0 ∷ 1 ∷ 0x61 ∷ 0 ∷ 0 ∷ 0 ∷ 0 ∷ 2 ∷ 0 ∷ 3 ∷ 0x10 ∷ 0 ∷ 1 ∷ 0x62 ∷ 0 ∷ 0 ∷ 1 ∷ 0 ∷ 1 ∷ 1 ∷ 0x11 ∷ 0 ∷ 0 ∷ 0 ∷ 3 ∷ 1 ∷ 0x11 ∷ 0 ∷ 0 ∷ 0 ∷ 4 ∷ 0 ∷ [])
  entries_held : entries_of (memory_after_items 2 fresh items).table ≡
      (record { name = 0x61 ∷ []; type = 0; number = 4; value = 0 ∷ [] } ∷ record { name = 0x62 ∷ []; type = 0; number = 1; value = 1 ∷ [] } ∷ [])

computed_run : ComputedRun
unfolding pick decode16 encode16 overwrite_at bytes_equal passed_by after_first after_byte utf8_from is_utf8 parse_text known_type parse_boolean parse_element parse_value parse_lone equal_values assignment_bytes update_bytes revision_bytes parse_text_at parse_value_at parse_behind_id parse_after_name parse_assignment parse_behind_update_id parse_update check_name holder name_held names_differ entry_at tabulate entries_of heads_with_entry bytes_with_entry heads_with_value bytes_with_value store_entry store_value all_below sound_entry large_enough sound_table sound_marks bit_set test_bit recipient_set hello_answer judge_hello judge_assignment judge_update judge_kind judge_message judge_create judge_write judge execute call_step fresh_start memory_after_run heading_bytes with_heading message_step deliver_at_most deliver calls_at_most calls_of behind_headings addressed_to sent_by_calls memory_after_items sent_by_items calls_of_items StaysWithoutOwnUpdate copy_fresh_start
computed_run =
    record {
      started = refl;
      calls = refl;
      accepted = refl;
      stays = ((λ _. refl), ((λ _. refl), ((λ _. refl), ((λ _. refl), ((λ _. refl), ((λ _. refl), tt))))));
      copy_started = refl;
      bytes_addressed = refl;
      entries_held = refl;
    }

instance : CopyHoldsServerEntries 2 (copy_fresh_start 2 stale_copy).memory (addressed_to 1 (sent_since 2 fresh before items)) (memory_after_items 2 fresh items).table
instance =
    deliveries_demand_3 2 fresh (Begins.fresh stale computed_run.started) items before 1 (omega arith) (0 ∷ 7 ∷ 0 ∷ []) (replicate 34 7) after computed_run.calls computed_run.accepted
    computed_run.stays stale_copy computed_run.copy_started
