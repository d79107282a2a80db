-- Answers, computed: after the run of Computed, each answer that a call of the server half may give, and memory and output afterwards.
use Rattle.std.specs.Prelude.{Ok, Err}
use mathlib.Core.Path.{◌≡◌, refl}
use mathlib.Core.Bool.{true}
use mathlib.Core.List.{List, [], ◌∷◌, ◌++◌}
use lib.ListN.{replicate}
use Rattle.field.specs.Choice.{pick}
use Rattle.field.specs.Octets.{decode16, encode16, overwrite_at, bytes_equal}
use Rattle.sequence.specs.SequenceNumber.{passed_by}
use Rattle.utf8.specs.Utf8.{after_first, after_byte, utf8_from, is_utf8}
use Rattle.text.specs.Text.{parse_text}
use Rattle.value.specs.Value.{known_type, parse_boolean, parse_element, parse_value, parse_lone}
use Rattle.scalar.specs.Scalar.{scalar_of, equal_values}
use Rattle.scalar.specs.declared.Scalar.TheVariants.{Boolean, Neither}
use Rattle.field.specs.declared.Refusal.TheVariants.{UnknownId, Unsound}
use Rattle.message.specs.Layout.{assignment_bytes, update_bytes, revision_bytes}
use Rattle.reader.specs.Reader.{parse_text_at, parse_value_at}
use Rattle.message.specs.Reader.{parse_behind_id, parse_after_name, parse_assignment, parse_behind_update_id, parse_update}
use Rattle.writer.specs.Writer.{check_name}
use Rattle.table.specs.Names.{holder, name_held, names_differ}
use Rattle.table.specs.Table.{entry_at, tabulate, entries_of, default_entry, heads_with_entry, bytes_with_entry, heads_with_value, bytes_with_value, store_entry, store_value}
use Rattle.soundness.specs.Sound.{all_below, sound_entry, large_enough, sound_table, sound_marks}
use Rattle.recipients.specs.Recipients.{bit_set, test_bit, recipient_set}
use Rattle.hello.specs.Hello.{hello_answer}
use Rattle.protocol.specs.Judge.{open_connection, leave, client_message, local_create, local_write, read_entry, judge_hello, judge_assignment, judge_update, judge_kind, judge_message, judge_create, judge_write, judge}
use Rattle.protocol.specs.Step.{ServerMemory, LentCall, execute, call_step, fresh_start, read_scalar}
use Rattle.protocol.specs.Run.{memory_after_run, after_start_and_calls}
use Rattle.protocol.proofs.Computed.{stale, lent, before, greeting, after, answers, refused_with, nothing_sent}

-- a server that holds `a` and `b`, which is all there is room for, with connections 0 and 1 greeted
abbrev full : ServerMemory
full = after_start_and_calls 2 stale (before ++ (greeting ∷ after))

-- opening and leaving, where there are 16 connections; messages of a connection that is open; a hello for 3.0
abbrev marked : List LentCall
marked =
    lent (open_connection 15) ∷ lent (open_connection 16) ∷ lent (open_connection 0) ∷ lent (leave 14) ∷ lent (leave 16) ∷ lent (client_message 14 (0 ∷ []))
    ∷ lent (client_message 15 []) ∷ lent (client_message 15 (0 ∷ 0 ∷ [])) ∷ lent (client_message 15 (5 ∷ [])) ∷ lent (client_message 15 (0x10 ∷ []))
    ∷ lent (client_message 15 (0x11 ∷ [])) ∷ lent (client_message 15 (1 ∷ 2 ∷ [])) ∷ lent (client_message 15 (1 ∷ 3 ∷ 0 ∷ 9 ∷ []))
    ∷ lent (client_message 15 (0 ∷ [])) ∷ lent (open_connection 2) ∷ lent (open_connection 3) ∷ lent (leave 2) ∷ lent (leave 0) ∷ lent (client_message 0 (0 ∷ [])) ∷ []

-- messages of a greeted connection, and local calls, on a full table: an ID that is not 0xFFFF, an ID that is not held, a number that is
-- 32,768 ahead, a third name; a held name, text that is not UTF-8, an equal value, IDs at the count, and room for one byte less and for all
abbrev stored : List LentCall
stored =
    lent (client_message 1 (0x10 ∷ 0 ∷ 1 ∷ 0x61 ∷ 0 ∷ 0 ∷ 0 ∷ 0 ∷ 0 ∷ 1 ∷ [])) ∷ lent (client_message 1 (0x11 ∷ 0 ∷ 2 ∷ 0 ∷ 1 ∷ 1 ∷ []))
    ∷ lent (client_message 1 (0x11 ∷ 0 ∷ 0 ∷ 0x80 ∷ 3 ∷ 1 ∷ 0 ∷ [])) ∷ lent (client_message 1 (0x10 ∷ 0 ∷ 1 ∷ 0x63 ∷ 0 ∷ 255 ∷ 255 ∷ 0 ∷ 0 ∷ 1 ∷ []))
    ∷ lent (local_create (0x61 ∷ []) 0 (1 ∷ [])) ∷ lent (local_create (0xFF ∷ []) 9 []) ∷ lent (local_write 0 (1 ∷ [])) ∷ lent (local_write 2 (1 ∷ []))
    ∷ lent (local_write 0 (2 ∷ [])) ∷ lent (read_entry 1) ∷ lent (read_entry 2) ∷ record { call = local_write 0 (0 ∷ []); output = replicate 5 7 }
    ∷ record { call = local_write 0 (0 ∷ []); output = replicate 6 7 } ∷ []

record ComputedCalls : Type 0 where
  mark_answers : answers 2 full marked ≡
      (nothing_sent ∷ refused_with 2 ∷ refused_with 3 ∷ refused_with 3 ∷ refused_with 2 ∷ refused_with 3
      ∷ refused_with 1 ∷ (16 ∷ 1 ∷ 0 ∷ 0 ∷ []) ∷ refused_with 4 ∷ refused_with 3
      ∷ refused_with 3 ∷ refused_with 1 ∷ (0 ∷ 3 ∷ 3 ∷ 0x8000 ∷ [])
      ∷ refused_with 3 ∷ nothing_sent ∷ nothing_sent ∷ nothing_sent ∷ nothing_sent ∷ refused_with 3 ∷ [])
  marks_after : (memory_after_run 2 full marked).marks ≡ (0 ∷ 2 ∷ 0 ∷ 1 ∷ replicate 12 0 ++ (5 ∷ []))
  -- the revision that is spoken, told to a client that speaks another
  turned_away : (call_step 2 (memory_after_run 2 full (lent (open_connection 3) ∷ [])) (record { call = client_message 3 (1 ∷ 3 ∷ 0 ∷ []); output = replicate 4 7 })).output ≡
      (2 ∷ 2 ∷ 0 ∷ 7 ∷ [])
  store_answers : answers 2 full stored ≡
      (refused_with 5 ∷ refused_with 6 ∷ (16 ∷ 6 ∷ 0 ∷ 0 ∷ []) ∷ refused_with 11
      ∷ refused_with 13 ∷ refused_with 9 ∷ (16 ∷ 0 ∷ 0 ∷ 0 ∷ []) ∷ refused_with 6
      ∷ refused_with 8 ∷ nothing_sent ∷ refused_with 6 ∷ refused_with 12 ∷ (0 ∷ 0 ∷ 6 ∷ 3 ∷ []) ∷ [])
  -- output past what is sent stays as it was
  output_after : (call_step 2 full (record { call = local_write 0 (0 ∷ []); output = replicate 8 7 })).output ≡ (0x11 ∷ 0 ∷ 0 ∷ 0 ∷ 4 ∷ 0 ∷ 7 ∷ 7 ∷ [])
  output_refused : (call_step 2 full (record { call = local_write 0 (0 ∷ []); output = replicate 5 7 })).output ≡ replicate 5 7
  -- memory that is not sound, with marks that are not for every call but reading, and a fresh start
  marks_unsound : (call_step 2 (record { table = full.table; marks = stale.marks }) (lent (leave 1))).number ≡ 14
  marks_not_read : (call_step 2 (record { table = full.table; marks = [] }) (lent (read_entry 1))).number ≡ 0
  table_unsound : (call_step 2 stale (lent (read_entry 1))).number ≡ 14
  fresh_marks : (fresh_start 2 stale).memory.marks ≡ replicate 16 0 ++ (5 ∷ [])
  fresh_few_marks : (fresh_start 2 (record { table = stale.table; marks = replicate 15 0 })).number ≡ 14
  fresh_refused : (fresh_start 3 stale).memory.table.count ≡ 77
  -- reading
  boolean_read : read_scalar 2 full.table 0 ≡ Ok (Boolean true)
  text_read : read_scalar 2 full.table 1 ≡ Ok Neither
  read_at_count : read_scalar 2 full.table 2 ≡ Err UnknownId
  read_unsound : read_scalar 2 stale.table 0 ≡ Err Unsound

computed_calls : ComputedCalls
unfolding answers refused_with nothing_sent pick decode16 encode16 overwrite_at bytes_equal passed_by after_first after_byte utf8_from is_utf8 parse_text known_type parse_boolean parse_element parse_value parse_lone scalar_of equal_values assignment_bytes update_bytes revision_bytes parse_text_at parse_value_at parse_behind_id parse_after_name parse_assignment parse_behind_update_id parse_update check_name holder name_held names_differ entry_at tabulate entries_of default_entry heads_with_entry bytes_with_entry heads_with_value bytes_with_value store_entry store_value all_below sound_entry large_enough sound_table sound_marks bit_set test_bit recipient_set hello_answer judge_hello judge_assignment judge_update judge_kind judge_message judge_create judge_write judge execute call_step fresh_start read_scalar memory_after_run
computed_calls =
    record {
      mark_answers = refl;
      marks_after = refl;
      turned_away = refl;
      store_answers = refl;
      output_after = refl;
      output_refused = refl;
      marks_unsound = refl;
      marks_not_read = refl;
      table_unsound = refl;
      fresh_marks = refl;
      fresh_few_marks = refl;
      fresh_refused = refl;
      boolean_read = refl;
      text_read = refl;
      read_at_count = refl;
      read_unsound = refl;
    }
