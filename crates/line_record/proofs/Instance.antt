-- Demand 3 at a replay that meets its hypotheses, and what is sent in it, computed.
use mathlib.Core.Path.{◌≡◌, refl}
use mathlib.Core.List.{List, [], ◌∷◌, ◌++◌}
use Prim.Native.Nat.{ℕ}
use native.Mathlib.Omega.{arith}
use lib.ListN.{replicate}
use Rattle.field.specs.Choice.{pick}
use Rattle.field.specs.Octets.{decode16, encode16, overwrite_at, bytes_equal}
use Rattle.utf8.specs.Utf8.{after_first, after_byte, utf8_from, is_utf8}
use Rattle.text.specs.Text.{parse_text}
use Rattle.value.specs.Value.{known_type, parse_boolean, parse_element, parse_value, parse_lone}
use Rattle.scalar.specs.Scalar.{equal_values}
use Rattle.message.specs.Layout.{assignment_bytes, update_bytes, revision_bytes}
use Rattle.reader.specs.Reader.{parse_text_at, parse_value_at}
use Rattle.message.specs.Reader.{parse_behind_id, parse_after_name, parse_assignment, parse_behind_update_id, parse_update}
use Rattle.writer.specs.Writer.{check_name}
use Rattle.table.specs.Names.{holder, name_held, names_differ}
use Rattle.table.specs.Table.{TableMemory, entry_at, tabulate, entries_of, default_entry, heads_with_entry, bytes_with_entry, heads_with_value, bytes_with_value, store_entry, store_value}
use Rattle.soundness.specs.Sound.{all_below, sound_entry, large_enough, sound_table, sound_marks}
use Rattle.recipients.specs.Recipients.{bit_set, test_bit, recipient_set}
use Rattle.hello.specs.Hello.{hello_answer}
use Rattle.protocol.specs.Judge.{open_connection, local_create, local_write, judge_hello, judge_kind, judge_message, judge_create, judge_write, judge}
use Rattle.protocol.specs.Step.{LentCall, execute, call_step, fresh_start}
use Rattle.protocol.specs.Copy.{copy_fresh_start}
use Rattle.protocol.specs.Run.{memory_after_run, after_start_and_calls, addressed_by_call, addressed_bytes, hello_call, StaysWithoutOwnUpdate}
use Rattle.protocol.proofs.Computed.{stale, lent}
use Rattle.convergence.specs.Demand.{CopyHoldsServerEntries}
use Rattle.protocol.specs.Effect.{longest_output, with_output, without_output}
use Rattle.line_record.specs.Plant.{plant_message}
use Rattle.line_record.specs.Held.{plant_effect, message_effect, message_calls, is_closed, leaving, settle, gather}
use Rattle.line_record.specs.Record.{known_kind, data_size, known_connection, record_of, next_record}
use Rattle.line_record.specs.Replay.{step_record, advance_on, run, replay}
use Rattle.line_record.proofs.Examples.{assign, update, a}
use Rattle.line_record.proofs.Theorem.{replay_demand_3}

-- connection 1 opens and says hello; the plant's own code creates `a` and writes it
abbrev recorded : List ℕ
recorded = 1 ∷ 1 ∷ 66 ∷ 1 ∷ 1 ∷ 2 ∷ 0 ∷ 73 ∷ 16 ∷ (assign ++ (69 ∷ 16 ∷ update 9 0))

-- behind the replay `a` is written once more
abbrev more : List LentCall
more = lent (local_write 0 (1 ∷ [])) ∷ []

-- the calls before the hello and after it
abbrev before : List LentCall
before = without_output (open_connection 1) ∷ []

abbrev after : List LentCall
after = with_output 2 (local_create (0x61 ∷ []) 0 (1 ∷ [])) ∷ with_output 2 (local_write 0 (0 ∷ [])) ∷ more

abbrev greeting : LentCall
greeting = hello_call 1 [] (longest_output 2)

abbrev stale_copy : TableMemory
stale_copy = record { heads = replicate 8 3; bytes = replicate 640 255; count = 5 }

record ComputedReplay : Type 0 where
  -- the hypotheses
  started : (fresh_start 2 stale).number ≡ 0
  calls : (replay 2 stale recorded).calls ++ more ≡ before ++ (greeting ∷ after)
  accepted : (call_step 2 (after_start_and_calls 2 stale before) greeting).number ≡ 0
  stays : StaysWithoutOwnUpdate 2 (call_step 2 (after_start_and_calls 2 stale before) greeting).memory 1 after
  copy_started : (copy_fresh_start 2 stale_copy).number ≡ 0
  -- what is addressed to client 1 from its hello on: hello complete, `a`, and both writes
  bytes_addressed : addressed_bytes 2 (after_start_and_calls 2 stale before) 1 (greeting ∷ after) ≡
      (3 ∷ 0x10 ∷ 0 ∷ 1 ∷ 0x61 ∷ 0 ∷ 0 ∷ 0 ∷ 0 ∷ 1 ∷ 1 ∷ 0x11 ∷ 0 ∷ 0 ∷ 0 ∷ 2 ∷ 0 ∷ 0x11 ∷ 0 ∷ 0 ∷ 0 ∷ 3 ∷ 1 ∷ [])
  entries_held : entries_of (memory_after_run 2 (replay 2 stale recorded).state.memory more).table ≡ (a 3 1 ∷ [])

computed_replay : ComputedReplay
unfolding pick decode16 encode16 overwrite_at bytes_equal after_first after_byte utf8_from is_utf8 parse_text known_type parse_boolean parse_element parse_value parse_lone equal_values assignment_bytes update_bytes revision_bytes parse_text_at parse_value_at parse_behind_id parse_after_name parse_assignment parse_behind_update_id parse_update check_name holder name_held names_differ entry_at tabulate entries_of default_entry heads_with_entry bytes_with_entry heads_with_value bytes_with_value store_entry store_value all_below sound_entry large_enough sound_table sound_marks bit_set test_bit recipient_set hello_answer judge_hello judge_kind judge_message judge_create judge_write judge execute call_step fresh_start memory_after_run addressed_by_call addressed_bytes StaysWithoutOwnUpdate copy_fresh_start plant_message plant_effect message_effect message_calls is_closed leaving settle gather known_kind data_size known_connection record_of next_record step_record advance_on run replay longest_output
computed_replay =
    record {
      started = refl;
      calls = refl;
      accepted = refl;
      stays = ((λ _. refl), ((λ _. refl), ((λ _. refl), tt)));
      copy_started = refl;
      bytes_addressed = refl;
      entries_held = refl;
    }

instance : CopyHoldsServerEntries 2 (copy_fresh_start 2 stale_copy).memory (addressed_bytes 2 (after_start_and_calls 2 stale before) 1 (greeting ∷ after))
    (memory_after_run 2 (replay 2 stale recorded).state.memory more).table
instance =
    replay_demand_3 2 stale computed_replay.started recorded more before 1 (omega arith) [] (longest_output 2) after computed_replay.calls computed_replay.accepted
    computed_replay.stays stale_copy computed_replay.copy_started
