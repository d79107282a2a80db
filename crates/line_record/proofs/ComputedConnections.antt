-- Connections in turns, computed: what one connection's records leave of what the others hold, and which connection leaves.
use mathlib.Core.Path.{◌≡◌, refl}
use mathlib.Core.List.{List, [], ◌∷◌, ◌++◌}
use Prim.Native.Nat.{ℕ}
use lib.ListN.{drop}
use Rattle.field.specs.Choice.{pick}
use Rattle.field.specs.Octets.{decode16, encode16, overwrite_at, bytes_equal}
use Rattle.utf8.specs.Utf8.{after_first, after_byte, utf8_from, is_utf8}
use Rattle.text.specs.Text.{parse_text}
use Rattle.value.specs.Value.{known_type, parse_boolean, parse_element, parse_value, parse_lone}
use Rattle.message.specs.Layout.{assignment_bytes, revision_bytes}
use Rattle.reader.specs.Reader.{parse_text_at, parse_value_at}
use Rattle.message.specs.Reader.{parse_behind_id, parse_after_name, parse_assignment}
use Rattle.writer.specs.Writer.{check_name}
use Rattle.table.specs.Names.{holder, name_held, names_differ}
use Rattle.table.specs.Table.{entry_at, tabulate, entries_of, default_entry, heads_with_entry, bytes_with_entry, store_entry}
use Rattle.soundness.specs.Sound.{all_below, sound_entry, large_enough, sound_table, sound_marks}
use Rattle.recipients.specs.Recipients.{bit_set, recipient_set}
use Rattle.hello.specs.Hello.{hello_answer}
use Rattle.protocol.specs.Judge.{open_connection, leave, client_message, judge_hello, judge_assignment, judge_kind, judge_message, judge_create, judge}
use Rattle.protocol.specs.Step.{execute, call_step, fresh_start}
use Rattle.protocol.specs.Run.{memory_after_run}
use Rattle.protocol.proofs.Computed.{stale}
use Rattle.protocol.specs.Effect.{longest_output, with_output, without_output}
use Rattle.line_record.specs.Plant.{plant_message}
use Rattle.line_record.specs.Held.{plant_effect, message_effect, message_calls, is_closed, leaving, settle, gather}
use Rattle.line_record.specs.Record.{refused_record, known_kind, data_size, known_connection, record_of, next_record}
use Rattle.line_record.specs.Replay.{step_record, advance_on, run, replay}
use Rattle.line_record.proofs.Examples.{assign, a, part, report}

-- connections 0 and 1 open; two bytes of each one's hello come in, and one byte of an assignment of the plant's own code; then the rest of each
abbrev turns : List ℕ
turns =
    1 ∷ 0 ∷ 1 ∷ 1 ∷ 65 ∷ 0 ∷ 1 ∷ 2 ∷ 65 ∷ 1 ∷ 1 ∷ 2 ∷ 64 ∷ 16 ∷ 0x10 ∷ 64 ∷ 0 ∷ 0 ∷ 64 ∷ 1 ∷ 0 ∷ 72 ∷ 16 ∷ drop 1 assign

record ComputedConnections : Type 0 where
  -- "4 for an unknown kind or a connection byte above 16 in a data record, 1 for a cut record": the least and the greatest kind byte, a leaving that is cut, and the longest data
  refused : (next_record (0 ∷ 0 ∷ []) ∷ next_record (255 ∷ []) ∷ next_record (2 ∷ []) ∷ next_record (127 ∷ 16 ∷ []) ∷ next_record (127 ∷ 17 ∷ []) ∷ []) ≡
      (refused_record 4 ∷ refused_record 4 ∷ refused_record 1 ∷ refused_record 1 ∷ refused_record 4 ∷ [])
  -- "The run makes the fresh start itself": with no record at all
  no_records : report [] ≡ ((0 ∷ 0 ∷ []) ∷ (0 ∷ 0 ∷ []) ∷ [] ∷ [])
  no_entries : entries_of (replay 2 stale []).state.memory.table ≡ []
  -- "it gathers bytes for each connection": what the others hold stays
  in_turns : report turns ≡ ((0 ∷ 8 ∷ []) ∷ (2 ∷ 2 ∷ []) ∷ [] ∷ [])
  turns_entries : entries_of (replay 2 stale turns).state.memory.table ≡ (a 1 1 ∷ [])
  -- "drops that connection's held bytes": not those of another; "Leaving .. drops them too": nor does another's leaving
  another_leaves : (report (1 ∷ 0 ∷ (part ++ (2 ∷ 0 ∷ []))) ∷ report (1 ∷ 0 ∷ (part ++ (64 ∷ 0 ∷ 7 ∷ []))) ∷ []) ≡
      (((0 ∷ 4 ∷ []) ∷ (0 ∷ 1 ∷ []) ∷ (1 ∷ 2 ∷ []) ∷ []) ∷ ((0 ∷ 4 ∷ []) ∷ (0 ∷ 1 ∷ []) ∷ (1 ∷ 2 ∷ []) ∷ []) ∷ [])
  -- "A refused message other than 1 .. makes it leave": whatever its number, as here 3 for an assignment before the hello
  wrong_state_lem : (call_step 2 (replay 2 stale (1 ∷ 1 ∷ [])).state.memory (with_output 2 (client_message 1 assign))).number ≡ 3
  wrong_state_leaves : (replay 2 stale (1 ∷ 1 ∷ 73 ∷ 1 ∷ assign)).calls ≡
      (without_output (open_connection 1) ∷ with_output 2 (client_message 1 assign) ∷ without_output (leave 1) ∷ [])

computed_connections : ComputedConnections
unfolding pick decode16 encode16 overwrite_at bytes_equal after_first after_byte utf8_from is_utf8 parse_text known_type parse_boolean parse_element parse_value parse_lone assignment_bytes revision_bytes parse_text_at parse_value_at parse_behind_id parse_after_name parse_assignment check_name holder name_held names_differ entry_at tabulate entries_of default_entry heads_with_entry bytes_with_entry store_entry all_below sound_entry large_enough sound_table sound_marks bit_set recipient_set hello_answer judge_hello judge_assignment judge_kind judge_message judge_create judge execute call_step fresh_start memory_after_run plant_message plant_effect message_effect message_calls is_closed leaving settle gather known_kind data_size known_connection record_of next_record step_record advance_on run replay longest_output
computed_connections =
    record {
      refused = refl;
      no_records = refl;
      no_entries = refl;
      in_turns = refl;
      turns_entries = refl;
      another_leaves = refl;
      wrong_state_lem = refl;
      wrong_state_leaves = refl;
    }
