-- What comes in for the plant's own code, computed: the order of its checks, and what a message that is done, ignored or refused does to what stands behind it.
use mathlib.Core.Path.{◌≡◌, refl}
use mathlib.Core.List.{List, [], ◌∷◌, ◌++◌}
use Prim.Native.Nat.{ℕ}
use lib.ListN.{drop}
use Rattle.field.specs.Choice.{pick}
use Rattle.field.specs.Octets.{decode16, encode16, overwrite_at, bytes_equal}
use Rattle.utf8.specs.Utf8.{after_first, after_byte, utf8_from, is_utf8}
use Rattle.text.specs.Text.{parse_text}
use Rattle.value.specs.Value.{known_type, parse_boolean, parse_element, parse_value, parse_lone}
use Rattle.scalar.specs.Scalar.{equal_values}
use Rattle.message.specs.Layout.{assignment_bytes, update_bytes}
use Rattle.reader.specs.Reader.{parse_text_at, parse_value_at}
use Rattle.message.specs.Reader.{parse_behind_id, parse_after_name, parse_assignment, parse_behind_update_id, parse_update}
use Rattle.writer.specs.Writer.{check_name}
use Rattle.table.specs.Names.{holder, name_held, names_differ}
use Rattle.table.specs.Table.{entry_at, tabulate, entries_of, default_entry, heads_with_entry, bytes_with_entry, heads_with_value, bytes_with_value, store_entry, store_value}
use Rattle.soundness.specs.Sound.{all_below, sound_entry, large_enough, sound_table, sound_marks}
use Rattle.recipients.specs.Recipients.{recipient_set}
use Rattle.protocol.specs.Judge.{leave, local_create, local_write, judge_create, judge_write, judge}
use Rattle.protocol.specs.Step.{LentCall, execute, call_step, fresh_start}
use Rattle.protocol.specs.Run.{memory_after_run}
use Rattle.protocol.proofs.Computed.{stale}
use Rattle.protocol.specs.Effect.{longest_output, with_output, without_output}
use Rattle.line_record.specs.Plant.{refused_message, plant_message}
use Rattle.line_record.specs.Held.{plant_effect, message_effect, message_calls, is_closed, leaving, settle, gather}
use Rattle.line_record.specs.Record.{known_kind, data_size, known_connection, record_of, next_record}
use Rattle.line_record.specs.Replay.{step_record, advance_on, run, replay}
use Rattle.line_record.proofs.Examples.{assignment_of, entry_of, assign, update, a, report}

-- calls of the plant's own code
abbrev create : (name : ℕ) → LentCall
create name = with_output 2 (local_create (name ∷ []) 0 (1 ∷ []))

abbrev write : (value : ℕ) → LentCall
write value = with_output 2 (local_write 0 (value ∷ []))

-- an assignment of `a` and a write of it come at once
abbrev created_and_written : List ℕ
created_and_written = 79 ∷ 16 ∷ (assign ++ update 9 0)

-- `a` is created; it is written twice at once, at first with the value that it has
abbrev equal_write : List ℕ
equal_write = 73 ∷ 16 ∷ (assign ++ (75 ∷ 16 ∷ (update 9 1 ++ update 9 0)))

-- `a` is created; then `a` and `b` come at once
abbrev name_twice : List ℕ
name_twice = 73 ∷ 16 ∷ (assign ++ (83 ∷ 16 ∷ (assign ++ assignment_of 0x62)))

-- `a` and `b` are created; then `c` and a write of `a` come at once
abbrev third_name : List ℕ
third_name = 73 ∷ 16 ∷ (assign ++ (73 ∷ 16 ∷ (assignment_of 0x62 ++ (79 ∷ 16 ∷ (assignment_of 0x63 ++ update 9 0)))))

-- an assignment with ID 0, and one of `a` behind it
abbrev other_id : List ℕ
other_id = 83 ∷ 16 ∷ 0x10 ∷ 0 ∷ 1 ∷ 0x61 ∷ 0 ∷ 0 ∷ 0 ∷ 0 ∷ 9 ∷ 1 ∷ assign

-- a leaving of connection 16 between two parts of a message
abbrev plant_leaves : List ℕ
plant_leaves = 64 ∷ 16 ∷ 0x10 ∷ 2 ∷ 16 ∷ 72 ∷ 16 ∷ drop 1 assign

record ComputedPlant : Type 0 where
  -- "with 4 at its kind or ID": a keep alive and the kinds that a server sends are neither form
  neither_form : (plant_message [] (0 ∷ []) ∷ plant_message [] (2 ∷ []) ∷ plant_message [] (3 ∷ []) ∷ []) ≡ (refused_message 4 ∷ refused_message 4 ∷ refused_message 4 ∷ [])
  -- in order: a type comes before the ID (7), an ID before what is cut behind it (4), and an update's ID before its number (6)
  in_order : (plant_message [] (0x10 ∷ 0 ∷ 1 ∷ 0x61 ∷ 5 ∷ []) ∷ plant_message [] (0x10 ∷ 0 ∷ 1 ∷ 0x61 ∷ 0 ∷ 0 ∷ 0 ∷ []) ∷ plant_message [] (0x11 ∷ 0 ∷ 0 ∷ []) ∷ []) ≡
      (refused_message 7 ∷ refused_message 4 ∷ refused_message 6 ∷ [])
  -- "makes the call on them .. until none are left": what stands behind a message that is done comes next
  done_goes_on : (replay 2 stale created_and_written).calls ≡ (create 0x61 ∷ write 0 ∷ [])
  done_entries : entries_of (replay 2 stale created_and_written).state.memory.table ≡ (a 2 0 ∷ [])
  -- and what stands behind a write of an equal value, which is ignored (16)
  equal_goes_on : (replay 2 stale equal_write).calls ≡ (create 0x61 ∷ write 1 ∷ write 0 ∷ [])
  equal_entries : entries_of (replay 2 stale equal_write).state.memory.table ≡ (a 2 0 ∷ [])
  -- "A refused message other than 1 drops that connection's held bytes": a name that is there (13), what stands behind it too
  taken_drops : (replay 2 stale name_twice).calls ≡ (create 0x61 ∷ create 0x61 ∷ [])
  taken_entries : entries_of (replay 2 stale name_twice).state.memory.table ≡ (a 1 1 ∷ [])
  -- a table that is full (11)
  full_drops : (replay 2 stale third_name).calls ≡ (create 0x61 ∷ create 0x62 ∷ create 0x63 ∷ [])
  full_entries : entries_of (replay 2 stale third_name).state.memory.table ≡ (a 1 1 ∷ entry_of 0x62 1 1 ∷ [])
  -- "A local message that is neither form is a refused message, with 4 at its kind or ID: its bytes are dropped": what stands behind it too
  kind_drops : (replay 2 stale (74 ∷ 16 ∷ 0 ∷ assign)).calls ≡ []
  kind_entries : entries_of (replay 2 stale (74 ∷ 16 ∷ 0 ∷ assign)).state.memory.table ≡ []
  id_drops : (replay 2 stale other_id).calls ≡ []
  id_entries : entries_of (replay 2 stale other_id).state.memory.table ≡ []
  -- "and the run goes on"
  goes_on : report other_id ≡ ((0 ∷ 1 ∷ []) ∷ (0 ∷ 0 ∷ []) ∷ [] ∷ [])
  -- "A refused opening or leaving changes nothing.": the plant's own code does not leave
  stays : (replay 2 stale plant_leaves).calls ≡ (without_output (leave 16) ∷ create 0x61 ∷ [])
  stays_entries : entries_of (replay 2 stale plant_leaves).state.memory.table ≡ (a 1 1 ∷ [])

computed_plant : ComputedPlant
unfolding pick decode16 encode16 overwrite_at bytes_equal after_first after_byte utf8_from is_utf8 parse_text known_type parse_boolean parse_element parse_value parse_lone equal_values assignment_bytes update_bytes parse_text_at parse_value_at parse_behind_id parse_after_name parse_assignment parse_behind_update_id parse_update check_name holder name_held names_differ entry_at tabulate entries_of default_entry heads_with_entry bytes_with_entry heads_with_value bytes_with_value store_entry store_value all_below sound_entry large_enough sound_table sound_marks recipient_set judge_create judge_write judge execute call_step fresh_start memory_after_run plant_message plant_effect message_effect message_calls is_closed leaving settle gather known_kind data_size known_connection record_of next_record step_record advance_on run replay longest_output
computed_plant =
    record {
      neither_form = refl;
      in_order = refl;
      done_goes_on = refl;
      done_entries = refl;
      equal_goes_on = refl;
      equal_entries = refl;
      taken_drops = refl;
      taken_entries = refl;
      full_drops = refl;
      full_entries = refl;
      kind_drops = refl;
      kind_entries = refl;
      id_drops = refl;
      id_entries = refl;
      goes_on = refl;
      stays = refl;
      stays_entries = refl;
    }
