-- Records and replays, computed: what stands at the start of some bytes, and what whole records come to.
use mathlib.Core.Path.{◌≡◌, refl}
use mathlib.Core.List.{List, [], ◌∷◌, ◌++◌}
use mathlib.Core.Bool.{true, false}
use Prim.Native.Nat.{ℕ, zero, suc, ◌+◌, ◌-◌}
use lib.ListN.{length, take, drop, replicate}
use Rattle.field.specs.Choice.{pick}
use Rattle.field.specs.Octets.{decode16, encode16, overwrite_at, bytes_equal}
use Rattle.sequence.specs.SequenceNumber.{passed_by}
use Rattle.utf8.specs.Utf8.{after_first, after_byte, utf8_from, is_utf8}
use Rattle.text.specs.Text.{parse_text}
use Rattle.value.specs.Value.{known_type, parse_boolean, parse_element, count_fits, elements, parse_array, parse_value, parse_lone}
use Rattle.scalar.specs.Scalar.{equal_values}
use Rattle.message.specs.Layout.{assignment_bytes, update_bytes, revision_bytes}
use Rattle.reader.specs.Reader.{parse_text_at, parse_value_at}
use Rattle.message.specs.Reader.{parse_behind_id, parse_after_name, parse_assignment, parse_behind_update_id, parse_update}
use Rattle.writer.specs.Writer.{check_name}
use Rattle.table.specs.Names.{holder, name_held, names_differ}
use Rattle.table.specs.Table.{entry_at, tabulate, entries_of, default_entry, heads_with_entry, bytes_with_entry, heads_with_value, bytes_with_value, store_entry, store_value}
use Rattle.soundness.specs.Sound.{all_below, sound_entry, large_enough, sound_table, sound_marks}
use Rattle.recipients.specs.Recipients.{bit_set, recipient_set}
use Rattle.hello.specs.Hello.{hello_answer}
use Rattle.protocol.specs.Judge.{open_connection, leave, client_message, local_create, local_write, judge_hello, judge_assignment, judge_update, judge_kind, judge_message, judge_create, judge_write, judge}
use Rattle.protocol.specs.Step.{execute, call_step, fresh_start}
use Rattle.protocol.specs.Run.{memory_after_run}
use Rattle.protocol.proofs.Computed.{stale}
use Rattle.protocol.specs.Effect.{longest_output, with_output, without_output}
use Rattle.line_record.specs.Plant.{refused_message, asks, plant_message}
use Rattle.line_record.specs.Held.{plant_effect, message_effect, message_calls, is_closed, leaving, settle, gather, longest_incomplete}
use Rattle.line_record.specs.Record.{NextRecord, refused_record, found, opens, leaves, came, most_data_kind, max_arrived, known_kind, data_size, known_connection, record_of, next_record}
use Rattle.line_record.specs.Replay.{step_record, advance_on, run, replay, result_of}
use Rattle.line_record.proofs.Examples.{assign, update, a, part, report}

-- what stands at the start of so many bytes, one for each byte from a first one on
unfoldable each : (n byte : ℕ) → (ℕ → NextRecord) → List NextRecord
each zero byte f = []
each (suc n) byte f = f byte ∷ each n (suc byte) f

-- an array of two Strings whose first is as long as a value may be, behind the longest name, and one byte of the second's prefix
abbrev longest : List ℕ
longest = 0x10 ∷ 0 ∷ 64 ∷ (replicate 64 0x61 ++ (0x12 ∷ 255 ∷ 255 ∷ 0 ∷ 1 ∷ 2 ∷ 0 ∷ 253 ∷ (replicate 253 0x61 ++ (0 ∷ []))))

-- connections 0 and 1 open, and 0 says hello; the hello of 1 and an assignment of the plant's own code, which creates `a`, come in two parts, by turns;
-- connection 1 updates `a` and is alive; the plant's own code writes it, with an older number
abbrev shift : List ℕ
shift =
    1 ∷ 0 ∷ 66 ∷ 0 ∷ 1 ∷ 2 ∷ 0 ∷ 1 ∷ 1 ∷ 65 ∷ 1 ∷ 1 ∷ 2 ∷ 64 ∷ 16 ∷ 0x10 ∷ 64 ∷ 1 ∷ 0 ∷ 72 ∷ 16 ∷ (drop 1 assign ++ (70 ∷ 1 ∷ (update 2 0 ++ (0 ∷ 69 ∷ 16 ∷ update 1 1))))

-- the plant's own code creates `a`, once more, and updates it; then what is neither form, and an update; then it writes what is there, and another value
abbrev local : List ℕ
local =
    89 ∷ 16 ∷ (assign ++ (assign ++ (update 9 0 ++ (70 ∷ 16 ∷ 5 ∷ (update 9 0 ++ (75 ∷ 16 ∷ (update 9 1 ++ update 9 0)))))))

-- part of a message is held for connections 1 and 15 and the plant's own code, when 2 opens, 15 does again, 16 is said to leave, and 1 leaves;
-- then bytes come in for 15, and for 0, which is closed
abbrev parts : List ℕ
parts = part ++ (1 ∷ 15 ∷ 64 ∷ 15 ∷ 1 ∷ 64 ∷ 16 ∷ 0x10 ∷ 1 ∷ 2 ∷ 1 ∷ 15 ∷ 2 ∷ 16 ∷ 2 ∷ 1 ∷ 64 ∷ 15 ∷ 2 ∷ 64 ∷ 0 ∷ 1 ∷ [])

record Computed : Type 0 where
  -- "left to right 4 for an unknown kind or a connection byte above 16 in a data record, 1 for a cut record"
  refused : (next_record [] ∷ next_record (3 ∷ []) ∷ next_record (63 ∷ []) ∷ next_record (128 ∷ 0 ∷ []) ∷ next_record (1 ∷ []) ∷ next_record (64 ∷ []) ∷ next_record (64 ∷ 17 ∷ [])
      ∷ next_record (127 ∷ 17 ∷ []) ∷ []) ≡
      (refused_record 1 ∷ refused_record 4 ∷ refused_record 4 ∷ refused_record 4 ∷ refused_record 1 ∷ refused_record 1 ∷ refused_record 4 ∷ refused_record 4 ∷ [])
  -- every kind with data, cut by one byte
  cuts : each 64 64 (λ kind. next_record (kind ∷ 16 ∷ replicate (kind - 64) 5)) ≡ replicate 64 (refused_record 1)
  -- a connection byte is not looked at where no data comes
  records : (next_record (1 ∷ 200 ∷ []) ∷ next_record (2 ∷ 200 ∷ 7 ∷ []) ∷ next_record (64 ∷ 16 ∷ 5 ∷ 6 ∷ []) ∷ next_record (65 ∷ 0 ∷ 1 ∷ 2 ∷ []) ∷ []) ≡
      (found (opens 200) 2 ∷ found (leaves 200) 2 ∷ found (came 16 (5 ∷ [])) 3 ∷ found (came 0 (1 ∷ 2 ∷ [])) 4 ∷ [])
  -- every kind: "Kinds 64 to 127: a connection byte and kind minus 63 bytes that came in"
  kinds : each 256 0 (λ kind. next_record (kind ∷ 16 ∷ replicate 64 5)) ≡
      (refused_record 4 ∷ found (opens 16) 2 ∷ found (leaves 16) 2
      ∷ (replicate 61 (refused_record 4) ++ (each 64 1 (λ n. found (came 16 (replicate n 5)) (2 + n)) ++ replicate 128 (refused_record 4))))
  most_arrived : data_size most_data_kind ≡ max_arrived
  -- every connection byte
  connection_bytes : each 256 0 (λ c. next_record (64 ∷ c ∷ 5 ∷ [])) ≡ (each 17 0 (λ c. found (came c (5 ∷ [])) 3) ++ replicate 239 (refused_record 4))
  -- the plant's own code: "neither form", keep alive too; another type, another ID, an ID that is not held, a cut message
  plant_refused : (plant_message [] [] ∷ plant_message [] (1 ∷ 2 ∷ 0 ∷ []) ∷ plant_message [] (0 ∷ []) ∷ plant_message [] (0x10 ∷ 0 ∷ 1 ∷ 0x61 ∷ 9 ∷ [])
      ∷ plant_message [] (0x10 ∷ 0 ∷ 1 ∷ 0x61 ∷ 0 ∷ 0 ∷ 0 ∷ []) ∷ plant_message [] (update 9 1) ∷ plant_message [] (take 9 assign) ∷ []) ≡
      (refused_message 1 ∷ refused_message 4 ∷ refused_message 4 ∷ refused_message 7 ∷ refused_message 4 ∷ refused_message 6 ∷ refused_message 1 ∷ [])
  plant_asks : (plant_message [] (assign ++ (7 ∷ [])) ∷ plant_message [] (0x10 ∷ 0 ∷ 2 ∷ 0x61 ∷ 0x62 ∷ 2 ∷ 255 ∷ 255 ∷ 0 ∷ 9 ∷ 0 ∷ 1 ∷ 0x7A ∷ 7 ∷ [])
      ∷ plant_message (a 1 0 ∷ []) (update 9 1) ∷ plant_message (a 1 0 ∷ a 1 0 ∷ []) (0x11 ∷ 0 ∷ 1 ∷ 0 ∷ 9 ∷ 1 ∷ 7 ∷ []) ∷ []) ≡
      (asks (local_create (0x61 ∷ []) 0 (1 ∷ [])) 10 ∷ asks (local_create (0x61 ∷ 0x62 ∷ []) 2 (0 ∷ 1 ∷ 0x7A ∷ [])) 13
      ∷ asks (local_write 0 (1 ∷ [])) 6 ∷ asks (local_write 1 (1 ∷ [])) 6 ∷ [])
  -- a refused one takes nothing
  plant_takes : let e = plant_effect 2 (fresh_start 2 stale).memory (asks (local_write 0 (1 ∷ [])) 6) in (e.number ∷ e.taken ∷ []) ≡ (6 ∷ 0 ∷ [])
  -- no mark is looked at for it
  marks_looked_at : (is_closed (replicate 16 0) 15 ∷ is_closed (replicate 16 0) 16 ∷ []) ≡ (true ∷ false ∷ [])
  -- "and, for 0 to 15, makes it leave"
  leaves_after : (leaving 0 ∷ leaving 15 ∷ leaving 16 ∷ []) ≡ ((without_output (leave 0) ∷ []) ∷ (without_output (leave 15) ∷ []) ∷ [] ∷ [])
  -- "output for the longest hello answer": two assignments and hello complete
  output_is : length (longest_output 2) ≡ 657
  -- a message that answers 1 can be that long
  longest_is : length longest ≡ longest_incomplete
  longest_cut : plant_message [] longest ≡ refused_message 1
  -- a shift: both forms of the plant's own code, a message in two parts, and two messages at once
  shift_report : report shift ≡ ((0 ∷ 9 ∷ []) ∷ (2 ∷ 2 ∷ []) ∷ [] ∷ [])
  shift_entries : entries_of (result_of (replay 2 stale shift)).memory.table ≡ (a 3 1 ∷ [])
  shift_calls : (replay 2 stale shift).calls ≡
      (without_output (open_connection 0) ∷ with_output 2 (client_message 0 (1 ∷ 2 ∷ 0 ∷ [])) ∷ without_output (open_connection 1)
      ∷ with_output 2 (client_message 1 (1 ∷ 2 ∷ [])) ∷ with_output 2 (client_message 1 (1 ∷ 2 ∷ 0 ∷ [])) ∷ with_output 2 (local_create (0x61 ∷ []) 0 (1 ∷ []))
      ∷ with_output 2 (client_message 1 (update 2 0 ++ (0 ∷ []))) ∷ with_output 2 (client_message 1 (0 ∷ [])) ∷ with_output 2 (local_write 0 (1 ∷ [])) ∷ [])
  -- the rest of a message is still to come; a cut record gives nothing to its connection, nor does an unknown kind: "records before it stand"
  in_parts : (report part ∷ report (part ++ (65 ∷ 1 ∷ 0 ∷ [])) ∷ report (part ++ (3 ∷ 1 ∷ 0 ∷ [])) ∷ []) ≡
      (((0 ∷ 2 ∷ []) ∷ (0 ∷ 1 ∷ []) ∷ (1 ∷ 2 ∷ []) ∷ []) ∷ ((1 ∷ 2 ∷ []) ∷ (0 ∷ 1 ∷ []) ∷ (1 ∷ 2 ∷ []) ∷ []) ∷ ((4 ∷ 2 ∷ []) ∷ (0 ∷ 1 ∷ []) ∷ (1 ∷ 2 ∷ []) ∷ []) ∷ [])
  -- "a hello for another revision drops them too; data for a closed connection is dropped"
  turned_away : report (part ++ (65 ∷ 1 ∷ 7 ∷ 0 ∷ 64 ∷ 1 ∷ 0 ∷ [])) ≡ ((0 ∷ 4 ∷ []) ∷ (0 ∷ 0 ∷ []) ∷ [] ∷ [])
  turned_away_calls : (replay 2 stale (part ++ (65 ∷ 1 ∷ 7 ∷ 0 ∷ 64 ∷ 1 ∷ 0 ∷ []))).calls ≡
      (without_output (open_connection 1) ∷ with_output 2 (client_message 1 (1 ∷ 2 ∷ [])) ∷ with_output 2 (client_message 1 (1 ∷ 2 ∷ 7 ∷ 0 ∷ [])) ∷ [])
  -- "A refused message other than 1 drops that connection's held bytes and, for 0 to 15, makes it leave."
  refused_leaves : report (1 ∷ 1 ∷ 66 ∷ 1 ∷ 0 ∷ 7 ∷ 0 ∷ []) ≡ ((0 ∷ 2 ∷ []) ∷ (0 ∷ 0 ∷ []) ∷ [] ∷ [])
  refused_calls : (replay 2 stale (1 ∷ 1 ∷ 66 ∷ 1 ∷ 0 ∷ 7 ∷ 0 ∷ [])).calls ≡
      (without_output (open_connection 1) ∷ with_output 2 (client_message 1 (0 ∷ 7 ∷ 0 ∷ [])) ∷ with_output 2 (client_message 1 (7 ∷ 0 ∷ [])) ∷ without_output (leave 1) ∷ [])
  -- the plant's own code stays, and what is neither form is no call; what stands behind a refused message is not looked at, behind an ignored one it is
  local_calls : (replay 2 stale local).calls ≡
      (with_output 2 (local_create (0x61 ∷ []) 0 (1 ∷ [])) ∷ with_output 2 (local_create (0x61 ∷ []) 0 (1 ∷ []))
      ∷ with_output 2 (local_write 0 (1 ∷ [])) ∷ with_output 2 (local_write 0 (0 ∷ [])) ∷ [])
  local_entries : entries_of (replay 2 stale local).state.memory.table ≡ (a 2 0 ∷ [])
  -- "Leaving .. drops them too"; "A refused opening or leaving changes nothing."
  left : (report (part ++ (2 ∷ 1 ∷ 1 ∷ 1 ∷ [])) ∷ report (part ++ (1 ∷ 1 ∷ 1 ∷ 99 ∷ 2 ∷ 0 ∷ 2 ∷ 99 ∷ [])) ∷ []) ≡
      (((0 ∷ 4 ∷ []) ∷ (0 ∷ 1 ∷ []) ∷ [] ∷ []) ∷ ((0 ∷ 6 ∷ []) ∷ (0 ∷ 1 ∷ []) ∷ (1 ∷ 2 ∷ []) ∷ []) ∷ [])
  -- what the others hold stays; a refused opening or leaving is a call too
  parts_held : (replay 2 stale parts).state.held ≡ (replicate 15 [] ++ ((1 ∷ 2 ∷ []) ∷ (0x10 ∷ []) ∷ []))
  parts_calls : (replay 2 stale parts).calls ≡
      (without_output (open_connection 1) ∷ with_output 2 (client_message 1 (1 ∷ 2 ∷ [])) ∷ without_output (open_connection 15) ∷ with_output 2 (client_message 15 (1 ∷ []))
      ∷ without_output (open_connection 2) ∷ without_output (open_connection 15) ∷ without_output (leave 16) ∷ without_output (leave 1) ∷ with_output 2 (client_message 15 (1 ∷ 2 ∷ [])) ∷ [])
  -- "14 for short memory": nothing is run
  short_memory : ((replay 3 stale part).number ∷ (replay 3 stale part).records ∷ []) ≡ (14 ∷ 0 ∷ [])

computed : Computed
unfolding each pick decode16 encode16 overwrite_at bytes_equal passed_by after_first after_byte utf8_from is_utf8 parse_text known_type parse_boolean parse_element count_fits elements parse_array parse_value parse_lone equal_values assignment_bytes update_bytes revision_bytes parse_text_at parse_value_at parse_behind_id parse_after_name parse_assignment parse_behind_update_id parse_update check_name holder name_held names_differ entry_at tabulate entries_of default_entry heads_with_entry bytes_with_entry heads_with_value bytes_with_value store_entry store_value all_below sound_entry large_enough sound_table sound_marks bit_set recipient_set hello_answer judge_hello judge_assignment judge_update judge_kind judge_message judge_create judge_write judge execute call_step fresh_start memory_after_run plant_message plant_effect message_effect message_calls is_closed leaving settle gather known_kind data_size known_connection record_of next_record step_record advance_on run replay longest_output
computed =
    record {
      refused = refl;
      cuts = refl;
      records = refl;
      kinds = refl;
      most_arrived = refl;
      connection_bytes = refl;
      plant_refused = refl;
      plant_asks = refl;
      plant_takes = refl;
      marks_looked_at = refl;
      leaves_after = refl;
      output_is = refl;
      longest_is = refl;
      longest_cut = refl;
      shift_report = refl;
      shift_entries = refl;
      shift_calls = refl;
      in_parts = refl;
      turned_away = refl;
      turned_away_calls = refl;
      refused_leaves = refl;
      refused_calls = refl;
      local_calls = refl;
      local_entries = refl;
      left = refl;
      parts_held = refl;
      parts_calls = refl;
      short_memory = refl;
    }
