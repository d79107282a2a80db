-- Deliveries, computed: what each reports, the bytes that it writes, and the calls that it stands for.
use mathlib.Core.Path.{◌≡◌, refl}
use mathlib.Core.List.{List, [], ◌∷◌, ◌++◌}
use Prim.Native.Nat.{ℕ}
use lib.ListN.{take, replicate}
use Rattle.field.specs.Choice.{pick}
use Rattle.field.specs.Octets.{decode16, encode16, overwrite_at, bytes_equal}
use Rattle.field.specs.Place.{reported_place}
use Rattle.sequence.specs.SequenceNumber.{passed_by}
use Rattle.utf8.specs.Utf8.{after_first, after_byte, utf8_from, is_utf8}
use Rattle.text.specs.Text.{parse_text}
use Rattle.value.specs.Value.{known_type, parse_boolean, parse_element, parse_value, parse_lone}
use Rattle.message.specs.Layout.{assignment_bytes, update_bytes, revision_bytes}
use Rattle.reader.specs.Reader.{parse_text_at, parse_value_at}
use Rattle.message.specs.Reader.{parse_behind_id, parse_after_name, parse_assignment, parse_behind_update_id, parse_update}
use Rattle.writer.specs.Writer.{check_name}
use Rattle.table.specs.Names.{holder, name_held, names_differ}
use Rattle.table.specs.Table.{entry_at, tabulate, entries_of, heads_with_entry, bytes_with_entry, heads_with_value, bytes_with_value, store_entry, store_value}
use Rattle.soundness.specs.Sound.{all_below, sound_entry, large_enough, sound_table, sound_marks}
use Rattle.recipients.specs.Recipients.{bit_set, recipient_set}
use Rattle.hello.specs.Hello.{hello_answer}
use Rattle.protocol.specs.Judge.{judge_hello, judge_assignment, judge_update, judge_kind, judge_message, judge_create, judge}
use Rattle.protocol.specs.Step.{ServerMemory, execute, call_step, fresh_start}
use Rattle.protocol.specs.Place.{call_place}
use Rattle.protocol.specs.Run.{memory_after_run, after_start_and_calls}
use Rattle.protocol.specs.Taken.{message_call}
use Rattle.protocol.proofs.Computed.{stale, before}
use Rattle.delivery.specs.Delivery.{heading_bytes, with_heading, message_step, message_with_place, deliver_at_most, deliver, calls_at_most, calls_of}
use Rattle.delivery.specs.Sent.{behind_headings}

-- a server with room for two entries that holds `a`; connection 0 is greeted, connection 1 open, and there is a mark behind the 16
abbrev server : ServerMemory
server = after_start_and_calls 2 stale before

-- number, why it ended, messages, taken, written, place
abbrev report : ServerMemory → (c : ℕ) (input out : List ℕ) → List ℕ
report mem c input out =
    let d = deliver 2 mem c input out in
    d.number ∷ d.ended ∷ d.messages ∷ d.taken ∷ d.written ∷ d.place ∷ []

abbrev refused_with : ℕ → List ℕ
refused_with number = number ∷ 0 ∷ 0 ∷ 0 ∷ 0 ∷ 0 ∷ []

-- a hello, an assignment of `b`, an update of `a`, an assignment of an unknown type, at place 4, and one whose name, at place 3, is not UTF-8;
-- 0 is keep alive
abbrev greet : List ℕ
greet = 1 ∷ 2 ∷ 0 ∷ []

abbrev assign : List ℕ
assign = 0x10 ∷ 0 ∷ 1 ∷ 0x62 ∷ 2 ∷ 255 ∷ 255 ∷ 0 ∷ 9 ∷ 0 ∷ 1 ∷ 0x7A ∷ []

abbrev update : List ℕ
update = 0x11 ∷ 0 ∷ 0 ∷ 0 ∷ 2 ∷ 0 ∷ []

abbrev bad_type : List ℕ
bad_type = 0x10 ∷ 0 ∷ 1 ∷ 0x62 ∷ 9 ∷ []

abbrev bad_name : List ℕ
bad_name = 0x10 ∷ 0 ∷ 1 ∷ 255 ∷ []

-- all goes through; the second message is refused; the second and the third are ignored
abbrev four : List ℕ
four = greet ++ (assign ++ (update ++ (0 ∷ [])))

abbrev second : List ℕ
second = update ++ (bad_type ++ (0 ∷ []))

abbrev twice : List ℕ
twice = update ++ (update ++ (0 ∷ []))

record Computed : Type 0 where
  -- "recipients (2 bytes) and length (4 bytes, big endian)", and what stands behind headings
  heading : heading_bytes 0x0102 0x03040506 ≡ (1 ∷ 2 ∷ 3 ∷ 4 ∷ 5 ∷ 6 ∷ [])
  behind : behind_headings 64 (0 ∷ 3 ∷ 0 ∷ 0 ∷ 0 ∷ 2 ∷ 8 ∷ 9 ∷ 1 ∷ 0 ∷ 0 ∷ 0 ∷ 0 ∷ 1 ∷ 7 ∷ []) ≡
      (record { recipients = 3; bytes = 8 ∷ 9 ∷ [] } ∷ record { recipients = 256; bytes = 7 ∷ [] } ∷ [])
  -- "judged in order": the hello's answer to 1, the assignment to 0 and 1, the update to 0, nothing for keep alive
  in_order : report server 1 four (replicate 50 7) ≡ (0 ∷ 1 ∷ 4 ∷ 22 ∷ 47 ∷ 0 ∷ [])
  in_order_output : (deliver 2 server 1 four (replicate 50 7)).output ≡
      (0 ∷ 2 ∷ 0 ∷ 0 ∷ 0 ∷ 11 ∷ 0x10 ∷ 0 ∷ 1 ∷ 0x61 ∷ 0 ∷ 0 ∷ 0 ∷ 0 ∷ 1 ∷ 1 ∷ 3 ∷ 0 ∷ 3 ∷ 0 ∷ 0 ∷ 0 ∷ 12 ∷ 0x10 ∷ 0 ∷ 1 ∷ 0x62 ∷ 2 ∷ 0 ∷ 1 ∷ 0 ∷ 1 ∷ 0 ∷ 1 ∷ 0x7A
      ∷ 0 ∷ 1 ∷ 0 ∷ 0 ∷ 0 ∷ 6 ∷ 0x11 ∷ 0 ∷ 0 ∷ 0 ∷ 2 ∷ 0 ∷ 7 ∷ 7 ∷ 7 ∷ [])
  in_order_entries : entries_of (deliver 2 server 1 four (replicate 50 7)).memory.table ≡
      (record { name = 0x61 ∷ []; type = 0; number = 2; value = 0 ∷ [] } ∷ record { name = 0x62 ∷ []; type = 2; number = 1; value = 0 ∷ 1 ∷ 0x7A ∷ [] } ∷ [])
  -- "each lent the output left after the previous message and this heading (none if under six bytes are left)"
  in_order_calls : calls_of 2 server 1 four (replicate 50 7) ≡
      (message_call 1 four (replicate 44 7) ∷ message_call 1 (assign ++ (update ++ (0 ∷ []))) (replicate 27 7) ∷ message_call 1 (update ++ (0 ∷ [])) (replicate 9 7)
      ∷ message_call 1 (0 ∷ []) [] ∷ [])
  -- "14, 2 and 3 for a closed connection come first, on an empty input too": no message is judged
  first_refusals : (report (record { table = stale.table; marks = server.marks }) 17 [] [] ∷ report (record { table = server.table; marks = [] }) 17 [] []
      ∷ report server 16 [] [] ∷ report server 17 [] [] ∷ report server 15 [] [] ∷ []) ≡
      (refused_with 14 ∷ refused_with 14 ∷ refused_with 2 ∷ refused_with 2 ∷ refused_with 3 ∷ [])
  first_with_message : (report stale 17 (0 ∷ []) [] ∷ report server 17 (0 ∷ []) [] ∷ report server 15 (0 ∷ []) [] ∷ []) ≡
      (refused_with 14 ∷ refused_with 2 ∷ refused_with 3 ∷ [])
  none_judged : (calls_of 2 stale 17 (0 ∷ []) [] ∷ calls_of 2 server 17 (0 ∷ []) [] ∷ calls_of 2 server 15 (0 ∷ []) [] ∷ []) ≡ ([] ∷ [] ∷ [] ∷ [])
  -- "The call ends at the first refusal", which is not counted and whose place is counted from its first byte; "what came before stands"
  refused : report server 0 second (replicate 30 7) ≡ (7 ∷ 0 ∷ 1 ∷ 6 ∷ 12 ∷ 4 ∷ [])
  refused_output : (deliver 2 server 0 second (replicate 30 7)).output ≡ (0 ∷ 0 ∷ 0 ∷ 0 ∷ 0 ∷ 6 ∷ 0x11 ∷ 0 ∷ 0 ∷ 0 ∷ 2 ∷ 0 ∷ replicate 18 7)
  refused_entries : entries_of (deliver 2 server 0 second (replicate 30 7)).memory.table ≡ (record { name = 0x61 ∷ []; type = 0; number = 2; value = 0 ∷ [] } ∷ [])
  refused_alone : message_with_place 2 server 0 (bad_type ++ (0 ∷ [])) [] ≡
      record { result = record { number = 7; taken = 0; sent = 0; recipients = 0; memory = server; output = [] }; place = 4 }
  -- "demand 3 counts each message judged": the refused one too, and none behind it
  refused_calls : calls_of 2 server 0 second (replicate 30 7) ≡ (message_call 0 second (replicate 24 7) ∷ message_call 0 (bad_type ++ (0 ∷ [])) (replicate 12 7) ∷ [])
  refused_marks : (deliver 2 server 0 second (replicate 30 7)).memory.marks ≡ server.marks
  -- an unknown kind, and a message that is not whole
  unknown_kind_lem : report server 0 (0 ∷ 7 ∷ 0 ∷ []) (replicate 30 7) ≡ (4 ∷ 0 ∷ 1 ∷ 1 ∷ 0 ∷ 0 ∷ [])
  cut : report server 0 (0 ∷ take 5 update) (replicate 30 7) ≡ (1 ∷ 0 ∷ 1 ∷ 1 ∷ 0 ∷ 0 ∷ [])
  -- "12 when heading and bytes together don't fit"
  just_fits : report server 0 update (replicate 12 7) ≡ (0 ∷ 1 ∷ 1 ∷ 6 ∷ 12 ∷ 0 ∷ [])
  one_byte_short : (report server 0 update (replicate 11 7) ∷ report server 1 four (replicate 34 7) ∷ report server 0 update (replicate 5 7) ∷ []) ≡
      (refused_with 12 ∷ (12 ∷ 0 ∷ 1 ∷ 3 ∷ 17 ∷ 0 ∷ []) ∷ refused_with 12 ∷ [])
  -- a message that is cut, and a name that is not UTF-8: room is looked at last
  room_last : (report server 0 (take 5 update) [] ∷ report server 0 bad_name [] ∷ []) ≡ (refused_with 1 ∷ (9 ∷ 0 ∷ 0 ∷ 0 ∷ 0 ∷ 3 ∷ []) ∷ [])
  -- "Ignored ones put nothing.": keep alive, and an update whose number is stored by then, with room for it and without
  ignored : (report server 0 twice (replicate 30 7) ∷ report server 0 twice (replicate 12 7) ∷ report server 1 (0 ∷ 0 ∷ []) [] ∷ []) ≡
      ((0 ∷ 1 ∷ 3 ∷ 13 ∷ 12 ∷ 0 ∷ []) ∷ (0 ∷ 1 ∷ 3 ∷ 13 ∷ 12 ∷ 0 ∷ []) ∷ (0 ∷ 1 ∷ 2 ∷ 2 ∷ 0 ∷ 0 ∷ []) ∷ [])
  -- a hello for another revision closes the connection: what stands behind it is refused with 3
  turned_away : (report server 1 (1 ∷ 3 ∷ 0 ∷ []) (replicate 30 7) ∷ report server 1 (1 ∷ 3 ∷ 0 ∷ 0 ∷ []) (replicate 30 7) ∷ []) ≡
      ((0 ∷ 1 ∷ 1 ∷ 3 ∷ 9 ∷ 0 ∷ []) ∷ (3 ∷ 0 ∷ 1 ∷ 3 ∷ 9 ∷ 0 ∷ []) ∷ [])
  -- "after 64 messages, or when the input is spent"; "An input spent is named before the 64."; what stands behind the 64 is not judged
  spent : (report server 0 [] (replicate 50 7) ∷ report server 1 (replicate 64 0) [] ∷ []) ≡ ((0 ∷ 1 ∷ 0 ∷ 0 ∷ 0 ∷ 0 ∷ []) ∷ (0 ∷ 1 ∷ 64 ∷ 64 ∷ 0 ∷ 0 ∷ []) ∷ [])
  most : (report server 1 (replicate 65 0) [] ∷ report server 1 (replicate 64 0 ++ (7 ∷ [])) [] ∷ []) ≡ ((0 ∷ 2 ∷ 64 ∷ 64 ∷ 0 ∷ 0 ∷ []) ∷ (0 ∷ 2 ∷ 64 ∷ 64 ∷ 0 ∷ 0 ∷ []) ∷ [])

computed : Computed
unfolding pick decode16 encode16 overwrite_at bytes_equal reported_place passed_by after_first after_byte utf8_from is_utf8 parse_text known_type parse_boolean parse_element parse_value parse_lone assignment_bytes update_bytes revision_bytes parse_text_at parse_value_at parse_behind_id parse_after_name parse_assignment parse_behind_update_id parse_update check_name holder name_held names_differ entry_at tabulate entries_of heads_with_entry bytes_with_entry heads_with_value bytes_with_value store_entry store_value all_below sound_entry large_enough sound_table sound_marks bit_set recipient_set hello_answer judge_hello judge_assignment judge_update judge_kind judge_message judge_create judge execute call_step call_place fresh_start memory_after_run heading_bytes with_heading message_step deliver_at_most deliver calls_at_most calls_of behind_headings
computed =
    record {
      heading = refl;
      behind = refl;
      in_order = refl;
      in_order_output = refl;
      in_order_entries = refl;
      in_order_calls = refl;
      first_refusals = refl;
      first_with_message = refl;
      none_judged = refl;
      refused = refl;
      refused_output = refl;
      refused_entries = refl;
      refused_alone = refl;
      refused_calls = refl;
      refused_marks = refl;
      unknown_kind_lem = refl;
      cut = refl;
      just_fits = refl;
      one_byte_short = refl;
      room_last = refl;
      ignored = refl;
      turned_away = refl;
      spent = refl;
      most = refl;
    }
