-- A copy, computed: on memory that holds stale numbers, what each message answers, and the entries at the end.
use mathlib.Core.Path.{◌≡◌, refl}
use mathlib.Core.List.{List, [], ◌∷◌}
use Prim.Native.Nat.{ℕ}
use lib.ListN.{replicate}
use Rattle.field.specs.Choice.{pick}
use Rattle.field.specs.Octets.{decode16, encode16, overwrite_at, bytes_equal}
use Rattle.utf8.specs.Utf8.{after_first, after_byte, utf8_from, is_utf8}
use Rattle.text.specs.Text.{parse_text}
use Rattle.value.specs.Value.{known_type, parse_boolean, parse_element, parse_value, parse_lone}
use Rattle.reader.specs.Reader.{parse_text_at, parse_value_at}
use Rattle.message.specs.Reader.{parse_behind_id, parse_after_name, parse_assignment, parse_behind_update_id, parse_update}
use Rattle.table.specs.Names.{holder, name_held, names_differ}
use Rattle.table.specs.Table.{TableMemory, entry_at, tabulate, entries_of, default_entry, heads_with_entry, bytes_with_entry, heads_with_value, bytes_with_value, store_entry, store_value}
use Rattle.soundness.specs.Sound.{all_below, sound_entry, large_enough, sound_table}
use Rattle.protocol.specs.Copy.{CopyResult, judge_copy_assignment, judge_copy_update, judge_copy_kind, judge_copy, execute_copy, copy_message, copy_fresh_start}

-- lent memory for two entries, with whatever it held before
abbrev stale : TableMemory
stale = record { heads = replicate 8 3; bytes = replicate 640 255; count = 5 }

-- `a` with number 7; `a` once more (13); an ID that is not next (5); an update with an older number; an ID that is not held (6);
-- keep alive and hello complete, with a byte behind them; 1.0 is spoken, and the same cut short (1); a hello (4); nothing (1);
-- `b`, a String with number 9; a third entry (11)
abbrev messages : List (List ℕ)
messages =
    (0x10 ∷ 0 ∷ 1 ∷ 0x61 ∷ 0 ∷ 0 ∷ 0 ∷ 0 ∷ 7 ∷ 1 ∷ 9 ∷ []) ∷ (0x10 ∷ 0 ∷ 1 ∷ 0x61 ∷ 0 ∷ 0 ∷ 1 ∷ 0 ∷ 7 ∷ 1 ∷ []) ∷ (0x10 ∷ 0 ∷ 1 ∷ 0x62 ∷ 0 ∷ 0 ∷ 0 ∷ 0 ∷ 7 ∷ 1 ∷ [])
    ∷ (0x11 ∷ 0 ∷ 0 ∷ 0 ∷ 3 ∷ 0 ∷ 9 ∷ []) ∷ (0x11 ∷ 0 ∷ 1 ∷ 0 ∷ 3 ∷ 0 ∷ []) ∷ (0 ∷ 9 ∷ []) ∷ (3 ∷ 9 ∷ []) ∷ (2 ∷ 1 ∷ 0 ∷ 9 ∷ []) ∷ (2 ∷ 1 ∷ []) ∷ (1 ∷ 2 ∷ 0 ∷ []) ∷ []
    ∷ (0x10 ∷ 0 ∷ 1 ∷ 0x62 ∷ 2 ∷ 0 ∷ 1 ∷ 0 ∷ 9 ∷ 0 ∷ 0 ∷ []) ∷ (0x10 ∷ 0 ∷ 1 ∷ 0x63 ∷ 0 ∷ 0 ∷ 2 ∷ 0 ∷ 1 ∷ 1 ∷ []) ∷ []

-- an answer: its number, taken and revision
abbrev answer_of : CopyResult → List ℕ
answer_of r = r.number ∷ r.taken ∷ r.revision ∷ []

answers : TableMemory → List (List ℕ) → List (List ℕ)
answers m [] = []
answers m (message ∷ rest) = answer_of (copy_message 2 m message) ∷ answers (copy_message 2 m message).memory rest

after_all : TableMemory → List (List ℕ) → TableMemory
after_all m [] = m
after_all m (message ∷ rest) = after_all (copy_message 2 m message).memory rest

refused_with : ℕ → List ℕ
refused_with number = number ∷ 0 ∷ 0 ∷ []

record ComputedCopy : Type 0 where
  started : copy_fresh_start 2 stale ≡ record { number = 0; memory = record { heads = replicate 8 3; bytes = replicate 640 255; count = 0 } }
  too_small : copy_fresh_start 3 stale ≡ record { number = 14; memory = stale }
  not_sound : answer_of (copy_message 2 stale (0 ∷ [])) ≡ refused_with 14
  answered : answers (copy_fresh_start 2 stale).memory messages ≡
      ((0 ∷ 10 ∷ 0 ∷ []) ∷ refused_with 13 ∷ refused_with 5 ∷ (0 ∷ 6 ∷ 0 ∷ []) ∷ refused_with 6 ∷ (16 ∷ 1 ∷ 0 ∷ []) ∷ (16 ∷ 1 ∷ 0 ∷ [])
      ∷ (16 ∷ 3 ∷ 0x0100 ∷ []) ∷ refused_with 1 ∷ refused_with 4 ∷ refused_with 1 ∷ (0 ∷ 11 ∷ 0 ∷ []) ∷ refused_with 11 ∷ [])
  held : entries_of (after_all (copy_fresh_start 2 stale).memory messages) ≡
      (record { name = 0x61 ∷ []; type = 0; number = 3; value = 0 ∷ [] } ∷ record { name = 0x62 ∷ []; type = 2; number = 9; value = 0 ∷ 0 ∷ [] } ∷ [])

computed_copy : ComputedCopy
unfolding answers after_all refused_with pick decode16 encode16 overwrite_at bytes_equal after_first after_byte utf8_from is_utf8 parse_text known_type parse_boolean parse_element parse_value parse_lone parse_text_at parse_value_at parse_behind_id parse_after_name parse_assignment parse_behind_update_id parse_update holder name_held names_differ entry_at tabulate entries_of default_entry heads_with_entry bytes_with_entry heads_with_value bytes_with_value store_entry store_value all_below sound_entry large_enough sound_table judge_copy_assignment judge_copy_update judge_copy_kind judge_copy execute_copy copy_message copy_fresh_start
computed_copy =
    record {
      started = refl;
      too_small = refl;
      not_sound = refl;
      answered = refl;
      held = refl;
    }
