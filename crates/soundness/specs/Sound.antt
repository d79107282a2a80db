-- A sound table: "a count of 0 to 64, known types, names and values that obey this paper, and names that all differ byte for byte";
-- "connection marks are one of the three".
use Rattle.field.specs.Field.{Parsed}
use Rattle.std.specs.Prelude.{ℕ, zero, suc, ◌*◌, Bool, true, false, ◌&&◌, leb, List, length, nat_le, slice_index, Err, Ok}
use Rattle.utf8.specs.Utf8.{is_utf8}
use Rattle.value.specs.Value.{max_value_size, parse_lone}
use Rattle.message.specs.Layout.{max_name_length}
use Rattle.table.specs.Names.{names_differ}
use Rattle.table.specs.Table.{TableMemory, entry_size, head_size, head_field, name_length_field, value_length_field, entry_at, entries_of}

-- a test holds for each number below n
unfoldable pub all_below : ℕ → (ℕ → Bool) → Bool
all_below zero p = true
all_below (suc n) p = all_below n p && p n

-- a reader took what it was given
abbrev pub accepted : Parsed → Bool
accepted (Err fault) = false
accepted (Ok n) = true

-- entry i has a name and a value that obey the rules: the value fills its stored length, and so its type is known.
-- Every 16-bit number is a sequence number.
unfoldable pub sound_entry : List ℕ → List ℕ → ℕ → Bool
sound_entry heads bytes i =
    nat_le (head_field heads i name_length_field) max_name_length && nat_le (head_field heads i value_length_field) max_value_size
    && is_utf8 (entry_at heads bytes i).name && accepted (parse_lone (entry_at heads bytes i).type (entry_at heads bytes i).value)

-- not too small: "Too small means fewer than 64 heads, 20,480 bytes .."
unfoldable pub large_enough : ℕ → List ℕ → List ℕ → Bool
large_enough limit heads bytes = nat_le (head_size * limit) (length heads) && nat_le (entry_size * limit) (length bytes)

-- the table, with a limit of entries
unfoldable pub sound_table : ℕ → TableMemory → Bool
sound_table limit m =
    large_enough limit m.heads m.bytes && nat_le m.count limit
    && all_below m.count (sound_entry m.heads m.bytes) && names_differ (entries_of m)

-- "16 connections, 0 to 15"
abbrev pub connections : ℕ
connections = 16

-- "16 connection marks (0 closed, 1 open, 2 greeted)"
abbrev pub closed : ℕ
closed = 0

abbrev pub open' : ℕ
open' = 1

abbrev pub greeted : ℕ
greeted = 2

unfoldable pub sound_marks : List ℕ → Bool
sound_marks marks = nat_le connections (length marks) && all_below connections (λ c. leb (slice_index marks c) greeted)
