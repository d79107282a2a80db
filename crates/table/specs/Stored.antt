-- What storing leaves as it was:
-- "Bytes of unused entries, bytes past a name or value, and memory beyond the table never change except where a stored name or value covers them."
use Rattle.std.specs.Prelude.{ℕ, ◌+◌, ◌*◌, ◌≤◌, ◌<◌, List, ◌≡◌, ◌⊎◌, length, get_or}
use Rattle.message.specs.Layout.{Entry}
use Rattle.table.specs.Table.{TableMemory, head_size, value_length_field, number_field, name_start, value_start, store_entry, store_value}

-- place p is one of the n from a place on
abbrev pub Within : (from n p : ℕ) → Type 0
Within from n p = (from ≤ p) × (p < from + n)

-- memory is as it was, but for the numbers of heads and the bytes at these places
pub record SameBut (numbers octets : ℕ → Type 0) (m m' : TableMemory) : Type 0 where
  pub same_heads : length m'.heads ≡ length m.heads
  pub same_bytes : length m'.bytes ≡ length m.bytes
  pub heads_kept : (p : ℕ) → ¬ numbers p → get_or m'.heads p 0 ≡ get_or m.heads p 0
  pub bytes_kept : (p : ℕ) → ¬ octets p → get_or m'.bytes p 0 ≡ get_or m.bytes p 0

-- another number and value of entry i: two numbers of its head, and the bytes that the value covers
abbrev pub ValueStored : Type 0
ValueStored =
    (m : TableMemory) (i number : ℕ) (value : List ℕ)
    → SameBut (λ p. (p ≡ head_size * i + value_length_field) ⊎ (p ≡ head_size * i + number_field)) (Within (value_start i) (length value))
    m (store_value m i number value)

-- a new entry: its head, and the bytes that its name and value cover
abbrev pub EntryStored : Type 0
EntryStored =
    (m : TableMemory) (e : Entry)
    → SameBut (Within (head_size * m.count) head_size)
    (λ p. Within (name_start m.count) (length e.name) p ⊎ Within (value_start m.count) (length e.value) p)
    m (store_entry m e)
