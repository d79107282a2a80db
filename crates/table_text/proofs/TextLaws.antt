-- Laws of texts in quotes.
use mathlib.Core.Path.{◌≡◌}
use mathlib.Core.List.{List, [], ◌++◌}
use Prim.Native.Nat.{ℕ, ◌+◌, ◌≤◌, ◌<◌}
use native.Mathlib.Numerals.{add-one}
use lib.ListN.{length, drop, get_or, drop_of_length-le}
use lib.Seq.{drop-cons}
use Rattle.table_text.specs.Text.{quoted_byte, quoted_bytes}

-- one byte, and what stands behind it
pub quoted_next : (s : List ℕ) (i : ℕ) → i < length s → quoted_bytes (drop i s) ≡ quoted_byte (get_or s i 0) ++ quoted_bytes (drop (i + 1) s)
unfolding quoted_bytes
quoted_next s i h = rw (drop-cons s i 0 h, add-one)

-- no byte is left
pub quoted_end : (s : List ℕ) (i : ℕ) → length s ≤ i → quoted_bytes (drop i s) ≡ []
unfolding quoted_bytes
quoted_end s i h = rw (drop_of_length-le s h)

pub ruleset quotes = (quoted_next, quoted_end)
