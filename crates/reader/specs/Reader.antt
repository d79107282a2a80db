-- Fields of a varying length at a place of a message. Past the end of the message there are no bytes.
use Rattle.std.specs.Prelude.{ℕ, List, drop}
use Rattle.field.specs.Field.{moved_by, Parsed}
use Rattle.text.specs.Text.{parse_text}
use Rattle.value.specs.Value.{parse_value}

-- a text behind its length, both together of at most maxSize bytes
unfoldable pub parse_text_at : (maxSize at : ℕ) → List ℕ → Parsed
parse_text_at maxSize at m = moved_by at (parse_text maxSize 0 (drop at m))

-- a value of a type
unfoldable pub parse_value_at : (type at : ℕ) → List ℕ → Parsed
parse_value_at type at m = moved_by at (parse_value type (drop at m))
