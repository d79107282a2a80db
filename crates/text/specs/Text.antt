-- A text behind its length: "String, length (2) and UTF-8", "Names are laid out as Strings".
use Rattle.std.specs.Prelude.{ℕ, ◌+◌, List, take, drop, leb, Err, Ok}
use Rattle.field.specs.Answer.{incomplete, not_utf8, too_long}
use Rattle.field.specs.Choice.{demand}
use Rattle.field.specs.Octets.{decode16}
use Rattle.field.specs.Field.{fault_at, demand_bytes, Parsed}
use Rattle.utf8.specs.Utf8.{is_utf8}

-- how many bytes a length prefix has
abbrev pub prefix_size : ℕ
prefix_size = 2

-- "A text's length prefix is checked (10) before its bytes, and its UTF-8 (9) once all its bytes are there."
-- sizeSoFar bytes came before the prefix, and all together may be maxSize.
unfoldable pub parse_text : ℕ → ℕ → List ℕ → Parsed
parse_text maxSize sizeSoFar s =
    demand_bytes prefix_size s (Err (fault_at incomplete 0))
    (demand (leb (sizeSoFar + (prefix_size + decode16 s)) maxSize) (Err (fault_at too_long 0))
    (demand_bytes (prefix_size + decode16 s) s (Err (fault_at incomplete prefix_size))
    (demand (is_utf8 (take (decode16 s) (drop prefix_size s))) (Err (fault_at not_utf8 prefix_size))
    (Ok (prefix_size + decode16 s)))))
