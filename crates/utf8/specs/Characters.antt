-- What the ABNF of RFC 3629, section 4, takes is what its section 3 writes: bytes are UTF-8 exactly where they are the encodings of
-- characters, one behind the other. A character is a number below 0x110000 that is no surrogate, and its bits are written into one to
-- four bytes (`scalar` and `encode` of std).
use Rattle.std.specs.Prelude.{ℕ, true, List, ◌≡◌, ◌↔◌}
use Rattle.std.specs.Str.{IsUtf8}
use Rattle.utf8.specs.Utf8.{is_utf8}

abbrev pub CharactersExactly : Type 0
CharactersExactly = (s : List ℕ) → (is_utf8 s ≡ true) ↔ IsUtf8 s
