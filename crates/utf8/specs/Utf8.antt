-- UTF-8, from the ABNF of RFC 3629, section 4.
use Rattle.std.specs.Prelude.{ℕ, ◌-◌, List, [], ◌∷◌, Bool, true, false, leb, eqb}
use Rattle.field.specs.Choice.{pick}

-- what may come next: a character or the end; a byte from low to high and then n of UTF8-tail, %x80-BF; nothing
pub data Expected : Type 0 where
  Boundary : Expected
  Tail : (low high n : ℕ) → Expected
  Invalid : Expected

-- what follows a character's first byte b: the rows of UTF8-1 to UTF8-4 in rising order of b
unfoldable pub after_first : ℕ → Expected
after_first b =
    pick (leb b 0x7F) Boundary  -- UTF8-1 = %x00-7F
    (pick (leb b 0xC1) Invalid
    (pick (leb b 0xDF) (Tail 0x80 0xBF 0)  -- UTF8-2 = %xC2-DF UTF8-tail
    (pick (leb b 0xE0) (Tail 0xA0 0xBF 1)  -- UTF8-3 = %xE0 %xA0-BF UTF8-tail
    (pick (leb b 0xEC) (Tail 0x80 0xBF 1)  -- / %xE1-EC 2( UTF8-tail )
    (pick (leb b 0xED) (Tail 0x80 0x9F 1)  -- / %xED %x80-9F UTF8-tail
    (pick (leb b 0xEF) (Tail 0x80 0xBF 1)  -- / %xEE-EF 2( UTF8-tail )
    (pick (leb b 0xF0) (Tail 0x90 0xBF 2)  -- UTF8-4 = %xF0 %x90-BF 2( UTF8-tail )
    (pick (leb b 0xF3) (Tail 0x80 0xBF 2)  -- / %xF1-F3 3( UTF8-tail )
    (pick (leb b 0xF4) (Tail 0x80 0x8F 2) Invalid)))))))))  -- / %xF4 %x80-8F 2( UTF8-tail )

-- after a byte that was asked for, where n of UTF8-tail are still to come
abbrev pub still_to_come : ℕ → Expected
still_to_come n = pick (eqb n 0) Boundary (Tail 0x80 0xBF (n - 1))

unfoldable pub after_byte : Expected → ℕ → Expected
after_byte Boundary b = after_first b
after_byte (Tail low high n) b = pick (leb low b) (pick (leb b high) (still_to_come n) Invalid) Invalid
after_byte Invalid b = Invalid

abbrev pub is_boundary : Expected → Bool
is_boundary Boundary = true
is_boundary (Tail low high n) = false
is_boundary Invalid = false

-- the bytes are what is expected, and whole characters after that
unfoldable pub utf8_from : Expected → List ℕ → Bool
utf8_from e [] = is_boundary e
utf8_from e (b ∷ s) = utf8_from (after_byte e b) s

-- UTF8-octets = *( UTF8-char )
unfoldable pub is_utf8 : List ℕ → Bool
is_utf8 s = utf8_from Boundary s
