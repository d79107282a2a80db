-- RFC 1982, Serial Number Arithmetic, 3.2, with SERIAL_BITS = 16: the comparison by the standard's two cases, and that it is `passed_by`.
use Rattle.std.specs.Prelude.{◌≡◌, ℕ, ◌-◌, ◌^◌, ◌<◌, Bool, ◌&&◌, ◌||◌, nat_lt}
use Rattle.sequence.specs.SequenceNumber.{passed_by}

abbrev pub serial_bits : ℕ
serial_bits = 16

abbrev pub gtb : ℕ → ℕ → Bool
gtb m n = nat_lt n m

-- s1 and s2 are serial numbers, i1 and i2 the integers of the same values:
-- "s1 is said to be greater than s2 if, and only if, s1 is not equal to s2, and
--      (i1 < i2 and i2 - i1 > 2^(SERIAL_BITS - 1)) or
--      (i1 > i2 and i1 - i2 < 2^(SERIAL_BITS - 1))"
-- Each of the two cases says that s1 is not equal to s2.
unfoldable pub greater_than : (i1 i2 : ℕ) → Bool
greater_than i1 i2 =
    (nat_lt i1 i2 && gtb (i2 - i1) (2 ^ (serial_bits - 1)))
    || (gtb i1 i2 && nat_lt (i1 - i2) (2 ^ (serial_bits - 1)))

-- the two cases are the comparison by distance, for all pairs of 16-bit numbers
abbrev pub TwoCases : Type 0
TwoCases =
    (stored received : ℕ) → stored < 2 ^ serial_bits → received < 2 ^ serial_bits
    → greater_than received stored ≡ passed_by stored received
