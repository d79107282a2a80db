-- Sequence numbers: RFC 1982 with SERIAL_BITS = 16.
-- "a sequence number has one starting value, one half range and one next number"
use Rattle.std.specs.Prelude.{ℕ, ◌+◌, ◌-◌, ◌%◌, Bool, ◌&&◌, nat_le, nat_lt}

abbrev pub modulus : ℕ
modulus = 65536

-- the number of a new entry
abbrev pub start : ℕ
start = 1

abbrev pub half : ℕ
half = 32768

-- "the number plus one modulo 65,536"
abbrev pub next_number : ℕ → ℕ
next_number n = (n + 1) % modulus

-- "Let d be received minus stored, modulo 65,536"
abbrev pub distance : ℕ → ℕ → ℕ
distance stored received = (received + (modulus - stored)) % modulus

-- received is strictly greater than stored: "d from 1 to 32,767"
unfoldable pub passed_by : ℕ → ℕ → Bool
passed_by stored received = nat_le 1 (distance stored received) && nat_lt (distance stored received) half
