-- The scalar that a value is, a Double as a number; and when two values are equal.
use Rattle.std.specs.Prelude.{ℕ, ◌+◌, ◌*◌, Bool, List, drop, get_or, eqb, Float}
use Rattle.std.specs.Float.{binary64}
use Rattle.std.specs.Float.Ieee.{of_bits}
use Rattle.field.specs.Choice.{pick}
use Rattle.field.specs.Octets.{decode16, bytes_equal}
use Rattle.value.specs.Value.{boolean, double, true_byte}
use Rattle.scalar.specs.declared.Scalar as D
use Rattle.scalar.specs.declared.Scalar.TheVariants.{Boolean, Double, Neither}

-- "All numbers are big endian": the number that the first eight bytes are
unfoldable pub decode64 : List ℕ → ℕ
decode64 s = ((decode16 s * 65536 + decode16 (drop 2 s)) * 65536 + decode16 (drop 4 s)) * 65536 + decode16 (drop 6 s)

-- the Double of the first eight bytes
abbrev pub double_of : List ℕ → Float
double_of s = of_bits binary64 (decode64 s)

-- "a Boolean, a Double as a number, or neither where it is text or an array"
unfoldable pub scalar_of : ℕ → List ℕ → D.Scalar
scalar_of type value =
    pick (eqb type boolean) (Boolean (eqb (get_or value 0 0) true_byte)) (pick (eqb type double) (Double (double_of value)) Neither)

-- "two Doubles are equal exactly when their eight bytes are equal, in arrays too", and "other values by their bytes":
-- values of a type, whichever it is, by their encoded bytes
unfoldable pub equal_values : ℕ → List ℕ → List ℕ → Bool
equal_values type v w = bytes_equal v w
