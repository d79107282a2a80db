-- When two values are equal, what that makes of zeros, NaNs and arrays, and a Double that is read.
use Rattle.std.specs.Prelude.{ℕ, Bool, true, false, List, [], ◌∷◌, ◌++◌, ◌≡◌}
use Rattle.std.specs.Float.{binary64}
use Rattle.std.specs.Float.Ieee.{of_bits}
use Rattle.value.specs.Value.{double, double_array}
use Rattle.scalar.specs.Scalar.{scalar_of, equal_values}
use Rattle.scalar.specs.declared.Scalar.TheVariants.{Double}

-- "exactly when": values are equal where they are the same bytes, and only there
pub record EqualWhenSame (type : ℕ) (v w : List ℕ) : Type 0 where
  pub equal_same : equal_values type v w ≡ true → v ≡ w
  pub same_equal : v ≡ w → equal_values type v w ≡ true

abbrev pub EqualExactly : Type 0
EqualExactly = (type : ℕ) (v w : List ℕ) → EqualWhenSame type v w

abbrev pub plus_zero : List ℕ
plus_zero = 0x00 ∷ 0 ∷ 0 ∷ 0 ∷ 0 ∷ 0 ∷ 0 ∷ 0 ∷ []

abbrev pub minus_zero : List ℕ
minus_zero = 0x80 ∷ 0 ∷ 0 ∷ 0 ∷ 0 ∷ 0 ∷ 0 ∷ 0 ∷ []

abbrev pub a_nan : List ℕ
a_nan = 0x7F ∷ 0xF8 ∷ 0 ∷ 0 ∷ 0 ∷ 0 ∷ 0 ∷ 0 ∷ []

abbrev pub another_nan : List ℕ
another_nan = 0x7F ∷ 0xF8 ∷ 0 ∷ 0 ∷ 0 ∷ 0 ∷ 0 ∷ 1 ∷ []

-- two Doubles are equal or not, alone and behind an equal element of an array
abbrev pub Compared : List ℕ → List ℕ → Bool → Type 0
Compared v w equal = (equal_values double v w ≡ equal) × (equal_values double_array (2 ∷ plus_zero ++ v) (2 ∷ plus_zero ++ w) ≡ equal)

-- minus zero is not equal to plus zero
abbrev pub ZerosDiffer : Type 0
ZerosDiffer = Compared plus_zero minus_zero false

-- a NaN is equal to itself, and not to another one
abbrev pub NansAsBytes : Type 0
NansAsBytes = Compared a_nan a_nan true × Compared a_nan another_nan false

-- an array is not equal to a longer one that begins with its elements
abbrev pub CountsDiffer : Type 0
CountsDiffer = equal_values double_array (1 ∷ plus_zero) (2 ∷ plus_zero ++ plus_zero) ≡ false

-- "a Double as a number": all eight bytes of it, the highest one first
abbrev pub DoubleRead : Type 0
DoubleRead = scalar_of double (0xC1 ∷ 2 ∷ 3 ∷ 4 ∷ 5 ∷ 6 ∷ 7 ∷ 8 ∷ []) ≡ Double (of_bits binary64 0xC102030405060708)
