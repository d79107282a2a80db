-- The marked comparisons P1 to P10, "proved together as one table of comparisons (stored, received, applied?)",
-- and comparisons that look right.
use Rattle.std.specs.Prelude.{◌≡◌, ℕ, Bool, true, false, not, List, [], ◌∷◌, map, nat_lt}
use Rattle.sequence.specs.SequenceNumber.{passed_by}

pub record Comparison : Type 0 where
  pub stored : ℕ
  pub received : ℕ
  pub applied : Bool

abbrev pub row : (stored received : ℕ) (applied : Bool) → Comparison
row stored received applied = record { stored = stored; received = received; applied = applied }

abbrev pub comparisons : List Comparison
comparisons =
    row 1 2 true  -- P1
    ∷ row 1 1 false  -- P2
    ∷ row 5 4 false  -- P3
    ∷ row 65535 0 true  -- P4
    ∷ row 0 65535 false  -- P5
    ∷ row 0 32767 true  -- P6
    ∷ row 0 32768 false  -- P7
    ∷ row 32768 0 false  -- P8
    ∷ row 65535 32766 true  -- P9
    ∷ row 65535 32767 false  -- P10
    ∷ []

-- what a comparison answers in each row
abbrev pub answers : (ℕ → ℕ → Bool) → List Bool
answers greater = map (λ (x : Comparison). greater x.stored x.received) comparisons

abbrev pub ComparisonsHold : Type 0
ComparisonsHold = answers passed_by ≡ map (λ (x : Comparison). x.applied) comparisons

-- "Comparing numbers as plain integers: P4 breaks": so do P5, P7 and P9
abbrev pub PlainIntegers : Type 0
PlainIntegers =
    answers (λ stored received. nat_lt stored received)
    ≡ true ∷ false ∷ false ∷ false ∷ true ∷ true ∷ true ∷ false ∷ false ∷ false ∷ []

-- "Taking "not less" for "greater"": received is not less than stored. P2, P7, P8 and P10 are then applied
abbrev pub NotLess : Type 0
NotLess =
    answers (λ stored received. not (passed_by received stored))
    ≡ true ∷ true ∷ false ∷ true ∷ false ∷ true ∷ true ∷ true ∷ true ∷ true ∷ []

-- "Using the comparison as a total order: 0 before 30,000 before 60,000, yet 60,000 before 0"
abbrev pub NoTotalOrder : Type 0
NoTotalOrder = (passed_by 0 30000 ≡ true) × (passed_by 30000 60000 ≡ true) × (passed_by 60000 0 ≡ true) × (passed_by 0 60000 ≡ false)
