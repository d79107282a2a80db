-- The choice between two answers by a test.
use Rattle.std.specs.Prelude.{Bool, true, false}

-- x where the test is true, y where it is false
unfoldable pub pick {ℓ} : {X : Type ℓ} → Bool → X → X → X
pick true x y = x
pick false x y = y

-- what comes next where the test is true, and the refusal where it is false: a refusal stands beside its test
abbrev pub demand {ℓ} : {X : Type ℓ} → Bool → X → X → X
demand test refusal next = pick test next refusal
