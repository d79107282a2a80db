-- "Say where the fault is": an answer tells, beside what it told before, the place of the field that failed.
use Rattle.std.specs.Prelude.{ℕ, ◌≤◌, ◌&&◌, ◌≡◌, leb}
use Rattle.field.specs.Answer.{unknown_type, too_long}
use Rattle.field.specs.Choice.{pick}
use Rattle.field.specs.declared.Fault.{Fault}

-- "with 7 to 10"
pub record TellsPlace (number : ℕ) : Type 0 where
  pub above : unknown_type ≤ number
  pub below : number ≤ too_long

-- "report, with 7 to 10, the place of the first byte of the field that failed"; "With other numbers .. it is 0."
unfoldable pub reported_place : Fault → ℕ
reported_place fault = pick (leb unknown_type fault.number && leb fault.number too_long) fault.place 0

-- what number and place of an answer tell of the field that failed
pub record Told (Fails : (number place : ℕ) → Type 0) (number place : ℕ) : Type 0 where
  -- "with 7 to 10, the place of the first byte of the field that failed"
  pub at_field : TellsPlace number → Fails number place
  -- "With other numbers .. it is 0."
  pub else_zero : (TellsPlace number → ⊥) → place ≡ 0

-- "01's answers gain one field": what a call answers and leaves without it, and the place
pub record WithPlace (R : Type 0) : Type 0 where
  pub result : R
  pub place : ℕ
