-- A refusal by its number.
use Rattle.std.specs.Prelude.{ℕ}
use Rattle.field.specs.Answer.{incomplete, connection_too_high, wrong_state, unknown_kind, wrong_id, unknown_id, unknown_type, bad_boolean, not_utf8, too_long, table_full, output_too_short, name_taken, unsound, bad_filling}
use Rattle.field.specs.declared.Refusal.{Refusal}
use Rattle.field.specs.declared.Refusal.TheVariants as R

-- the number that a call answers with
abbrev pub refusal_number : Refusal → ℕ
refusal_number R.Incomplete = incomplete
refusal_number R.ConnectionTooHigh = connection_too_high
refusal_number R.WrongState = wrong_state
refusal_number R.UnknownKind = unknown_kind
refusal_number R.WrongId = wrong_id
refusal_number R.UnknownId = unknown_id
refusal_number R.UnknownType = unknown_type
refusal_number R.BadBoolean = bad_boolean
refusal_number R.NotUtf8 = not_utf8
refusal_number R.TooLong = too_long
refusal_number R.TableFull = table_full
refusal_number R.OutputTooShort = output_too_short
refusal_number R.NameTaken = name_taken
refusal_number R.Unsound = unsound
refusal_number R.BadFilling = bad_filling

-- a refusal: its number, and the place of the first byte of the field that failed
pub record NumberAndPlace : Type 0 where
  pub number : ℕ
  pub place : ℕ
