-- What a message that asks for a local call comes to.
use Rattle.std.proofs.Common.{◌≡◌, refl, ap, ℕ, false, Ok, Err}
use Rattle.field.specs.Choice.{pick}
use Rattle.field.specs.Refusal.{refusal_number}
use Rattle.field.specs.declared.Refusal.{Refusal}
use Rattle.field.specs.declared.Refusal.TheVariants as R
use Rattle.answer.specs.Answers.{goes_on}
use Rattle.protocol.specs.Judge.{Call}
use Rattle.protocol.specs.Step.{ServerMemory, call_step}
use Rattle.protocol.specs.Effect.{Effect, effect_of, with_output}
use Rattle.line_record.specs.Plant.{plant_number, asks}
use Rattle.line_record.specs.Held.{plant_effect}
use Rattle.effect.specs.Lent.{effected, done_effect, outcome_effect}
use Rattle.effect.specs.declared.Outcome.{Outcome}
use Rattle.effect.specs.declared.Outcome.TheVariants as O

-- a call that is refused does not go on
pub refusal_stops : (r : Refusal) → goes_on (refusal_number r) ≡ false
refusal_stops R.Incomplete = refl
refusal_stops R.ConnectionTooHigh = refl
refusal_stops R.WrongState = refl
refusal_stops R.UnknownKind = refl
refusal_stops R.WrongId = refl
refusal_stops R.UnknownId = refl
refusal_stops R.UnknownType = refl
refusal_stops R.BadBoolean = refl
refusal_stops R.NotUtf8 = refl
refusal_stops R.TooLong = refl
refusal_stops R.TableFull = refl
refusal_stops R.OutputTooShort = refl
refusal_stops R.NameTaken = refl
refusal_stops R.Unsound = refl
refusal_stops R.BadFilling = refl

-- any refusal but that of an ID stays
pub refusal_stays : (r : Refusal) → (r ≡ R.WrongId → ⊥) → refusal_number r ≡ plant_number (refusal_number r)
unfolding pick
refusal_stays R.Incomplete n = refl
refusal_stays R.ConnectionTooHigh n = refl
refusal_stays R.WrongState n = refl
refusal_stays R.UnknownKind n = refl
refusal_stays R.WrongId n = absurd (n refl)
refusal_stays R.UnknownId n = refl
refusal_stays R.UnknownType n = refl
refusal_stays R.BadBoolean n = refl
refusal_stays R.NotUtf8 n = refl
refusal_stays R.TooLong n = refl
refusal_stays R.TableFull n = refl
refusal_stays R.OutputTooShort n = refl
refusal_stays R.NameTaken n = refl
refusal_stays R.Unsound n = refl
refusal_stays R.BadFilling n = refl

-- the message's bytes are taken where its call goes on
asked_effect : (limit : ℕ) (mem after : ServerMemory) (call : Call) (size number : ℕ)
    → record { number = number; taken = 0; memory = after } ≡ effect_of (call_step limit mem (with_output limit call))
    → record { number = number; taken = pick (goes_on number) size 0; memory = after } ≡ plant_effect limit mem (asks call size)
unfolding plant_effect
asked_effect limit mem after call size number e =
    ap (λ (x : Effect). record { number = x.number; taken = pick (goes_on x.number) size 0; memory = x.memory }) e

module _ (limit : ℕ) (mem after : ServerMemory) (call : Call) (size : ℕ) where
  pub taken_effect : (outcome : Outcome) → outcome_effect (Ok outcome) after ≡ effect_of (call_step limit mem (with_output limit call))
      → effected (Ok (record { outcome = outcome; size = size })) after ≡ plant_effect limit mem (asks call size)
  unfolding pick
  taken_effect O.Done e = asked_effect limit mem after call size _ e
  taken_effect O.Ignored e = asked_effect limit mem after call size _ e

  pub stopped_effect : (refusal : Refusal) → done_effect (Err refusal) after ≡ effect_of (call_step limit mem (with_output limit call))
      → effected (Err refusal) after ≡ plant_effect limit mem (asks call size)
  unfolding pick
  stopped_effect refusal e = rw (refusal_stops refusal) at (asked_effect limit mem after call size (refusal_number refusal) e)
