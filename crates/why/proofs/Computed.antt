-- Reasons as C has them, computed.
use mathlib.Core.Path.{◌≡◌, refl}
use Prim.Native.Nat.{ℕ}
use Rattle.reason.specs.Reason.{refused_at}
use Rattle.reason.specs.declared.Reason.TheVariants.{KeepAlive, NameHeld, Equal, Older, Undefined, Applied, Done}
use Rattle.why.specs.Answer.{reason_answer}
use Rattle.why.specs.declared.ReasonAnswer.{ReasonAnswer}

abbrev told : (reason number id distance place : ℕ) → ReasonAnswer
told reason number id distance place = record { reason = reason; number = number; id = id; distance = distance; place = place }

-- whatever number, place, ID and distance a reason has
record Computed : Type 0 where
  refused : (number place : ℕ) → reason_answer (refused_at number place) ≡ told 0 number 0 0 place
  keep_alive_lem : reason_answer KeepAlive ≡ told 1 16 0 0 0
  name_held_lem : (id : ℕ) → reason_answer (NameHeld id) ≡ told 2 16 id 0 0
  equal : reason_answer Equal ≡ told 3 16 0 0 0
  older : (distance : ℕ) → reason_answer (Older distance) ≡ told 4 16 0 distance 0
  undefined : reason_answer Undefined ≡ told 5 16 0 32768 0
  applied : (distance : ℕ) → reason_answer (Applied distance) ≡ told 6 0 0 distance 0
  done : reason_answer Done ≡ told 7 0 0 0 0

computed : Computed
computed =
    record {
      refused = λ number place. refl;
      keep_alive_lem = refl;
      name_held_lem = λ id. refl;
      equal = refl;
      older = λ distance. refl;
      undefined = refl;
      applied = λ distance. refl;
      done = refl;
    }
