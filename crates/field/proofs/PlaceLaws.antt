-- Laws of the place that an answer tells, and of a refusal's number and place.
use mathlib.Core.Path.{◌≡◌, refl}
use mathlib.Core.Logic.{◌⊎◌, inl, inr}
use mathlib.Core.Bool.{and-eq-true_iff}
use Prim.Native.Nat.{ℕ}
use borrow.Author.Tests.{leb-true, le-leb}
use Rattle.field.specs.Answer.{unknown_type, too_long}
use Rattle.field.specs.Choice.{pick}
use Rattle.std.specs.Prelude.{Ok, Err}
use Rattle.field.specs.Field.{Parsed, fault_at}
use Rattle.field.specs.Place.{TellsPlace, reported_place, Told}
use Rattle.field.specs.Refusal.{refusal_number}
use Rattle.field.specs.declared.Refusal.{Refusal}
use Rattle.field.specs.declared.Refusal.TheVariants as R
use Rattle.field.specs.declared.Fault.{Fault}
use Rattle.field.proofs.ChoiceLaws.{by_test}

-- what holds of a refusal is told
pub told : (P : ℕ → ℕ → Type 0) (fault : Fault) → (TellsPlace fault.number → P fault.number fault.place) → Told P fault.number (reported_place fault)
unfolding reported_place pick
told P fault h =
    record {
      at_field = λ tells. rw (le-leb _ _ tells.above, le-leb _ _ tells.below) (h tells);
      else_zero = λ other.
          by_test (λ (p : ℕ). p ≡ 0) _ _ _ (λ e.
          let both = (and-eq-true_iff _ _).0 e in
          absurd (other (record { above = leb-true unknown_type fault.number both.0; below = leb-true fault.number too_long both.1 }))) (λ _. refl);
    }

-- nothing is told with another number
pub untold : (P : ℕ → ℕ → Type 0) (number : ℕ) → (TellsPlace number → ⊥) → Told P number 0
untold P number other = record { at_field = λ tells. absurd (other tells); else_zero = λ _. refl }

-- ---- what holds of the number and place that a reader refuses with

pub data Refuses (P : ℕ → ℕ → Type 0) : Parsed → Type 0 where
  refused : {fault : Fault} → P fault.number fault.place → Refuses P (Err fault)
  taken : {n : ℕ} → Refuses P (Ok n)

pub refuses_with : (P : ℕ → ℕ → Type 0) (number place : ℕ) → P number place → Refuses P (Err (fault_at number place))
refuses_with P number place h = refused h

pub refused_with_lem : (P : ℕ → ℕ → Type 0) (fault : Fault) → Refuses P (Err fault) → P fault.number fault.place
refused_with_lem P fault (refused h) = h

pub refuses_map : (P Q : ℕ → ℕ → Type 0) → ((number place : ℕ) → P number place → Q number place) → (r : Parsed) → Refuses P r → Refuses Q r
refuses_map P Q f (Err fault) (refused h) = refused (f fault.number fault.place h)
refuses_map P Q f (Ok n) h = taken

-- ---- by the refusal

-- one of those whose place is told
abbrev pub IsOfField : Refusal → Type 0
IsOfField r = (r ≡ R.UnknownType) ⊎ ((r ≡ R.BadBoolean) ⊎ ((r ≡ R.NotUtf8) ⊎ (r ≡ R.TooLong)))

pub told_place : (r : Refusal) (place : ℕ) → IsOfField r → place ≡ reported_place (fault_at (refusal_number r) place)
unfolding reported_place pick
told_place r place (inl h) = rw h refl
told_place r place (inr (inl h)) = rw h refl
told_place r place (inr (inr (inl h))) = rw h refl
told_place r place (inr (inr (inr h))) = rw h refl

pub untold_place : (r : Refusal) (place : ℕ) → (r ≡ R.UnknownType → ⊥) → (r ≡ R.BadBoolean → ⊥) → (r ≡ R.NotUtf8 → ⊥) → (r ≡ R.TooLong → ⊥)
    → 0 ≡ reported_place (fault_at (refusal_number r) place)
unfolding reported_place pick
untold_place R.Incomplete place a b c d = refl
untold_place R.ConnectionTooHigh place a b c d = refl
untold_place R.WrongState place a b c d = refl
untold_place R.UnknownKind place a b c d = refl
untold_place R.WrongId place a b c d = refl
untold_place R.UnknownId place a b c d = refl
untold_place R.UnknownType place a b c d = absurd (a refl)
untold_place R.BadBoolean place a b c d = absurd (b refl)
untold_place R.NotUtf8 place a b c d = absurd (c refl)
untold_place R.TooLong place a b c d = absurd (d refl)
untold_place R.TableFull place a b c d = refl
untold_place R.OutputTooShort place a b c d = refl
untold_place R.NameTaken place a b c d = refl
untold_place R.Unsound place a b c d = refl
untold_place R.BadFilling place a b c d = refl
