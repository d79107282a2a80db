-- Laws of `pick`.
use mathlib.Core.Path.{◌≡◌, refl, ap}
use mathlib.Core.Bool.{Bool, true, false}
use Rattle.field.specs.Choice.{pick}

-- what holds of each side where it is taken holds of the choice
pub by_test {ℓ κ} : {X : Type ℓ} (P : X → Type κ) (b : Bool) (x y : X) → (b ≡ true → P x) → (b ≡ false → P y) → P (pick b x y)
unfolding pick
by_test P true x y f g = f refl
by_test P false x y f g = g refl

pub pick_true {ℓ} : {X : Type ℓ} {b : Bool} (x y : X) → b ≡ true → pick b x y ≡ x
unfolding pick
pick_true {X = X} x y e = ap (λ (b : Bool). pick b x y) e

pub pick_false {ℓ} : {X : Type ℓ} {b : Bool} (x y : X) → b ≡ false → pick b x y ≡ y
unfolding pick
pick_false {X = X} x y e = ap (λ (b : Bool). pick b x y) e

pub pick_cong : {X : Type 0} (b : Bool) {x x' y y' : X} → x ≡ x' → (b ≡ false → y ≡ y') → pick b x y ≡ pick b x' y'
unfolding pick
pick_cong true e f = e
pick_cong false e f = f refl
