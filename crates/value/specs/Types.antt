-- The types as an enum, by their codes.
use Rattle.std.specs.Prelude.{ℕ, ◌+◌, ◌≡◌, false, Result, Ok, Err}
use Rattle.field.specs.declared.Refusal.{Refusal}
use Rattle.field.specs.declared.Refusal.TheVariants.{UnknownType}
use Rattle.value.specs.Value.{boolean, double, string, array_of, known_type}
use Rattle.value.specs.declared.Element.{Element}
use Rattle.value.specs.declared.Element.TheVariants as E
use Rattle.value.specs.declared.ValueType.{ValueType}
use Rattle.value.specs.declared.ValueType.TheVariants as T

abbrev pub element_code : Element → ℕ
element_code E.Boolean = boolean
element_code E.Double = double
element_code E.String = string

abbrev pub type_code : ValueType → ℕ
type_code (T.Single element) = element_code element
type_code (T.Array element) = array_of + element_code element

-- what a code is read as: the type that has it, and "type unknown" (7) where there is none
pub data IsTypeOf : ℕ → Result ValueType Refusal → Type 0 where
  known : (t : ValueType) → IsTypeOf (type_code t) (Ok t)
  unknown : {code : ℕ} → known_type code ≡ false → IsTypeOf code (Err UnknownType)
