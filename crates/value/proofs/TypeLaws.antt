-- Laws of types and their codes.
use Rattle.std.proofs.Common.{◌≡◌, ◌<◌, refl, sym, ℕ, true, false, Result, Ok, Err, List, arith}
use Rattle.std.specs.Result.{is_ok}
use mathlib.Core.Bool.{true≢false}
use native.Mathlib.Decide.{dec_le}
use mathlib.Core.Logic.{◌≢◌}
use borrow.Author.Tests.{le-leb, lt-leb}
use Rattle.field.specs.declared.Refusal.{Refusal}
use Rattle.field.specs.declared.Refusal.TheVariants.{UnknownType}
use Rattle.std.proofs.lemmas.Bool.{false_from_ne_true}
use Rattle.value.proofs.ValueLaws.{known_array, known_small}
use Rattle.field.specs.Choice.{pick}
use Rattle.field.specs.Field.{fault_at}
use Rattle.field.specs.Refusal.{refusal_number}
use Rattle.value.specs.Value.{known_type, parse_element, parse_array, parse_value}
use Rattle.value.specs.Types.{element_code, type_code, IsTypeOf}
use Rattle.value.specs.declared.Element.{Element}
use Rattle.value.specs.declared.Element.TheVariants as E
use Rattle.value.specs.declared.ValueType.{ValueType}
use Rattle.value.specs.declared.ValueType.TheVariants as T

-- a type's code is one of the six
pub known_code : (t : ValueType) → known_type (type_code t) ≡ true
unfolding known_type
known_code (T.Single E.Boolean) = refl
known_code (T.Single E.Double) = refl
known_code (T.Single E.String) = refl
known_code (T.Array E.Boolean) = refl
known_code (T.Array E.Double) = refl
known_code (T.Array E.String) = refl

pub known_is_ok : (code : ℕ) (r : Result ValueType Refusal) → IsTypeOf code r → is_ok r ≡ known_type code
known_is_ok code r (IsTypeOf.known t) = sym (known_code t)
known_is_ok code r (IsTypeOf.unknown h) = sym h

-- and no other is
pub unknown_code : (code : ℕ) → code ≢ 0x00 → code ≢ 0x01 → code ≢ 0x02 → code ≢ 0x10 → code ≢ 0x11 → code ≢ 0x12 → known_type code ≡ false
unknown_code code a b c d e f = false_from_ne_true (known_type code) (λ k. elim (dec_le code 2) [
  | yes low ↦ omega arith
  | no high ↦ omega (arith, known_array code (omega arith) k, known_small code k)
])

above_string : (code : ℕ) → known_type code ≡ false → 2 < code
unfolding known_type
above_string code h = elim (dec_le code 2) [
  | yes low ↦ absurd (true≢false (rw (le-leb code 2 low) at h))
  | no high ↦ omega (arith, high)
]

-- ---- the value of a type

code_of : {code : ℕ} {t : ValueType} → IsTypeOf code (Ok t) → code ≡ type_code t
code_of (IsTypeOf.known t) = refl

pub single_value : (code : ℕ) (element : Element) (s : List ℕ) → IsTypeOf code (Ok (T.Single element)) → parse_value code s ≡ parse_element (element_code element) 0 s
unfolding parse_value pick
single_value code E.Boolean s h = rw (code_of h) refl
single_value code E.Double s h = rw (code_of h) refl
single_value code E.String s h = rw (code_of h) refl

pub array_value : (code : ℕ) (element : Element) (s : List ℕ) → IsTypeOf code (Ok (T.Array element)) → parse_value code s ≡ parse_array (element_code element) s
unfolding parse_value pick known_type
array_value code E.Boolean s h = rw (code_of h) refl
array_value code E.Double s h = rw (code_of h) refl
array_value code E.String s h = rw (code_of h) refl

unknown_of : {code : ℕ} {refusal : Refusal} → IsTypeOf code (Err refusal) → (refusal ≡ UnknownType) × (known_type code ≡ false)
unknown_of (IsTypeOf.unknown h) = (refl, h)

pub no_value : (code : ℕ) (refusal : Refusal) (s : List ℕ) → IsTypeOf code (Err refusal) → parse_value code s ≡ Err (fault_at (refusal_number refusal) 0)
unfolding parse_value pick
no_value code refusal s h =
    let u = unknown_of h in
    rw (u.0, lt-leb code 2 (above_string code u.1), u.1)
