-- How long a Boolean and a Double are, and the scalar that a value of each type is.
use Rattle.std.specs.Prelude.{Err, Ok}
use Rattle.field.specs.Field.{Parsed}
use mathlib.Core.Path.{◌≡◌}
use mathlib.Core.Logic.{◌≢◌}
use mathlib.Core.List.{List}
use Prim.Native.Nat.{ℕ, ◌+◌, ◌*◌, ◌≤◌}
use lib.ListN.{length, get_or}
use Rattle.std.specs.Prelude.{eqb}
use borrow.Author.Tests.{leb-true, ne_eqb}
use Rattle.field.specs.Choice.{pick}
use Rattle.field.specs.declared.Fault.{Fault}
use Rattle.field.proofs.ChoiceLaws.{by_test}
use Rattle.value.specs.Value.{parse_boolean, parse_double, parse_element, parse_value, IsValue}
use native.Mathlib.Omega.{arith}
use Rattle.field.proofs.OctetsLaws.{decode_at}
use Rattle.scalar.specs.Scalar.{decode64, double_of, scalar_of}
use Rattle.scalar.specs.declared.Scalar.TheVariants.{Boolean, Double, Neither}

-- the number of eight bytes, byte by byte
pub eight_bytes : (s : List ℕ)
    → decode64 s
    ≡ ((((((get_or s 0 0 * 256 + get_or s 1 0) * 256 + get_or s 2 0) * 256 + get_or s 3 0) * 256 + get_or s 4 0) * 256 + get_or s 5 0) * 256 + get_or s 6 0) * 256 + get_or s 7 0
unfolding decode64
eight_bytes s = rw (decode_at s 2, decode_at s 4, decode_at s 6) (omega (arith, decode_at s 0))

-- a reader that takes something takes what has a length of at least n
data Long (n : ℕ) (s : List ℕ) : Parsed → Type 0 where
  refused : {fault : Fault} → Long n s (Err fault)
  taken : {k : ℕ} → n ≤ length s → Long n s (Ok k)

long_enough : (n : ℕ) (s : List ℕ) (k : ℕ) → Long n s (Ok k) → n ≤ length s
long_enough n s k (taken h) = h

boolean_long : (s : List ℕ) → Long 1 s (parse_boolean s)
unfolding parse_boolean
boolean_long s = by_test (Long 1 s) _ _ _ (λ h. by_test (Long 1 s) _ _ _ (λ _. taken (leb-true _ _ h)) (λ _. refused)) (λ _. refused)

pub boolean_length : (type : ℕ) (v : List ℕ) → type ≡ 0 → IsValue type v → 1 ≤ length v
unfolding parse_value parse_element pick
boolean_length type v k e = long_enough 1 v (length v) (rw (rw k at e) at (boolean_long v))

double_long : (s : List ℕ) → Long 8 s (parse_double s)
unfolding parse_double
double_long s = by_test (Long 8 s) _ _ _ (λ h. taken (leb-true _ _ h)) (λ _. refused)

pub double_length : (type : ℕ) (v : List ℕ) → type ≡ 1 → IsValue type v → 8 ≤ length v
unfolding parse_value parse_element pick
double_length type v k e = long_enough 8 v (length v) (rw (rw k at e) at (double_long v))

-- ---- the choice by the type

pub scalar_boolean : (type : ℕ) (v : List ℕ) → type ≡ 0 → scalar_of type v ≡ Boolean (eqb (get_or v 0 0) 1)
unfolding scalar_of pick
scalar_boolean type v k = rw k

pub scalar_double : (type : ℕ) (v : List ℕ) → type ≡ 1 → scalar_of type v ≡ Double (double_of v)
unfolding scalar_of pick
scalar_double type v k = rw k

pub scalar_neither : (type : ℕ) (v : List ℕ) → type ≢ 0 → type ≢ 1 → scalar_of type v ≡ Neither
unfolding scalar_of pick
scalar_neither type v a b = rw (ne_eqb type 0 a, ne_eqb type 1 b)
