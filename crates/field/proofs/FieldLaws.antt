-- Laws of fields that are there.
use mathlib.Core.Path.{◌≡◌, refl}
use mathlib.Core.List.{List}
use Prim.Native.Nat.{ℕ, ◌+◌, ◌≤◌, ◌<◌}
use lib.ListN.{length, get_or, drop}
use native.Mathlib.Omega.{arith}
use borrow.Author.Tests.{leb-true, leb-false}
use Rattle.field.specs.Octets.{decode16}
use Rattle.field.specs.Field.{octet_at, number_at}
use Rattle.std.specs.Prelude.{Ok, Err}
use Rattle.field.specs.Answer.{incomplete}
use Rattle.field.specs.Field.{Parsed, fault_at}
use Rattle.field.specs.declared.Fault.{Fault}
use Rattle.field.proofs.ChoiceLaws.{by_test}

-- what is known of a field at a place: it is there and has a value, or the reading ends there
pub data FieldIs (There : Type 0) (at value : ℕ) : Parsed → Type 0 where
  found : There → FieldIs There at value (Ok value)
  missing : (There → ⊥) → FieldIs There at value (Err (fault_at incomplete at))

octet_is : (s : List ℕ) (at : ℕ) → FieldIs (at + 1 ≤ length s) at (get_or s at 0) (octet_at s at)
unfolding octet_at
octet_is s at = by_test (FieldIs (at + 1 ≤ length s) at (get_or s at 0)) _ _ _ (λ h. found (leb-true _ _ h)) (λ h. missing (λ there. omega (arith, leb-false _ _ h)))

number_is : (s : List ℕ) (at : ℕ) → FieldIs (at + 2 ≤ length s) at (decode16 (drop at s)) (number_at s at)
unfolding number_at
number_is s at = by_test (FieldIs (at + 2 ≤ length s) at (decode16 (drop at s))) _ _ _ (λ h. found (leb-true _ _ h)) (λ h. missing (λ there. omega (arith, leb-false _ _ h)))

found_is : {There : Type 0} {at value x : ℕ} → FieldIs There at value (Ok x) → There × (x ≡ value)
found_is (found there) = (there, refl)

missing_is : {There : Type 0} {at value : ℕ} {fault : Fault} → FieldIs There at value (Err fault) → (There → ⊥) × (fault ≡ fault_at incomplete at)
missing_is (missing h) = (h, refl)

pub octet_there : (s : List ℕ) (at b : ℕ) → Ok b ≡ octet_at s at → (at + 1 ≤ length s) × (b ≡ get_or s at 0)
octet_there s at b e = found_is (rw (← e) at (octet_is s at))

pub number_there : (s : List ℕ) (at n : ℕ) → Ok n ≡ number_at s at → (at + 2 ≤ length s) × (n ≡ decode16 (drop at s))
number_there s at n e = found_is (rw (← e) at (number_is s at))

pub octet_missing : (s : List ℕ) (at : ℕ) (fault : Fault) → Err fault ≡ octet_at s at → (length s < at + 1) × (fault ≡ fault_at incomplete at)
octet_missing s at fault e = let h = missing_is (rw (← e) at (octet_is s at)) in (omega (arith, h.0), h.1)

pub number_missing : (s : List ℕ) (at : ℕ) (fault : Fault) → Err fault ≡ number_at s at → (length s < at + 2) × (fault ≡ fault_at incomplete at)
number_missing s at fault e = let h = missing_is (rw (← e) at (number_is s at)) in (omega (arith, h.0), h.1)
