-- Laws of a text behind its length.
use Rattle.std.specs.Prelude.{Err, Ok}
use mathlib.Core.Path.{◌≡◌, refl}
use mathlib.Core.Bool.{true}
use mathlib.Core.List.{List, ◌++◌}
use Prim.Native.Nat.{ℕ, suc, ◌+◌, ◌≤◌}
use native.Mathlib.Omega.{arith}
use lib.ListN.{length, take, drop, length-append}
use lib.Seq.{take-append_seam}
use lib.Dec.{leb}
use borrow.Author.Tests.{leb-true, le-leb}
use Rattle.field.specs.Answer.{incomplete, not_utf8, too_long}
use Rattle.field.specs.Choice.{pick, demand}
use Rattle.field.specs.Octets.{decode16, encode16}
use Rattle.field.specs.Field.{fault_at, fault_of, demand_bytes, Parsed}
use Rattle.field.specs.declared.Fault.{Fault}
use Rattle.field.proofs.ChoiceLaws.{by_test}
use Rattle.field.proofs.OctetsLaws.{decode_encode, same_length, same_decode, same_rest}
use Rattle.utf8.specs.Utf8.{is_utf8}
use Rattle.text.specs.Text.{parse_text}

-- what a reader has checked once its prefix is there
pub after_prefix : (maxSize sizeSoFar n : ℕ) (s : List ℕ) → 2 ≤ length s → n ≡ decode16 s
    → parse_text maxSize sizeSoFar s
    ≡ demand (leb (sizeSoFar + (2 + n)) maxSize) (Err (fault_at too_long 0))
    (demand_bytes (2 + n) s (Err (fault_at incomplete 2)) (demand (is_utf8 (take n (drop 2 s))) (Err (fault_at not_utf8 2)) (Ok (2 + n))))
unfolding parse_text pick
after_prefix maxSize sizeSoFar n s h e = rw (le-leb 2 (length s) h, ← e)

-- ---- what is known of a text that was read

pub data TextIs (maxSize sizeSoFar : ℕ) (s : List ℕ) : Parsed → Type 0 where
  refused : {fault : Fault} → fault.place ≤ length s → TextIs maxSize sizeSoFar s (Err fault)
  taken : {n : ℕ} → n ≡ 2 + decode16 s → n ≤ length s → sizeSoFar + n ≤ maxSize → is_utf8 (take (decode16 s) (drop 2 s)) ≡ true
      → ((t : List ℕ) → take n t ≡ take n s → parse_text maxSize sizeSoFar t ≡ Ok n) → TextIs maxSize sizeSoFar s (Ok n)

pub text_is : (maxSize sizeSoFar : ℕ) (s : List ℕ) → TextIs maxSize sizeSoFar s (parse_text maxSize sizeSoFar s)
unfolding parse_text pick
text_is maxSize sizeSoFar s =
    by_test P (leb 2 (length s)) _ _ (λ h2.
    by_test P (leb (sizeSoFar + (2 + decode16 s)) maxSize) _ _ (λ hl.
    by_test P (leb (2 + decode16 s) (length s)) _ _ (λ hn.
    by_test P (is_utf8 (take (decode16 s) (drop 2 s))) _ _ (λ hu. taken refl (leb-true _ _ hn) (leb-true _ _ hl) hu (λ t e.
    let l : 2 + decode16 s ≤ length t = same_length (2 + decode16 s) s t e (leb-true _ _ hn) in
    rw (same_decode (2 + decode16 s) s t e (omega arith), same_rest 2 (decode16 s) s t e, le-leb 2 (length t) (omega arith), hl, le-leb _ _ l, hu)))
    (λ _. refused (leb-true _ _ h2))) (λ _. refused (leb-true _ _ h2))) (λ _. refused (omega arith))) (λ _. refused (omega arith))
  where
    P : Parsed → Type 0
    P = TextIs maxSize sizeSoFar s

-- reading back what was written, whatever stands behind it
pub text_back : (maxSize : ℕ) (name rest : List ℕ) → 2 + length name ≤ maxSize → is_utf8 name ≡ true
    → parse_text maxSize 0 (encode16 (length name) ++ (name ++ rest)) ≡ Ok (2 + length name)
unfolding parse_text encode16 pick
text_back maxSize name rest h u =
    rw (
      decode_encode (length name) (name ++ rest),
      le-leb 2 (suc (suc (length (name ++ rest)))) (omega arith),
      le-leb (0 + (2 + length name)) maxSize (omega arith),
      le-leb (2 + length name) (suc (suc (length (name ++ rest)))) (omega (arith, length-append name rest)),
      take-append_seam name rest,
      u,
    )

pub text_place : (maxSize sizeSoFar : ℕ) (s : List ℕ) → (fault_of (parse_text maxSize sizeSoFar s)).place ≤ length s
text_place maxSize sizeSoFar s = go (parse_text maxSize sizeSoFar s) (text_is maxSize sizeSoFar s)
  where
    go : (r : Parsed) → TextIs maxSize sizeSoFar s r → (fault_of r).place ≤ length s
    go (Err fault) (refused h) = h
    go (Ok n) t = omega arith
