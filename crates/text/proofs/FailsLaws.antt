-- What is true at the place that a text is refused with.
use Rattle.field.specs.Field.{Parsed}
use mathlib.Core.Path.{◌≡◌, sym}
use mathlib.Core.Bool.{false, false≢true}
use mathlib.Core.Logic.{◌≢◌}
use mathlib.Core.List.{List}
use Prim.Native.Nat.{ℕ, zero, suc, ◌+◌, ◌<◌}
use native.Mathlib.Omega.{arith}
use lib.ListN.{length, take, drop}
use borrow.Author.Tests.{leb-true, leb-false, le-leb, lt-leb}
use Rattle.field.specs.Answer.{unknown_type}
use Rattle.field.specs.Choice.{pick}
use Rattle.field.specs.Octets.{decode16}
use Rattle.field.specs.Place.{TellsPlace}
use Rattle.field.proofs.ChoiceLaws.{by_test}
use Rattle.field.proofs.PlaceLaws.{Refuses, refuses_with, refused_with_lem}
use Rattle.utf8.specs.Utf8.{is_utf8, utf8_from}
use Rattle.text.specs.Text.{parse_text}
use Rattle.text.specs.Fails.{TextFailsAt, TextFails, TextFailing}

pub text_refuses : (maxSize sizeSoFar : ℕ) (s : List ℕ) → Refuses (TextFailsAt maxSize sizeSoFar s) (parse_text maxSize sizeSoFar s)
unfolding parse_text
text_refuses maxSize sizeSoFar s =
    by_test P _ _ _ (λ there. by_test P _ _ _ (λ fits. by_test P _ _ _ (λ all. by_test P _ _ _ (λ _. Refuses.taken)
    (λ u. refuses_with F 9 2 (TextFailsAt.not_text (leb-true _ _ fits) (leb-true _ _ all) u)))
    (λ cut. refuses_with F 1 2 (TextFailsAt.cut_text (leb-true _ _ there) (leb-true _ _ fits) (leb-false _ _ cut))))
    (λ l. refuses_with F 10 0 (TextFailsAt.long_text (leb-true _ _ there) (leb-false _ _ l))))
    (λ cut. refuses_with F 1 0 (TextFailsAt.cut_prefix (leb-false _ _ cut)))
  where
    F : ℕ → ℕ → Type 0
    F = TextFailsAt maxSize sizeSoFar s

    P : Parsed → Type 0
    P = Refuses F

pub text_fails : TextFails
text_fails maxSize sizeSoFar s fault e = refused_with_lem (TextFailsAt maxSize sizeSoFar s) fault (rw e at (text_refuses maxSize sizeSoFar s))

-- a text has no type
pub text_number : (maxSize sizeSoFar : ℕ) (s : List ℕ) (number place : ℕ) → TextFailsAt maxSize sizeSoFar s number place → number ≢ unknown_type
text_number maxSize sizeSoFar s number place (TextFailsAt.long_text there l) e = omega arith
text_number maxSize sizeSoFar s number place (TextFailsAt.not_text fits all u) e = omega arith
text_number maxSize sizeSoFar s number place (TextFailsAt.cut_prefix l) e = omega arith
text_number maxSize sizeSoFar s number place (TextFailsAt.cut_text there fits l) e = omega arith

-- a text that is not UTF-8 has a byte
pub some_byte : (n : ℕ) (s : List ℕ) → is_utf8 (take n s) ≡ false → 0 < n
unfolding is_utf8 utf8_from
some_byte zero s u = absurd (false≢true (sym u))
some_byte (suc n) s u = omega arith

-- so the place is that of a byte
pub text_within : (maxSize sizeSoFar : ℕ) (s : List ℕ) (number place : ℕ) → TextFailsAt maxSize sizeSoFar s number place → TellsPlace number → place < length s
text_within maxSize sizeSoFar s number place (TextFailsAt.long_text there l) tells = omega arith
text_within maxSize sizeSoFar s number place (TextFailsAt.not_text fits all u) tells = omega (arith, some_byte (decode16 s) (drop 2 s) u)
text_within maxSize sizeSoFar s number place (TextFailsAt.cut_prefix l) tells = absurd (omega arith)
text_within maxSize sizeSoFar s number place (TextFailsAt.cut_text there fits l) tells = absurd (omega arith)

pub text_failing : TextFailing
unfolding parse_text pick
text_failing maxSize sizeSoFar s number place (TextFailsAt.long_text there l) = rw (le-leb 2 (length s) there, lt-leb (sizeSoFar + (2 + decode16 s)) maxSize l)
text_failing maxSize sizeSoFar s number place (TextFailsAt.not_text fits all u) =
    rw (le-leb 2 (length s) (omega arith), le-leb (sizeSoFar + (2 + decode16 s)) maxSize fits, le-leb (2 + decode16 s) (length s) all, u)
text_failing maxSize sizeSoFar s number place (TextFailsAt.cut_prefix l) = rw (lt-leb 2 (length s) l)
text_failing maxSize sizeSoFar s number place (TextFailsAt.cut_text there fits l) =
    rw (le-leb 2 (length s) there, le-leb (sizeSoFar + (2 + decode16 s)) maxSize fits, lt-leb (2 + decode16 s) (length s) l)
