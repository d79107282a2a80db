use borrow.Author.Tests.{lt-ltb, le-ltb}
use mathlib.Core.Path.{◌≡◌, refl, sym, ◌∙◌}
use mathlib.Core.Bool.{true, false}
use Prim.Native.Nat.{ℕ, ◌%◌, ◌<◌, ◌≤◌}
use lib.Ieee.{Float, nan, inf, fin, binary64, of_bits, nan_bits, is_nan, div}
use lib.Ieee.Bits.{nan_bits_is, nan_bits_above}
use Rattle.scalar.proofs.double_of.Goals as goal

-- a number that is not one is the one that there is
is-nan : (x : Float) → is_nan x ≡ true → x ≡ nan
unfolding is_nan
is-nan nan e = refl
is-nan (inf s) e = cc
is-nan (fin s m k) e = cc

of_nan : (n : ℕ) → 9218868437227405312 < n % 9223372036854775808 → of_bits binary64 n ≡ nan
of_nan n h = is-nan (of_bits binary64 n) (sym (nan_bits_is binary64 n) ∙ nan_bits_above binary64 n ∙ lt-ltb _ _ h)

no_nan : (n : ℕ) → n % 9223372036854775808 ≤ 9218868437227405312 → nan_bits binary64 n ≡ false
no_nan n h = nan_bits_above binary64 n ∙ le-ltb _ _ h

pub returns-then-n-gt-INFINITY : goal.returns-then-n-gt-INFINITY
unfolding div of_bits
returns-then-n-gt-INFINITY c = sym (of_nan c.args.n c.if-n-gt-INFINITY.true)

pub float_from_bits-result : goal.float_from_bits-result
float_from_bits-result c = rw (no_nan c.args.n c.if-n-gt-INFINITY.false) tt
