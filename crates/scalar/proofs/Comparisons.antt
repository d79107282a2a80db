-- What is computed of equal values, unfolded far enough for a rule that goes by type or compares numbers too; equal values are the same bytes.
use mathlib.Core.Path.{refl}
use lib.Ieee.{of_bits, eq}
use Rattle.field.specs.Choice.{pick}
use Rattle.field.specs.Octets.{decode16, bytes_equal}
use Rattle.field.proofs.EqualLaws.{bytes_equal_true, equal_bytes}
use Rattle.scalar.specs.Scalar.{decode64, scalar_of, equal_values}
use Rattle.scalar.specs.Comparisons.{EqualExactly, ZerosDiffer, NansAsBytes, CountsDiffer, DoubleRead}

pub zeros_differ : ZerosDiffer
unfolding of_bits eq pick decode16 decode64 bytes_equal equal_values
zeros_differ = (refl, refl)

pub nans_as_bytes : NansAsBytes
unfolding of_bits eq pick decode16 decode64 bytes_equal equal_values
nans_as_bytes = ((refl, refl), (refl, refl))

pub counts_differ : CountsDiffer
unfolding of_bits eq pick decode16 decode64 bytes_equal equal_values
counts_differ = refl

pub double_read : DoubleRead
unfolding pick decode16 decode64 scalar_of
double_read = refl

pub equal_exactly : EqualExactly
unfolding equal_values
equal_exactly type v w = record { equal_same = bytes_equal_true v w; same_equal = equal_bytes v w }
