-- The marked comparisons, and those that look right, are computed.
use Rattle.std.proofs.Common.{refl}
use Rattle.sequence.specs.SequenceNumber.{passed_by}
use Rattle.sequence.specs.Comparisons.{ComparisonsHold, PlainIntegers, NotLess, NoTotalOrder}

pub comparisons_hold : ComparisonsHold
unfolding passed_by
comparisons_hold = refl

pub plain_integers : PlainIntegers
plain_integers = refl

pub not_less : NotLess
unfolding passed_by
not_less = refl

pub no_total_order : NoTotalOrder
unfolding passed_by
no_total_order = (refl, refl, refl, refl)
