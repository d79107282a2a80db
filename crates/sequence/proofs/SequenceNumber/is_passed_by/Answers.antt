-- The body is the standard's two cases, one after the other, and these are the comparison by distance.
use Rattle.std.proofs.Common.{sym, arith, le-ltb, lt-ltb}
use mathlib.Core.Bool.{or-false}
use Rattle.sequence.specs.Rfc1982.{greater_than}
use Rattle.sequence.proofs.Rfc1982.{two_cases}
use Rattle.sequence.proofs.SequenceNumber.is_passed_by.Goals as goal

-- i1 < i2: the second case does not hold
pub returns-then-i1-i2 : goal.returns-then-i1-i2
unfolding greater_than
returns-then-i1-i2 c =
    rw (← (two_cases (c.args.self.0) (c.args.received.0) (omega arith) (omega arith)), lt-ltb (c.args.received.0) (c.args.self.0) (omega (arith, c.if-i1-i2.true)), le-ltb (c.args.self.0) (c.args.received.0) (omega (arith, c.if-i1-i2.true))) (sym (or-false _))

-- i1 > i2: the first case does not hold
pub returns-then-i1-i2-2 : goal.returns-then-i1-i2-2
unfolding greater_than
returns-then-i1-i2-2 c =
    rw (← (two_cases (c.args.self.0) (c.args.received.0) (omega arith) (omega arith)), le-ltb (c.args.received.0) (c.args.self.0) (omega (arith, c.if-i1-i2.false)), lt-ltb (c.args.self.0) (c.args.received.0) (omega (arith, c.if-i1-i2-2.true)))

-- they are equal: neither holds
pub returns : goal.returns
unfolding greater_than
returns c =
    rw (← (two_cases (c.args.self.0) (c.args.received.0) (omega arith) (omega arith)), le-ltb (c.args.received.0) (c.args.self.0) (omega (arith, c.if-i1-i2.false)), le-ltb (c.args.self.0) (c.args.received.0) (omega (arith, c.if-i1-i2-2.false)))
