use Rattle.std.proofs.Common.{arith}
use Rattle.message.specs.Kinds.{IsKindOf}
use Rattle.message.specs.declared.Kind.TheVariants as K
use Rattle.message.proofs.KindLaws.{unknown_byte}
use Rattle.message.proofs.KindTryFromU8.try_from.Goals as goal

pub returns-in-0 : goal.returns-in-0
returns-in-0 c = rw c.in-0.is (IsKindOf.known K.KeepAlive)

pub returns-in-1 : goal.returns-in-1
returns-in-1 c = rw c.in-1.is (IsKindOf.known K.Hello)

pub returns-in-2 : goal.returns-in-2
returns-in-2 c = rw c.in-2.is (IsKindOf.known K.Unsupported)

pub returns-in-3 : goal.returns-in-3
returns-in-3 c = rw c.in-3.is (IsKindOf.known K.HelloComplete)

pub returns-in-16 : goal.returns-in-16
returns-in-16 c = rw c.in-16.is (IsKindOf.known K.Assignment)

pub returns-in-17 : goal.returns-in-17
returns-in-17 c = rw c.in-17.is (IsKindOf.known K.Update)

pub returns-in_default : goal.returns-in_default
returns-in_default c = unknown_byte c.args.byte (omega arith) (omega arith) (omega arith) (omega arith) (omega arith) (omega arith)
