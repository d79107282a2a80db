use Rattle.std.proofs.Common.{arith}
use Rattle.value.specs.Types.{IsTypeOf}
use Rattle.value.specs.declared.Element.TheVariants as E
use Rattle.value.specs.declared.ValueType.TheVariants as T
use Rattle.value.proofs.TypeLaws.{unknown_code}
use Rattle.value.proofs.ValueTypeTryFromU8.try_from.Goals as goal

pub returns-in-0 : goal.returns-in-0
returns-in-0 c = rw c.in-0.is (IsTypeOf.known (T.Single E.Boolean))

pub returns-in-1 : goal.returns-in-1
returns-in-1 c = rw c.in-1.is (IsTypeOf.known (T.Single E.Double))

pub returns-in-2 : goal.returns-in-2
returns-in-2 c = rw c.in-2.is (IsTypeOf.known (T.Single E.String))

pub returns-in-16 : goal.returns-in-16
returns-in-16 c = rw c.in-16.is (IsTypeOf.known (T.Array E.Boolean))

pub returns-in-17 : goal.returns-in-17
returns-in-17 c = rw c.in-17.is (IsTypeOf.known (T.Array E.Double))

pub returns-in-18 : goal.returns-in-18
returns-in-18 c = rw c.in-18.is (IsTypeOf.known (T.Array E.String))

pub returns-in_default : goal.returns-in_default
returns-in_default c =
    IsTypeOf.unknown (unknown_code c.args.code (omega arith) (omega arith) (omega arith) (omega arith) (omega arith) (omega arith))
