use Rattle.std.proofs.Common.{arith}
use Rattle.replay.specs.Kinds.{IsKindOf}
use Rattle.replay.proofs.ReadLaws.{is_data_kind, not_known}
use Rattle.replay.proofs.KindTryFromU8.try_from.Goals as goal

pub returns-in-1 : goal.returns-in-1
returns-in-1 c = rw c.in-1.is IsKindOf.opening

pub returns-in-2 : goal.returns-in-2
returns-in-2 c = rw c.in-2.is IsKindOf.leaving

pub returns-in-64-to-127 : goal.returns-in-64-to-127
returns-in-64-to-127 c = rw c.from.ensures (IsKindOf.bytes (is_data_kind c.args.byte (omega arith) (omega arith)))

pub returns-in_default : goal.returns-in_default
returns-in_default c = IsKindOf.unknown (not_known c.args.byte (λ e. omega (arith, e)) (λ e. omega (arith, e)) (λ l. omega (arith, l)))

pub returns-in_default-2 : goal.returns-in_default-2
returns-in_default-2 c = IsKindOf.unknown (not_known c.args.byte (λ e. omega (arith, e)) (λ e. omega (arith, e)) (λ l. omega (arith, l)))
