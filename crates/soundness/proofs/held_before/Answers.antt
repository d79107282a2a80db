use Rattle.std.proofs.Common.{◌-◌, arith}
use Rattle.soundness.proofs.FingerprintLaws.{held_by_one}
use Rattle.soundness.proofs.held_before.Goals as goal

pub returns : goal.returns
returns g c =
    held_by_one (g.N.Names.entry c.args.names.now) c.args.i c.args.owner (c.args.owner - 1) c.is_name.result c.requires.owner c.requires.place
    (omega (arith, c.from-other.ensures)) (omega arith) (rw (c.name_at.ensures.name, c.name_at-2.ensures.name, c.from-other.ensures) at c.is_name.ensures)
