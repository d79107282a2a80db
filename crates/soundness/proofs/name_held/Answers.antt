use Rattle.std.proofs.Common.{sym, ◌∙◌}
use Rattle.soundness.proofs.FingerprintLaws.{name_met}
use Rattle.soundness.proofs.name_held.Goals as goal

pub returns-then-is_name : goal.returns-then-is_name
returns-then-is_name g c =
    name_met (g.N.Names.entry c.args.names.now) c.args.i c.loop-j.j c.loop-j-test.true (sym c.name_at.ensures.name ∙ c.is_name.ensures.0 c.if-is_name.true ∙ c.name_at-name.ensures.name)
