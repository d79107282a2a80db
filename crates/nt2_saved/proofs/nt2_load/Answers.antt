use Rattle.std.proofs.Common.{rules, inl, inr}
use Rattle.nt2_saved.proofs.CallLaws.{few_loaded, loaded_call}
use Rattle.nt2_saved.proofs.nt2_load.Goals as goal

pub returns : goal.returns
returns c = elim c.change.ensures [ inl few ↦ search (rules, few_loaded) | inr m ↦ loaded_call _ _ m.flat _ _ _ _ _ _ _ m.changed m.unchanged m.past (search rules) ]
