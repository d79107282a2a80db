use Rattle.std.proofs.Common.{rules, inl, inr}
use Rattle.nt2.proofs.Calls.{few_answered, stored_call}
use Rattle.nt2.proofs.nt2_create.Goals as goal

pub returns : goal.returns
returns c = elim c.change.ensures [ inl few ↦ search (rules, few_answered) | inr m ↦ stored_call _ _ m.flat _ _ _ _ _ _ _ _ _ m.changed m.unchanged m.past (search rules) ]
