use Rattle.std.proofs.Common.{rules, inl, inr}
use Rattle.nt2.proofs.Calls.{few_copied, stored_copy}
use Rattle.nt2.proofs.nt2_copy_receive.Goals as goal

pub returns : goal.returns
returns c = elim c.change.ensures [ inl few ↦ search (rules, few_copied) | inr m ↦ stored_copy _ _ m.flat _ _ _ _ _ _ m.changed m.unchanged m.past (search rules) ]
