use Rattle.std.proofs.Common.{rules, refl, inl, inr}
use Rattle.nt2_deliver.proofs.FewLaws.{few_delivered, delivered_call}
use Rattle.nt2_deliver.proofs.nt2_deliver.Goals as goal

pub returns : goal.returns
returns c = elim c.change.ensures [ inl few ↦ search (rules, few_delivered) | inr m ↦ delivered_call _ _ m.flat _ _ _ _ _ _ _ _ _ _ _ (m.changed refl) m.past (search rules) ]
