use Rattle.std.proofs.Common.{rules, refl, inl, inr}
use Rattle.nt2_replay.proofs.FewLaws.{few_replayed, replayed_call}
use Rattle.nt2_replay.proofs.nt2_replay.Goals as goal

pub returns : goal.returns
returns c = elim c.change.ensures [ inl few ↦ search (rules, few_replayed) | inr m ↦ replayed_call _ _ m.flat _ _ _ _ _ _ _ _ (m.changed refl) m.past (search rules) ]
