use Rattle.std.proofs.Common.{ap, ◌∙◌, arith}
use Rattle.soundness.specs.Fingerprint.{fingerprint_of}
use Rattle.soundness.proofs.FingerprintLaws.{fingerprint_small, owned_more}
use Rattle.soundness.proofs.Owners.insert.Goals as goal

pub bounds-self-inside-f : goal.bounds-self-inside-f
bounds-self-inside-f g c = omega (arith, c.fingerprint-f.ensures, fingerprint_small c.name_at.result.now)

pub bounds-self-inside-f-2 : goal.bounds-self-inside-f-2
bounds-self-inside-f-2 g c = omega (arith, c.fingerprint-f.ensures, fingerprint_small c.name_at.result.now)

pub returns-clause-owned : goal.returns-clause-owned
returns-clause-owned g c =
    let print = c.fingerprint-f.ensures ∙ ap fingerprint_of c.name_at.ensures.name in
    rw (c.next_owner.ensures, print)
    (owned_more c.self.inside.owners (g.N.Names.entry c.args.names.now) c.args.i (omega (arith, c.self.told)) (rw (← c.self.view_is) at c.requires.owned))
