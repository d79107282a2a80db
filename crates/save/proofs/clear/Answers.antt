use Rattle.std.proofs.Common.{◌≡◌, ℕ, arith, length-take, length-drop}
use Rattle.save.proofs.SaveLaws.{zeros_stored}
use Rattle.save.proofs.clear.Goals as goal

pub returns : goal.returns
returns c =
    let all : c.loop-b.b-index ≡ c.args.n = omega (arith, length-take {A = ℕ}, length-drop {A = ℕ}) in
    zeros_stored c.args.out.now c.args.at c.args.n _ c.loop-b.b-items c.requires (omega arith) (omega (arith, all)) (rw all at c.loop-b.invariant)
