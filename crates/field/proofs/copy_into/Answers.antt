-- `copy_into` stores all of src. The loop's invariant: the first k bytes are stored, and the output keeps its length.
use mathlib.Core.Path.{◌≡◌, refl}
use native.Mathlib.Omega.{arith}
use lib.ListN.{length, length-set}
use lib.Seq.{take-length}
use Rattle.field.specs.Octets.{overwrite_at}
use Rattle.field.proofs.OverwriteLaws.{overwrite_more}
use Rattle.field.proofs.copy_into.Goals as goal

pub loop-k-init : goal.loop-k-init
unfolding overwrite_at
loop-k-init c = (refl, refl)

pub loop-k-preserved : goal.loop-k-preserved
loop-k-preserved c =
    (simp length-set (omega arith), rw c.loop-k.invariant.1 (overwrite_more c.args.out.now c.args.at c.args.src.now c.loop-k.k (omega arith)))

pub returns : goal.returns
returns c =
    let e : c.loop-k.k ≡ length c.args.src.now = omega arith in
    rw (← (take-length c.args.src.now), ← e) c.loop-k.invariant.1
