-- `marks_are_sound` meets its contract: what was seen of the marks passed is the test of them all.
use Rattle.std.proofs.Common.{◌≡◌, ◌<◌, ◌&&◌, Bool, leb, length, slice_index, ap, arith, add-one, le-leb, length-take}
use Rattle.std.proofs.lemmas.List.{get_or-take}
use Rattle.soundness.specs.Sound.{sound_marks, all_below, greeted}
use Rattle.soundness.proofs.marks_are_sound.Goals as goal

pub loop-mark-preserved : goal.loop-mark-preserved
unfolding all_below
loop-mark-preserved c =
    let marks = c.args.marks.now in
    let k = c.loop-mark.mark-index in
    let inside : k < 16 = omega (arith, length-take 16 marks) in
    rw (add-one, get_or-take 16 marks k 0 inside) (ap (λ (t : Bool). t && leb (slice_index marks k) greeted) c.loop-mark.invariant)

pub returns : goal.returns
unfolding sound_marks
returns c =
    let marks = c.args.marks.now in
    let all : c.loop-mark.mark-index ≡ 16 = omega (arith, length-take 16 marks) in
    rw (le-leb 16 (length marks) (omega arith), ← all) c.loop-mark.invariant
