use Rattle.std.proofs.Common.{◌≡◌, leb, slice_index}
use Rattle.soundness.specs.Sound.{all_below, greeted}
use Rattle.soundness.proofs.marks_are_sound.Given as goal

abbrev pub invariant-loop-mark : goal.invariant-loop-mark
invariant-loop-mark l = l.sound ≡ all_below l.mark-index (λ c. leb (slice_index l.marks c) greeted)
