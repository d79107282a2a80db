use Rattle.std.proofs.Common.{◌≡◌, true}
use Rattle.soundness.specs.Sound.{all_below, sound_entry}
use Rattle.soundness.proofs.entries_are_sound.Given as goal

abbrev pub invariant-loop-i : goal.invariant-loop-i
invariant-loop-i l = all_below l.i (sound_entry l.table.heads.now l.table.bytes.now) ≡ true
