-- `entries_are_sound` meets its contract: the entries passed are sound.
use Rattle.std.proofs.Common.{sym, arith}
use Rattle.soundness.specs.Sound.{sound_entry}
use Rattle.soundness.proofs.BelowLaws.{all_false}
use Rattle.soundness.proofs.entries_are_sound.Goals as goal

pub returns-then-not-entry_is_sound : goal.returns-then-not-entry_is_sound
returns-then-not-entry_is_sound c =
    let t = c.args.table in
    sym (all_false t.count (sound_entry t.heads.now t.bytes.now) c.loop-i.i (omega (arith, c.len-i-end.ensures)) (sym c.if-not-entry_is_sound.ensures))
