-- `save` is the call: soundness decides, then the output's room, and the form is stored.
use Rattle.std.proofs.Common.{◌≡◌, true, arith}
use Rattle.table.specs.Memory.{memory_of}
use Rattle.table.specs.Table.{max_entries}
use Rattle.soundness.specs.Sound.{sound_table}
use Rattle.soundness.proofs.ReadableLaws.{sound_count}
use Rattle.save.proofs.SaveLaws.{form_saved}
use Rattle.save.proofs.save.Goals as goal

pub size_of-size-requires : goal.size_of-size-requires
size_of-size-requires c =
    let sound : sound_table max_entries (memory_of c.args.table) ≡ true = rw c.in-Some.ensures.same at c.in-Some.sound.sound in
    omega (arith, sound_count max_entries (memory_of c.args.table) sound)

pub returns : goal.returns
returns c =
    let sound : sound_table max_entries (memory_of c.args.table) ≡ true = rw c.in-Some.ensures.same at c.in-Some.sound.sound in
    rw c.done.ensures
    (form_saved max_entries (memory_of c.args.table) c.args.out.now c.size_of-size.result c.put_form.new.out sound (rw c.len.ensures at c.size_of-size.ensures) (omega arith)
    (rw c.in-Some.ensures.same at c.put_form.ensures))
