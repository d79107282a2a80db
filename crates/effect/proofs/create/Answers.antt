-- `create` is the effect of a local create, whatever the marks are: the verdict is carried out.
use Rattle.std.proofs.Common.{[], ◌+◌, arith, ap, length}
use Rattle.message.specs.Layout.{Entry}
use Rattle.table.specs.Table.{table_memory, max_entries}
use Rattle.table.proofs.SearchLaws.{holds_less}
use Rattle.soundness.proofs.ReadableLaws.{sound_holds}
use Rattle.protocol.specs.Judge.{local_create}
use Rattle.protocol.specs.Lent.{beside_marks}
use Rattle.effect.proofs.EffectLaws.{verdict_effect, refused_effect}
use Rattle.effect.proofs.create.Goals as goal

pub add_entry-requires-clause-memory : goal.add_entry-requires-clause-memory
add_entry-requires-clause-memory c =
    let table = table_memory c.args.heads.now c.args.bytes.now c.args.count.now in
    let room = (c.in-Ok.ensures []).creatable.0 in
    (omega (arith, room), holds_less (c.args.count.now + 1) (omega (arith, room)) (sound_holds max_entries table c.requires))

pub add_entry-requires-clause-lengths : goal.add_entry-requires-clause-lengths
add_entry-requires-clause-lengths c =
    let fits = (c.in-Ok.ensures []).creatable in
    omega (arith, fits.1, fits.2, ap (λ (e : Entry). length e.name) c.new_entry-entry.ensures.entry, ap (λ (e : Entry). length e.value) c.new_entry-entry.ensures.entry)

pub returns-in-Ok : goal.returns-in-Ok
returns-in-Ok c =
    let table = table_memory c.args.heads.now c.args.bytes.now c.args.count.now in
    let call = local_create c.args.name.now c.args.type_code c.args.value.now in
    λ marks h.
    rw (c.add_entry.ensures, c.new_entry-entry.ensures.entry)
    (verdict_effect (beside_marks table marks) (record { table = c.requires; marks = h }) call _ (c.in-Ok.ensures marks).verdict)

pub returns-in-Err : goal.returns-in-Err
returns-in-Err c =
    let table = table_memory c.args.heads.now c.args.bytes.now c.args.count.now in
    let call = local_create c.args.name.now c.args.type_code c.args.value.now in
    λ marks h.
    refused_effect (beside_marks table marks) (record { table = c.requires; marks = h }) call c.in-Err.fault c.refusal.result c.refusal.ensures (c.in-Err.ensures marks).verdict
