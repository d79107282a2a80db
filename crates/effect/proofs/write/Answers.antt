-- `write` is the effect of a local write, whatever the marks are: the verdict is carried out.
use Rattle.std.proofs.Common.{[], ◌+◌, arith}
use Rattle.table.specs.Table.{table_memory, store_value, max_entries}
use Rattle.table.proofs.SearchLaws.{holds_less}
use Rattle.soundness.proofs.ReadableLaws.{sound_count, sound_holds}
use Rattle.protocol.specs.Judge.{local_write}
use Rattle.protocol.specs.Lent.{beside_marks}
use Rattle.effect.proofs.EffectLaws.{verdict_effect, refused_effect}
use Rattle.effect.proofs.write.Goals as goal

pub store_value-requires-clause-memory : goal.store_value-requires-clause-memory
store_value-requires-clause-memory c =
    let table = table_memory c.args.heads.now c.args.bytes.now c.args.count in
    let fits = ((rw c.in-Ok-Some.field-0-is at c.in-Ok-Some.ensures) []).writable in
    holds_less (c.from.result + 1) (omega (arith, c.from.ensures, fits.0, sound_count max_entries table c.requires)) (sound_holds max_entries table c.requires)

pub store_value-requires-clause-length : goal.store_value-requires-clause-length
store_value-requires-clause-length c = ((rw c.in-Ok-Some.field-0-is at c.in-Ok-Some.ensures) []).writable.1

pub returns-in-Ok-Some : goal.returns-in-Ok-Some
unfolding store_value
returns-in-Ok-Some c =
    let table = table_memory c.args.heads.now c.args.bytes.now c.args.count in
    let call = local_write c.args.id c.args.value.now in
    λ marks h.
    rw (c.store_value.ensures.heads, c.store_value.ensures.bytes, c.from.ensures)
    (verdict_effect (beside_marks table marks) (record { table = c.requires; marks = h }) call _ ((rw c.in-Ok-Some.field-0-is at c.in-Ok-Some.ensures) marks).verdict)

pub returns-in-Ok-None : goal.returns-in-Ok-None
returns-in-Ok-None c =
    let table = table_memory c.args.heads.now c.args.bytes.now c.args.count in
    let call = local_write c.args.id c.args.value.now in
    λ marks h.
    verdict_effect (beside_marks table marks) (record { table = c.requires; marks = h }) call _ ((rw c.in-Ok-None.field-0-is at c.in-Ok-None.ensures) marks).verdict

pub returns-in-Err : goal.returns-in-Err
returns-in-Err c =
    let table = table_memory c.args.heads.now c.args.bytes.now c.args.count in
    let call = local_write c.args.id c.args.value.now in
    λ marks h.
    refused_effect (beside_marks table marks) (record { table = c.requires; marks = h }) call c.in-Err.fault c.refusal.result c.refusal.ensures (c.in-Err.ensures marks).verdict
