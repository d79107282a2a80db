-- `write` is the definition's local write: the value lies inside the message that was read.
use Rattle.std.proofs.Common.{◌≡◌, Err, rules, sym, arith}
use Rattle.table.specs.Table.{table_memory, max_entries}
use Rattle.table.proofs.UpdateLaws.{held_update_fits}
use Rattle.line_record.specs.Held.{plant_effect}
use Rattle.plant.proofs.PlantLaws.{taken_effect, stopped_effect}
use Rattle.plant.proofs.write.Goals as goal

pub value-requires : goal.value-requires
value-requires c =
    let read = c.in-Ok.update in
    (held_update_fits (table_memory c.args.heads.now c.args.bytes.now c.args.count) c.args.m.now read.id read.number read.value_length (sym c.in-Ok.ensures)).1

pub size-requires : goal.size-requires
size-requires c =
    let read = c.in-Ok.update in
    omega (arith, (held_update_fits (table_memory c.args.heads.now c.args.bytes.now c.args.count) c.args.m.now read.id read.number read.value_length (sym c.in-Ok.ensures)).2)

pub returns-in_err-outcome-in-Ok : goal.returns-in_err-outcome-in-Ok
returns-in_err-outcome-in-Ok c =
    let refusal = c.in_err-outcome-in-Ok.field-0.0 in
    let e : c.from_residual.result ≡ Err refusal = search rules in
    λ marks sound.
    rw (e, ← c.in-Ok.ensures) (stopped_effect max_entries _ _ _ _ refusal (rw c.value.ensures at (c.in_err-outcome-in-Ok.ensures marks sound)))

pub returns-in_ok-outcome-in-Ok : goal.returns-in_ok-outcome-in-Ok
returns-in_ok-outcome-in-Ok c =
    λ marks sound.
    rw (← c.in-Ok.ensures, c.size.ensures) (taken_effect max_entries _ _ _ _ c.in_ok-outcome-in-Ok.outcome (rw c.value.ensures at (c.in_ok-outcome-in-Ok.ensures marks sound)))

pub returns-in-Err : goal.returns-in-Err
unfolding plant_effect
returns-in-Err c =
    λ marks sound.
    rw (← c.in-Err.ensures, c.refusal.ensures)
