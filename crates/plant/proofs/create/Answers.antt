-- `create` is the definition's local create: the name and the value lie inside the message that was read.
use Rattle.std.proofs.Common.{◌≡◌, Err, rules, sym, arith}
use Rattle.message.specs.Reader.{id_allowed}
use Rattle.message.specs.declared.AllowedId.TheVariants.{Only}
use Rattle.message.proofs.TakenLaws.{assignment_fits}
use Rattle.table.specs.Table.{max_entries}
use Rattle.protocol.specs.Judge.{new_id}
use Rattle.line_record.specs.Held.{plant_effect}
use Rattle.effect.specs.declared.Outcome.TheVariants as O
use Rattle.plant.proofs.PlantLaws.{taken_effect, stopped_effect}
use Rattle.plant.proofs.create.Goals as goal

pub name-requires : goal.name-requires
name-requires c =
    let read = c.in-Ok.read in
    (assignment_fits (id_allowed (Only new_id)) c.args.m.now read.name_length read.type_code read.id read.number read.value_length (sym c.in-Ok.ensures)).0

pub value-requires : goal.value-requires
value-requires c =
    let read = c.in-Ok.read in
    (assignment_fits (id_allowed (Only new_id)) c.args.m.now read.name_length read.type_code read.id read.number read.value_length (sym c.in-Ok.ensures)).0

pub size-requires : goal.size-requires
size-requires c =
    let read = c.in-Ok.read in
    let fits = assignment_fits (id_allowed (Only new_id)) c.args.m.now read.name_length read.type_code read.id read.number read.value_length (sym c.in-Ok.ensures) in
    omega (arith, fits.1, fits.2)

pub returns-in_err-create-in-Ok : goal.returns-in_err-create-in-Ok
returns-in_err-create-in-Ok c =
    let refusal = c.in_err-create-in-Ok.field-0.0 in
    let e : c.from_residual.result ≡ Err refusal = search rules in
    λ marks sound.
    rw (e, ← c.in-Ok.ensures) (stopped_effect max_entries _ _ _ _ refusal (rw (c.name.ensures, c.value.ensures) at (c.in_err-create-in-Ok.ensures marks sound)))

pub returns-in_ok-create-in-Ok : goal.returns-in_ok-create-in-Ok
returns-in_ok-create-in-Ok c =
    λ marks sound.
    rw (← c.in-Ok.ensures, c.size.ensures) (taken_effect max_entries _ _ _ _ O.Done (rw (c.name.ensures, c.value.ensures) at (c.in_ok-create-in-Ok.ensures marks sound)))

pub returns-in-Err : goal.returns-in-Err
unfolding plant_effect
returns-in-Err c =
    λ marks sound.
    rw (← c.in-Err.ensures, c.plant_refusal.ensures, c.refusal.ensures)
