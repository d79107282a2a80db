-- `load` meets its contract: 14, 3, what reading the saved form refuses; or its entries are stored.
use Rattle.std.proofs.Common.{sym, arith}
use Rattle.table.specs.Table.{table_memory, max_entries}
use Rattle.soundness.proofs.SoundLaws.{marks_facts}
use Rattle.soundness.proofs.ReadableLaws.{sound_holds}
use Rattle.load.proofs.RecordsLaws.{form_read}
use Rattle.load.proofs.CallLaws.{load_unsound, load_unmarked, load_connected, load_refused, load_stored}
use Rattle.load.proofs.load.Goals as goal
use Rattle.load.proofs.load.Goals.{then-not-table_is_sound-via-then-not-table_is_sound, then-not-table_is_sound-via-else-not-table_is_sound+then-not-marks_are_sound}

pub returns-then-not-table_is_sound : goal.returns-then-not-table_is_sound
returns-then-not-table_is_sound c =
    let m = table_memory c.args.heads.now c.args.bytes.now c.args.count.now in
    rw c.unsound.ensures (elim c.then-not-table_is_sound.branch [
      | then-not-table_is_sound-via-then-not-table_is_sound w ↦ load_unsound max_entries m c.args.marks.now c.args.saved.now (sym w.if-not-table_is_sound.ensures)
      | then-not-table_is_sound-via-else-not-table_is_sound+then-not-marks_are_sound w ↦
          load_unmarked max_entries m c.args.marks.now c.args.saved.now (sym w.if-not-table_is_sound.ensures) (sym w.if-not-marks_are_sound.ensures)
    ])

pub all_closed-requires : goal.all_closed-requires
all_closed-requires c = (marks_facts c.args.marks.now (sym c.if-not-marks_are_sound.ensures)).0

pub returns-then-not-all_closed : goal.returns-then-not-all_closed
returns-then-not-all_closed c =
    let m = table_memory c.args.heads.now c.args.bytes.now c.args.count.now in
    rw (c.refused.ensures, c.new.ensures)
    (load_connected max_entries m c.args.marks.now c.args.saved.now (sym c.if-not-table_is_sound.ensures) (sym c.if-not-marks_are_sound.ensures) (sym c.if-not-all_closed.ensures))

pub store_records-requires-clause-memory : goal.store_records-requires-clause-memory
store_records-requires-clause-memory c =
    let m = table_memory c.args.heads.now c.args.bytes.now c.args.count.now in
    let read = form_read max_entries c.args.saved.now c.in-Ok.n (sym c.in-Ok.ensures) in
    (read.2, sound_holds max_entries m (sym c.if-not-table_is_sound.ensures))

pub store_records-requires-clause-records : goal.store_records-requires-clause-records
store_records-requires-clause-records c = (form_read max_entries c.args.saved.now c.in-Ok.n (sym c.in-Ok.ensures)).1

pub overflow_cast-count : goal.overflow_cast-count
overflow_cast-count c = omega (arith, (form_read max_entries c.args.saved.now c.in-Ok.n (sym c.in-Ok.ensures)).2)

pub returns-in-Ok : goal.returns-in-Ok
returns-in-Ok c =
    let m = table_memory c.args.heads.now c.args.bytes.now c.args.count.now in
    rw (c.done.ensures, c.store_records.ensures)
    (load_stored max_entries m c.args.marks.now c.args.saved.now (sym c.if-not-table_is_sound.ensures) (sym c.if-not-marks_are_sound.ensures) (sym c.if-not-all_closed.ensures) c.in-Ok.n (sym c.in-Ok.ensures))

pub returns-in-Err : goal.returns-in-Err
returns-in-Err c =
    let m = table_memory c.args.heads.now c.args.bytes.now c.args.count.now in
    rw c.refused-in-Err.ensures
    (load_refused max_entries m c.args.marks.now c.args.saved.now (sym c.if-not-table_is_sound.ensures) (sym c.if-not-marks_are_sound.ensures) (sym c.if-not-all_closed.ensures) c.in-Err.fault (sym c.in-Err.ensures))
