-- `table_is_sound` meets its contract: sizes and count, then the entries, then their names decide.
use Rattle.std.proofs.Common.{sym, arith}
use Rattle.table.specs.Table.{table_memory, Holds, max_entries}
use Rattle.std.proofs.lemmas.Bool.{false_from_ne_true}
use Rattle.soundness.specs.Sound.{sound_table}
use Rattle.soundness.proofs.SoundLaws.{sound_facts, entries_named, fits_sound}
use Rattle.soundness.proofs.table_is_sound.Goals as goal

pub returns-then-table-lt-HEADS_SIZE : goal.returns-then-table-lt-HEADS_SIZE
returns-then-table-lt-HEADS_SIZE c =
    let t = c.args.table in
    sym (false_from_ne_true (sound_table max_entries (table_memory t.heads.now t.bytes.now t.count)) (λ h. absurd (omega (arith, (sound_facts max_entries _ h).holds.heads_hold))))

pub returns-then-table-lt-BYTES_SIZE : goal.returns-then-table-lt-BYTES_SIZE
returns-then-table-lt-BYTES_SIZE c =
    let t = c.args.table in
    sym (false_from_ne_true (sound_table max_entries (table_memory t.heads.now t.bytes.now t.count)) (λ h. absurd (omega (arith, (sound_facts max_entries _ h).holds.bytes_hold))))

pub returns-then-len-gt-MAX_ENTRIES : goal.returns-then-len-gt-MAX_ENTRIES
returns-then-len-gt-MAX_ENTRIES c =
    let t = c.args.table in
    sym (false_from_ne_true (sound_table max_entries (table_memory t.heads.now t.bytes.now t.count)) (λ h. absurd (omega (arith, c.len.ensures, (sound_facts max_entries _ h).count_fits))))

pub returns-then-not-entries_are_sound : goal.returns-then-not-entries_are_sound
returns-then-not-entries_are_sound c =
    let t = c.args.table in
    let holds : Holds max_entries t.heads.now t.bytes.now = record { heads_hold = omega arith; bytes_hold = omega arith } in
    rw (fits_sound max_entries (table_memory t.heads.now t.bytes.now t.count) holds (omega (arith, c.len.ensures)), sym c.if-not-entries_are_sound.ensures)

pub names_differ-requires : goal.names_differ-requires
names_differ-requires c =
    let t = c.args.table in
    let holds : Holds t.count t.heads.now t.bytes.now = record { heads_hold = omega (arith, c.len.ensures); bytes_hold = omega (arith, c.len.ensures) } in
    (omega (arith, c.len.ensures), entries_named t.count t.heads.now t.bytes.now holds (sym c.if-not-entries_are_sound.ensures))

pub returns : goal.returns
returns c =
    let t = c.args.table in
    let holds : Holds max_entries t.heads.now t.bytes.now = record { heads_hold = omega arith; bytes_hold = omega arith } in
    rw (fits_sound max_entries (table_memory t.heads.now t.bytes.now t.count) holds (omega (arith, c.len.ensures)), sym c.if-not-entries_are_sound.ensures) c.names_differ.ensures
