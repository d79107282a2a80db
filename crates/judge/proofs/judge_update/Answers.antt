-- `judge_update` decides as the definition does of what was read, by the number of the held entry.
use Rattle.std.proofs.Common.{◌≡◌, true, false, Err, rules, arith, ap, sym}
use Rattle.sequence.specs.SequenceNumber.{passed_by}
use Rattle.message.specs.Layout.{Entry}
use Rattle.table.specs.Table.{table_memory, entry_at}
use Rattle.judge.proofs.DecisionLaws.{update_within, update_refused, update_ignored, update_stored}
use Rattle.judge.proofs.judge_update.Goals as goal

pub returns-in_err-update : goal.returns-in_err-update
returns-in_err-update c =
    let t = c.args.table.table in
    let fault = c.in_err-update.field-0.0 in
    let e : c.from_residual.result ≡ Err fault = search rules in
    λ sender. rw e (update_refused (table_memory t.heads.now t.bytes.now t.count) sender c.args.m.now fault c.in_err-update.ensures)

pub entry-requires : goal.entry-requires
entry-requires c =
    let t = c.args.table.table in
    let fits = update_within (table_memory t.heads.now t.bytes.now t.count) 0 c.args.m.now c.in_ok-update.update c.in_ok-update.ensures in
    omega (arith, c.from.ensures, fits.0)

pub size-requires : goal.size-requires
size-requires c =
    let t = c.args.table.table in
    let fits = update_within (table_memory t.heads.now t.bytes.now t.count) 0 c.args.m.now c.in_ok-update.update c.in_ok-update.ensures in
    omega (arith, fits.2)

pub returns-then-not-is_passed_by : goal.returns-then-not-is_passed_by
returns-then-not-is_passed_by c =
    let t = c.args.table.table in
    let read = c.in_ok-update.update in
    let number = ap (λ (e : Entry). e.number) (rw c.from.ensures at c.entry.ensures.entry) in
    let late : passed_by (entry_at t.heads.now t.bytes.now read.id).number read.number ≡ false = rw number at (sym c.if-not-is_passed_by.ensures) in
    λ sender. rw c.size.ensures (update_ignored (table_memory t.heads.now t.bytes.now t.count) sender c.args.m.now read c.in_ok-update.ensures late)

pub returns : goal.returns
returns c =
    let t = c.args.table.table in
    let read = c.in_ok-update.update in
    let number = ap (λ (e : Entry). e.number) (rw c.from.ensures at c.entry.ensures.entry) in
    let passes : passed_by (entry_at t.heads.now t.bytes.now read.id).number read.number ≡ true = rw number at (sym c.if-not-is_passed_by.ensures) in
    λ sender. update_stored (table_memory t.heads.now t.bytes.now t.count) sender c.args.m.now read c.in_ok-update.ensures passes
