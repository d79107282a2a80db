-- `read_saved` meets its contract: the first record, and as many behind it as it says.
use Rattle.std.proofs.Common.{sym, ap, ◌∙◌, arith, rules}
use Rattle.table.specs.Table.{max_entries}
use Rattle.load.specs.Records.{outcome}
use Rattle.load.proofs.RecordsLaws.{count_taken, form_stop, form_counted}
use Rattle.load.proofs.read_saved.Goals as goal

pub returns-in_err-read_count : goal.returns-in_err-read_count
returns-in_err-read_count c =
    let stop = form_stop max_entries c.args.saved.now c.in_err-read_count.field-0.0 (sym c.read_count.ensures ∙ c.in_err-read_count.was) in
    search (rules, stop)

pub bounds-saved-1 : goal.bounds-saved-1
bounds-saved-1 c =
    let counted = count_taken max_entries c.args.saved.now c.in_ok-read_count.field-0 (sym c.read_count.ensures ∙ c.in_ok-read_count.was) in
    omega (arith, counted.2)

pub read_records-requires : goal.read_records-requires
read_records-requires c =
    let counted = count_taken max_entries c.args.saved.now c.in_ok-read_count.field-0 (sym c.read_count.ensures ∙ c.in_ok-read_count.was) in
    (omega (arith, c.from.ensures, counted.1), counted.2)

pub returns : goal.returns
returns c =
    let counted = form_counted max_entries c.args.saved.now c.in_ok-read_count.field-0 (sym c.read_count.ensures ∙ c.in_ok-read_count.was) in
    rw c.from.ensures at c.read_records.ensures ∙ ap outcome (sym counted)
