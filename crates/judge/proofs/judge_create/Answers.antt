-- `judge_create` decides as the definition does: name, type and value, the search over names, and the limit.
use Rattle.std.proofs.Common.{◌≡◌, true, false, Err, rules, arith}
use Rattle.table.specs.Table.{table_memory, entries_of}
use Rattle.table.specs.Names.{name_held}
use Rattle.judge.proofs.DecisionLaws.{create_bad_name, create_bad_value, create_held, create_full, create_done, search_tells}
use Rattle.judge.proofs.judge_create.Goals as goal

pub returns-in_err-check_name : goal.returns-in_err-check_name
returns-in_err-check_name c =
    let t = c.args.table.table in
    let fault = c.in_err-check_name.field-0.0 in
    let e : c.from_residual.result ≡ Err fault = search rules in
    λ marks. rw e (create_bad_name (table_memory t.heads.now t.bytes.now t.count) marks c.args.name.now c.args.type_code c.args.value.now fault c.in_err-check_name.ensures)

pub returns-in_err-read_lone : goal.returns-in_err-read_lone
returns-in_err-read_lone c =
    let t = c.args.table.table in
    let fault = c.in_err-read_lone.field-0.0 in
    let e : c.from_residual-in_err-read_lone.result ≡ Err fault = search rules in
    λ marks. rw e (create_bad_value (table_memory t.heads.now t.bytes.now t.count) marks c.args.name.now c.args.type_code c.args.value.now _ fault c.in_ok-check_name.ensures c.in_err-read_lone.ensures)

pub returns-then-is_some : goal.returns-then-is_some
returns-then-is_some c =
    let t = c.args.table.table in
    let m = table_memory t.heads.now t.bytes.now t.count in
    let held : name_held c.args.name.now (entries_of m) ≡ true = rw c.if-is_some.true at (search_tells _ (entries_of m) c.find_name.result c.is_some.result c.find_name.ensures c.is_some.ensures) in
    λ marks. rw c.new.ensures (create_held m marks c.args.name.now c.args.type_code c.args.value.now _ _ c.in_ok-check_name.ensures c.in_ok-read_lone.ensures held)

pub returns-then-len-ge-MAX_ENTRIES : goal.returns-then-len-ge-MAX_ENTRIES
returns-then-len-ge-MAX_ENTRIES c =
    let t = c.args.table.table in
    let m = table_memory t.heads.now t.bytes.now t.count in
    let new : name_held c.args.name.now (entries_of m) ≡ false = rw c.if-is_some.false at (search_tells _ (entries_of m) c.find_name.result c.is_some.result c.find_name.ensures c.is_some.ensures) in
    λ marks.
    rw c.new-then-len-ge-MAX_ENTRIES.ensures
    (create_full m marks c.args.name.now c.args.type_code c.args.value.now _ _ c.in_ok-check_name.ensures c.in_ok-read_lone.ensures new (omega (arith, c.len.ensures)))

pub returns : goal.returns
returns c =
    let t = c.args.table.table in
    let m = table_memory t.heads.now t.bytes.now t.count in
    let new : name_held c.args.name.now (entries_of m) ≡ false = rw c.if-is_some.false at (search_tells _ (entries_of m) c.find_name.result c.is_some.result c.find_name.ensures c.is_some.ensures) in
    λ marks. create_done m marks c.args.name.now c.args.type_code c.args.value.now _ _ c.in_ok-check_name.ensures c.in_ok-read_lone.ensures new (omega (arith, c.len.ensures))
