-- `judge_assignment` decides as the definition does of what was read: the search tells whether the name is held, and the table is full at the limit.
use Rattle.std.proofs.Common.{◌≡◌, true, false, Err, rules, arith}
use Rattle.message.specs.Reader.{name_in}
use Rattle.message.specs.declared.AllowedId.TheVariants.{Only}
use Rattle.table.specs.Table.{table_memory, entries_of}
use Rattle.table.specs.Names.{name_held}
use Rattle.protocol.specs.Judge.{new_id}
use Rattle.judge.proofs.DecisionLaws.{assignment_within, assignment_refused, assignment_held, assignment_full, assignment_new, search_tells}
use Rattle.judge.proofs.judge_assignment.Goals as goal

pub returns-in_err-assignment : goal.returns-in_err-assignment
returns-in_err-assignment c =
    let t = c.args.table.table in
    let fault = c.in_err-assignment.field-0.0 in
    let e : c.from_residual.result ≡ Err fault = search rules in
    λ sender. rw e (assignment_refused (table_memory t.heads.now t.bytes.now t.count) sender c.args.m.now (Only new_id) fault c.in_err-assignment.ensures)

pub name-requires : goal.name-requires
name-requires c =
    let t = c.args.table.table in
    (assignment_within (table_memory t.heads.now t.bytes.now t.count) 0 c.args.m.now (Only new_id) c.in_ok-assignment.assignment c.in_ok-assignment.ensures).0

pub size-requires : goal.size-requires
size-requires c =
    let t = c.args.table.table in
    let fits = assignment_within (table_memory t.heads.now t.bytes.now t.count) 0 c.args.m.now (Only new_id) c.in_ok-assignment.assignment c.in_ok-assignment.ensures in
    omega (arith, fits.1, fits.2)

pub returns-then-is_some : goal.returns-then-is_some
returns-then-is_some c =
    let t = c.args.table.table in
    let m = table_memory t.heads.now t.bytes.now t.count in
    let read = c.in_ok-assignment.assignment in
    let tells = search_tells _ (entries_of m) c.find_name.result c.is_some.result c.find_name.ensures c.is_some.ensures in
    let held : name_held (name_in read.name_length c.args.m.now) (entries_of m) ≡ true = rw (c.name.ensures, c.if-is_some.true) at tells in
    λ sender. rw c.size.ensures (assignment_held m sender c.args.m.now (Only new_id) read c.in_ok-assignment.ensures held)

pub returns-then-len-ge-MAX_ENTRIES : goal.returns-then-len-ge-MAX_ENTRIES
returns-then-len-ge-MAX_ENTRIES c =
    let t = c.args.table.table in
    let m = table_memory t.heads.now t.bytes.now t.count in
    let read = c.in_ok-assignment.assignment in
    let tells = search_tells _ (entries_of m) c.find_name.result c.is_some.result c.find_name.ensures c.is_some.ensures in
    let new : name_held (name_in read.name_length c.args.m.now) (entries_of m) ≡ false = rw (c.name.ensures, c.if-is_some.false) at tells in
    λ sender. rw c.new.ensures (assignment_full m sender c.args.m.now (Only new_id) read c.in_ok-assignment.ensures new (omega (arith, c.len.ensures)))

pub returns : goal.returns
returns c =
    let t = c.args.table.table in
    let m = table_memory t.heads.now t.bytes.now t.count in
    let read = c.in_ok-assignment.assignment in
    let tells = search_tells _ (entries_of m) c.find_name.result c.is_some.result c.find_name.ensures c.is_some.ensures in
    let new : name_held (name_in read.name_length c.args.m.now) (entries_of m) ≡ false = rw (c.name.ensures, c.if-is_some.false) at tells in
    λ sender. assignment_new m sender c.args.m.now (Only new_id) read c.in_ok-assignment.ensures new (omega (arith, c.len.ensures))
