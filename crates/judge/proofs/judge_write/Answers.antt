-- `judge_write` decides as the definition does, by what is read of the held entry.
use Rattle.std.proofs.Common.{◌≡◌, ◌<◌, Err, rules, arith, ap, sym}
use Rattle.message.specs.Layout.{Entry}
use Rattle.message.specs.Lent.{entry_lent}
use Rattle.table.specs.Table.{table_memory, entry_of}
use Rattle.judge.proofs.DecisionLaws.{write_unknown, write_bad_value, write_equal, write_stored}
use Rattle.judge.proofs.judge_write.Goals as goal

pub returns-then-from-len : goal.returns-then-from-len
returns-then-from-len c =
    let t = c.args.table.table in
    λ marks. rw c.new.ensures (write_unknown (table_memory t.heads.now t.bytes.now t.count) marks c.args.id c.args.value.now (omega (arith, c.from.ensures, c.len.ensures)))

pub returns-in_err-read_lone : goal.returns-in_err-read_lone
returns-in_err-read_lone c =
    let t = c.args.table.table in
    let m = table_memory t.heads.now t.bytes.now t.count in
    let id = c.args.id in
    let l : id < t.count = omega (arith, c.from.ensures, c.len.ensures) in
    let e : entry_lent c.entry-stored.result ≡ entry_of m id = rw c.from-2.ensures at c.entry-stored.ensures.entry in
    let type = ap (λ (x : Entry). x.type) e in
    let fault = c.in_err-read_lone.field-0.0 in
    let refused : c.from_residual.result ≡ Err fault = search rules in
    λ marks. rw refused (write_bad_value m marks id c.args.value.now fault l (rw type at c.in_err-read_lone.ensures))

pub returns-then-same_value : goal.returns-then-same_value
returns-then-same_value c =
    let t = c.args.table.table in
    let m = table_memory t.heads.now t.bytes.now t.count in
    let id = c.args.id in
    let l : id < t.count = omega (arith, c.from.ensures, c.len.ensures) in
    let e : entry_lent c.entry-stored.result ≡ entry_of m id = rw c.from-2.ensures at c.entry-stored.ensures.entry in
    let type = ap (λ (x : Entry). x.type) e in
    let value = ap (λ (x : Entry). x.value) e in
    let same = rw value at (sym (c.if-same_value.ensures (entry_of m id).type)) in
    λ marks. write_equal m marks id c.args.value.now _ l (rw type at c.in_ok-read_lone.ensures) same

pub returns : goal.returns
returns c =
    let t = c.args.table.table in
    let m = table_memory t.heads.now t.bytes.now t.count in
    let id = c.args.id in
    let l : id < t.count = omega (arith, c.from.ensures, c.len.ensures) in
    let e : entry_lent c.entry-stored.result ≡ entry_of m id = rw c.from-2.ensures at c.entry-stored.ensures.entry in
    let type = ap (λ (x : Entry). x.type) e in
    let value = ap (λ (x : Entry). x.value) e in
    let other = rw value at (sym (c.if-same_value.ensures (entry_of m id).type)) in
    let number = ap (λ (x : Entry). x.number) e in
    λ marks. rw (c.next-number.ensures, number) (write_stored m marks id c.args.value.now _ l (rw type at c.in_ok-read_lone.ensures) other)
