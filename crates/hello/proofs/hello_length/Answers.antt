-- `hello_length` meets its contract: the sum is 1 more than the length of the assignments passed, at most 328 bytes each.
use Rattle.std.proofs.Common.{◌≡◌, ◌+◌, ◌<◌, length, sym, ◌∙◌, arith}
use Rattle.table.specs.Table.{entry_at, entries_of}
use Rattle.table.proofs.SearchLaws.{readable_less}
use Rattle.hello.proofs.HelloLaws.{assignments_below, below_none, length_below_more, length_hello_below, length_entry, length_below_most}
use Rattle.hello.proofs.hello_length.Goals as goal

pub loop-i-init : goal.loop-i-init
loop-i-init c = rw (below_none (entry_at c.args.table.heads.now c.args.table.bytes.now))

pub overflow_add-sum-in-loop-i-2 : goal.overflow_add-sum-in-loop-i-2
overflow_add-sum-in-loop-i-2 c =
    let t = c.args.table in
    let i = c.loop-i.i in
    let inside : i < t.count = omega (arith, c.len-i-end.ensures) in
    omega (arith, c.name_length_of.ensures, c.value_length_of.ensures, c.requires.named.names_fit i inside, c.requires.values_fit i inside, c.loop-i.invariant, length_below_most i t.heads.now t.bytes.now (readable_less i (omega arith) c.requires), c.ranges.table)

pub loop-i-preserved : goal.loop-i-preserved
loop-i-preserved c =
    let t = c.args.table in
    let i = c.loop-i.i in
    let f = entry_at t.heads.now t.bytes.now in
    omega (arith, c.name_length_of.ensures, c.value_length_of.ensures, length_below_more i f, length_entry t.count t.heads.now t.bytes.now i c.requires (omega (arith, c.len-i-end.ensures)), c.loop-i.invariant)

pub returns : goal.returns
unfolding entries_of
returns c =
    let t = c.args.table in
    let f = entry_at t.heads.now t.bytes.now in
    let all : c.loop-i.i ≡ t.count = omega (arith, c.len-i-end.ensures) in
    let sum : c.loop-i.sum ≡ length (assignments_below t.count f) + 1 = rw (← all) c.loop-i.invariant in
    record { length = sum ∙ sym (length_hello_below t.count f); bound = omega (arith, sum, length_below_most t.count t.heads.now t.bytes.now c.requires) }
