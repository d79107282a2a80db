-- `read_records` meets its contract.
use Rattle.std.proofs.Common.{◌≡◌, ◌∙◌, sym, arith, rules}
use Rattle.load.proofs.RecordsLaws.{left_all, reached, place_small, looked, turn_stop, turn_records, turn_there, turn_held, turn_next, end_left, end_taken}
use Rattle.load.proofs.read_records.Goals as goal

pub loop-i-init : goal.loop-i-init
loop-i-init c = (λ k h. absurd (omega arith), left_all c.args.saved.now c.args.count, λ j h. absurd (omega arith))

pub slice_bounds-read_record-count : goal.slice_bounds-read_record-count
slice_bounds-read_record-count c = omega (arith, c.size_of-at.ensures, reached c.loop-i.i c.args.saved.now c.requires.1 c.loop-i.invariant.0)

pub slice_bounds-read_record-start : goal.slice_bounds-read_record-start
slice_bounds-read_record-start c = omega (arith, c.size_of-at.ensures, reached c.loop-i.i c.args.saved.now c.requires.1 c.loop-i.invariant.0)

pub moved-requires : goal.moved-requires
moved-requires c = rw c.read_record.ensures (place_small c.args.saved.now c.loop-i.i c.size_of-at.result c.size_of-at.ensures (omega arith))

pub returns-in_err-moved : goal.returns-in_err-moved
returns-in_err-moved c =
    let read = looked c.args.saved.now c.loop-i.i c.size_of-at.result c.read_record.result c.moved.result c.size_of-at.ensures c.read_record.ensures c.moved.ensures in
    let stop = turn_stop c.args.saved.now c.args.count c.loop-i.i c.loop-i-test.true c.loop-i.invariant.1 c.in_err-moved.field-0.0 (sym read ∙ c.in_err-moved.was) in
    search (rules, stop)

pub insert-requires-clause-names : goal.insert-requires-clause-names
insert-requires-clause-names c =
    let read = looked c.args.saved.now c.loop-i.i c.size_of-at.result c.read_record.result c.moved.result c.size_of-at.ensures c.read_record.ensures c.moved.ensures in
    λ j l. turn_there c.args.saved.now c.args.count c.loop-i.i c.loop-i-test.true c.loop-i.invariant.1 c.in_ok-moved.field-0 (sym read ∙ c.in_ok-moved.was) c.requires.0 c.loop-i.invariant.0 j (omega (arith, l))

pub returns-then-not-insert : goal.returns-then-not-insert
returns-then-not-insert c =
    let read = looked c.args.saved.now c.loop-i.i c.size_of-at.result c.read_record.result c.moved.result c.size_of-at.ensures c.read_record.ensures c.moved.ensures in
    let held = turn_held c.args.saved.now c.args.count c.loop-i.i c.loop-i-test.true c.loop-i.invariant.1 c.in_ok-moved.field-0 (sym read ∙ c.in_ok-moved.was) c.if-not-insert.ensures.new in
    rw (c.new.ensures, c.size_of-at.ensures) held

pub loop-i-preserved : goal.loop-i-preserved
loop-i-preserved c =
    let read = looked c.args.saved.now c.loop-i.i c.size_of-at.result c.read_record.result c.moved.result c.size_of-at.ensures c.read_record.ensures c.moved.ensures in (
      turn_records c.args.saved.now c.args.count c.loop-i.i c.loop-i-test.true c.loop-i.invariant.1 c.in_ok-moved.field-0 (sym read ∙ c.in_ok-moved.was) c.loop-i.invariant.0,
      turn_next c.args.saved.now c.args.count c.loop-i.i c.loop-i-test.true c.loop-i.invariant.1 c.in_ok-moved.field-0 (sym read ∙ c.in_ok-moved.was) c.if-not-insert.ensures.new,
      c.insert.ensures.owned,
    )

pub returns-then-end-saved : goal.returns-then-end-saved
returns-then-end-saved c =
    let all : c.loop-i.i ≡ c.args.count = omega arith in
    rw c.new-then-end-saved.ensures (end_left c.args.saved.now c.args.count c.size_of-end.result c.size_of-end.ensures (rw all at c.loop-i.invariant.1) c.if-end-saved.true)

pub returns : goal.returns
returns c =
    let all : c.loop-i.i ≡ c.args.count = omega arith in
    end_taken c.args.saved.now c.args.count c.size_of-end.result c.size_of-end.ensures (rw all at c.loop-i.invariant.1) c.if-end-saved.false
