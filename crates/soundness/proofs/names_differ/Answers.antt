use Rattle.std.proofs.Common.{◌≡◌, sym, refl, arith}
use Rattle.table.specs.Names.{names_differ}
use Rattle.table.specs.Table.{entry_at, entries_of, tabulate}
use Rattle.table.proofs.SearchLaws.{below_differ, differ_next}
use Rattle.soundness.proofs.FingerprintLaws.{differ_old}
use Rattle.soundness.proofs.names_differ.Goals as goal

pub returns-then-table-lt2 : goal.returns-then-table-lt2
unfolding entries_of
returns-then-table-lt2 c =
    let t = c.args.table in
    sym (below_differ t.count (entry_at t.heads.now t.bytes.now) (λ i j l m e. omega arith))

pub loop-i-init : goal.loop-i-init
unfolding names_differ tabulate
loop-i-init c = (refl, λ j h. absurd (omega arith))

pub returns-then-not-insert : goal.returns-then-not-insert
unfolding entries_of
returns-then-not-insert c =
    let t = c.args.table in
    differ_old t.count (entry_at t.heads.now t.bytes.now) c.loop-i.i (omega (arith, c.len-i-end.ensures)) c.if-not-insert.ensures.new

pub loop-i-preserved : goal.loop-i-preserved
loop-i-preserved c =
    let t = c.args.table in (
      rw (differ_next c.loop-i.i (entry_at t.heads.now t.bytes.now), c.loop-i.invariant.0, sym c.insert.ensures.new) c.if-not-insert.false,
      c.insert.ensures.owned,
    )

pub returns : goal.returns
unfolding entries_of
returns c =
    let e : c.loop-i.i ≡ c.args.table.count = omega (arith, c.len-i-end.ensures) in
    rw (← e) (sym c.loop-i.invariant.0)
