-- `has_tail` answers by the bytes: each test tells what one more byte leaves.
use Rattle.std.proofs.Common.{◌≡◌, ◌∙◌, refl, inl, inr, arith}
use Rattle.utf8.proofs.RowsLaws.{not_asked, too_short, past_asked, past_tail, no_tail, last_tail}
use Rattle.utf8.proofs.has_tail.Goals as goal
use Rattle.utf8.proofs.has_tail.Goals.{then-s-more-via-then-s-more, then-s-more-via-else-s-more+then-s-low, then-s-more-via-else-s-more+else-s-low+then-high-s}

pub returns-then-s-more : goal.returns-then-s-more
returns-then-s-more c =
    let s = c.args.s.now in
    elim c.then-s-more.branch [
      | then-s-more-via-then-s-more w ↦ too_short _ _ _ s (omega arith)
      | then-s-more-via-else-s-more+then-s-low w ↦ not_asked _ _ _ 0 s (omega arith) (inl w.if-s-low.true)
      | then-s-more-via-else-s-more+else-s-low+then-high-s w ↦ not_asked _ _ _ 0 s (omega arith) (inr w.if-high-s.true)
    ]

pub returns-then-more-eq0 : goal.returns-then-more-eq0
returns-then-more-eq0 c =
    let s = c.args.s.now in
    record { enough = omega arith; leaves = rw c.if-more-eq0.true (past_asked c.args.low c.args.high 0 0 s (omega arith) c.if-s-low.false c.if-high-s.false ∙ last_tail _ 0 refl) }

pub returns-then-not-is_tail : goal.returns-then-not-is_tail
returns-then-not-is_tail c =
    let s = c.args.s.now in
    past_asked _ _ c.args.more 0 s (omega arith) c.if-s-low.false c.if-high-s.false ∙ no_tail s 1 _ (omega arith) (omega arith) c.if-not-is_tail.ensures

pub returns-then-more-eq1 : goal.returns-then-more-eq1
returns-then-more-eq1 c =
    let s = c.args.s.now in
    record {
      enough = omega arith;
      leaves =
          rw c.if-more-eq1.true
          (past_asked c.args.low c.args.high 1 0 s (omega arith) c.if-s-low.false c.if-high-s.false
          ∙ past_tail s 1 1 (omega arith) (omega arith) c.if-not-is_tail.ensures ∙ last_tail _ 0 refl);
    }

pub returns-then-not-is_tail-2 : goal.returns-then-not-is_tail-2
returns-then-not-is_tail-2 c =
    let s = c.args.s.now in
    past_asked _ _ c.args.more 0 s (omega arith) c.if-s-low.false c.if-high-s.false
    ∙ past_tail s 1 _ (omega arith) (omega arith) c.if-not-is_tail.ensures ∙ no_tail s 2 _ (omega arith) (omega arith) c.if-not-is_tail-2.ensures

pub returns : goal.returns
returns c =
    let s = c.args.s.now in
    let two : c.args.more ≡ 2 = omega arith in
    record {
      enough = omega arith;
      leaves =
          rw two
          (past_asked c.args.low c.args.high 2 0 s (omega arith) c.if-s-low.false c.if-high-s.false
          ∙ past_tail s 1 2 (omega arith) (omega arith) c.if-not-is_tail.ensures ∙ past_tail s 2 1 (omega arith) (omega arith) c.if-not-is_tail-2.ensures
          ∙ last_tail _ 0 refl);
    }
