-- `are_characters` answers `is_utf8`. The loop's invariant: the rest decides as the whole does.
use Rattle.std.proofs.Common.{◌<◌, length, sym, ◌∙◌, rules}
use Rattle.utf8.proofs.RowsLaws.{few_more, no_first, ascii_left, row_left, row_wrong}
use Rattle.utf8.proofs.are_characters.Goals as goal

pub has_tail-requires : goal.has_tail-requires
has_tail-requires c = few_more _ _ _ _ (sym c.in-Tail.ensures)

pub returns-in-Invalid : goal.returns-in-Invalid
returns-in-Invalid c =
    let some : 0 < length c.loop-rest.rest.now = search rules in
    sym (no_first _ some c.in-Invalid.ensures) ∙ c.loop-rest.invariant

pub returns-then-not-has_tail : goal.returns-then-not-has_tail
returns-then-not-has_tail c =
    let some : 0 < length c.loop-rest.rest.now = search rules in
    sym (row_wrong _ _ _ _ some c.in-Tail.ensures c.if-not-has_tail.ensures) ∙ c.loop-rest.invariant

pub loop-rest-preserved : goal.loop-rest-preserved
loop-rest-preserved c =
    let some : 0 < length c.loop-rest.rest.now = search rules in
    sym (row_left _ _ _ _ some c.in-Tail.ensures c.if-not-has_tail.ensures) ∙ c.loop-rest.invariant

pub loop-rest-preserved-in-Boundary : goal.loop-rest-preserved-in-Boundary
loop-rest-preserved-in-Boundary c =
    let some : 0 < length c.loop-rest.rest.now = search rules in
    sym (ascii_left _ _ some c.in-Boundary.ensures c.ascii_front.ensures.within c.ascii_front.ensures.ascii) ∙ c.loop-rest.invariant
