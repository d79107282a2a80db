-- `read_elements` answers `elements`. The loop's invariant: what is left, read from the place reached, comes to the whole; an element takes what is there.
use Rattle.std.proofs.Common.{◌+◌, ◌-◌, ◌≡◌, sym, ◌∙◌, arith, rules}
use Rattle.value.specs.Types.{element_code}
use Rattle.value.proofs.ElementLaws.{element_stops, element_goes_on, elements_none}
use Rattle.value.proofs.read_elements.Goals as goal

pub returns-in_err-at : goal.returns-in_err-at
returns-in_err-at c =
    let stops = element_stops (element_code c.args.element) (c.args.count - c.loop.counter) c.loop.at c.args.s.now c.in_err-at.field-0.0 (sym c.in_err-at.was ∙ c.element_at.ensures) (omega arith) in
    let whole = stops ∙ c.loop.invariant.2 in
    search (rules, whole)

pub overflow_add-at : goal.overflow_add-at
overflow_add-at c =
    omega (arith, (element_goes_on (element_code c.args.element) (c.args.count - c.loop.counter) c.loop.at c.in_ok-at.field-0 c.args.s.now (sym c.in_ok-at.was ∙ c.element_at.ensures) (omega arith) (omega arith)).1)

pub loop-preserved : goal.loop-preserved
loop-preserved c =
    let more = element_goes_on (element_code c.args.element) (c.args.count - c.loop.counter) c.loop.at c.in_ok-at.field-0 c.args.s.now (sym c.in_ok-at.was ∙ c.element_at.ensures) (omega arith) (omega arith) in
    let fewer : c.args.count - (c.loop.counter + 1) ≡ c.args.count - c.loop.counter - 1 = omega arith in
    (more.0, omega (arith, more.1), rw fewer (sym more.2 ∙ c.loop.invariant.2))

pub returns : goal.returns
returns c = sym (elements_none _ _ c.loop.at _ (omega arith)) ∙ c.loop.invariant.2
