use mathlib.Core.Path.{◌≡◌}
use Prim.Native.Nat.{◌+◌, ◌-◌, ◌*◌, ◌≤◌}
use lib.ListN.{length, drop}
use Rattle.value.specs.Value.{parse_element, elements}
use Rattle.value.specs.Types.{element_code}
use Rattle.value.proofs.read_elements.Given as goal

abbrev pub invariant-loop : goal.invariant-loop
invariant-loop l =
    (l.at ≤ length l.s) × (l.at ≤ 256 + 8 * l.counter)
    × (elements (parse_element (element_code l.element)) (l.count - l.counter) l.at (drop l.at l.s) ≡ elements (parse_element (element_code l.element)) l.count 1 (drop 1 l.s))
