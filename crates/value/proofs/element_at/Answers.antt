use Rattle.std.proofs.Common.{arith}
use Rattle.field.proofs.OctetsLaws.{rest_all}
use Rattle.value.specs.Types.{element_code}
use Rattle.value.proofs.ElementLaws.{element_place}
use Rattle.value.proofs.element_at.Goals as goal

pub moved-requires : goal.moved-requires
moved-requires c =
    let a = c.args in
    rw (c.read_element.ensures, rest_all a.at a.s.now) (omega (arith, element_place (element_code a.element) a.at a.s.now c.requires.0))
