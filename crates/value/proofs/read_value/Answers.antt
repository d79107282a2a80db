-- `read_value` answers `parse_value`: each reader's promise closes its return.
use Rattle.std.proofs.Common.{sym, ◌∙◌, ap}
use Rattle.field.proofs.OctetsLaws.{rest_all}
use Rattle.value.specs.Types.{element_code}
use Rattle.value.specs.Value.{parse_element, parse_array}
use Rattle.value.proofs.TypeLaws.{single_value, array_value, no_value}
use Rattle.value.proofs.read_value.Goals as goal

pub returns-in-Ok-Single : goal.returns-in-Ok-Single
returns-in-Ok-Single c =
    let e = c.in-Ok-Single.element in
    c.read_element.ensures
    ∙ ap (parse_element (element_code e) 0) (rest_all 0 c.args.s.now)
    ∙ sym (single_value c.args.t e c.args.s.now (rw c.in-Ok-Single.field-0-is at c.in-Ok-Single.ensures))

pub returns-in-Ok-Array : goal.returns-in-Ok-Array
returns-in-Ok-Array c =
    let e = c.in-Ok-Array.element in
    c.read_array.ensures
    ∙ ap (parse_array (element_code e)) (rest_all 0 c.args.s.now)
    ∙ sym (array_value c.args.t e c.args.s.now (rw c.in-Ok-Array.field-0-is at c.in-Ok-Array.ensures))

pub returns-in-Err : goal.returns-in-Err
returns-in-Err c = rw c.new.ensures (sym (no_value c.args.t c.in-Err.refusal c.args.s.now c.in-Err.ensures))
