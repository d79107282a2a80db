use Rattle.std.proofs.Common.{◌-◌}
use Rattle.value.specs.Types.{element_code}
use Rattle.digits.proofs.PutLaws.{Leads}
use Rattle.table_text.specs.Text.{element_texts}
use Rattle.table_text.proofs.put_elements.Given as goal

abbrev pub invariant-loop : goal.invariant-loop
invariant-loop l =
    Leads l.initial.text l.text (element_texts l.count (element_code l.element) l.s) (element_texts (l.count - l.counter) (element_code l.element) l.left)
