use Rattle.std.proofs.Common.{◌≡◌}
use Rattle.recipients.specs.Recipients.{greeted_but, is_recipient, bit_set}
use Rattle.recipients.proofs.greeted_but.Given as goal

abbrev pub invariant-loop-c : goal.invariant-loop-c
invariant-loop-c l = l.set ≡ bit_set l.c (is_recipient (greeted_but l.left_out) l.marks)
