-- An assignment that was read is no longer than its bytes.
use Rattle.std.proofs.Common.{sym, ◌∙◌, arith}
use Rattle.message.proofs.TakenLaws.{assignment_fits}
use Rattle.wire_examples.proofs.cases.allowed.Goals as goal

pub message-requires : goal.message-requires
message-requires g c =
    let fits = assignment_fits _ _ _ _ _ _ _ (sym c.read_assignment.ensures ∙ c.in-Ok.is) in
    omega (arith, fits.0)
