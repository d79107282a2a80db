use Rattle.std.proofs.Common.{◌*◌, ◌^◌, ◌≤◌, ◌∙◌, arith}
use lib.Pow.{pow_mono}
use Rattle.std.proofs.Math.Nat.{mod-eq_of_lt}
use Rattle.recipients.proofs.RecipientLaws.{sender_set}
use Rattle.recipients.proofs.only_sender.Goals as goal

pub returns : goal.returns
returns c = λ marks.
    let n = c.args.c in
    let h : n ≤ 15 = omega (arith, c.requires) in
    mod-eq_of_lt {n = 1 * 2 ^ n} {m = 65536} (omega (arith, pow_mono h)) ∙ omega (arith, sender_set marks n c.requires)
