use Rattle.std.proofs.Common.{length, ap, arith}
use Rattle.table.proofs.SearchLaws.{has_name, name_length_lem}
use Rattle.soundness.proofs.TableNames.name_at.Goals as goal

pub returns-clause-size : goal.returns-clause-size
returns-clause-size c =
    let t = c.args.self.now in
    let i = c.args.i in
    omega (arith, ap length c.name_of.ensures, name_length_lem t.heads.now t.bytes.now i (has_name t.heads.now t.bytes.now i c.requires (omega arith)), c.requires.names_fit i (omega arith))
