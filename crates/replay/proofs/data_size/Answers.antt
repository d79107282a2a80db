use Rattle.std.proofs.Common.{◌∙◌, sym, arith}
use Rattle.replay.proofs.ReadLaws.{kind_size, few_data, no_data, unknown_of}
use Rattle.replay.proofs.data_size.Goals as goal

pub returns-in-Ok : goal.returns-in-Ok
returns-in-Ok c =
    let size = c.data_size.ensures ∙ kind_size c.in-Ok.ensures in
    record { size = size; few = omega (arith, size, few_data c.args.kind) }

pub returns-in-Err : goal.returns-in-Err
returns-in-Err c = record { size = sym (no_data c.args.kind (unknown_of c.in-Err.ensures).1); few = omega arith }
