use mathlib.Core.Path.{refl}
use Rattle.writer.specs.Given.{given}
use Rattle.writer.proofs.KindLaws.{unknown_refused}
use Rattle.writer.proofs.write_message.Goals as goal

pub returns-in-Err : goal.returns-in-Err
returns-in-Err c =
    rw (c.refused.ensures, c.new.ensures, unknown_refused (given c.args.fields) c.in-Err.refusal c.in-Err.ensures) refl
