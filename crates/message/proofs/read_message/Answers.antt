use Rattle.std.proofs.Common.{Err, rules}
use Rattle.message.proofs.KindLaws.{unknown_read}
use Rattle.message.proofs.ReadingLaws.{answer_is}
use Rattle.message.proofs.read_message.Goals as goal

pub returns-in-Err-clause-answer : goal.returns-in-Err-clause-answer
returns-in-Err-clause-answer c = answer_is c.args.update_type c.args.m.now (Err c.new-in-Err.result) (grind (rules, unknown_read))
