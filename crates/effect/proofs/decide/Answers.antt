use Rattle.soundness.proofs.SoundLaws.{marks_facts}
use Rattle.effect.proofs.decide.Goals as goal

pub judge_client_message-requires : goal.judge_client_message-requires
judge_client_message-requires c = (marks_facts c.args.memory.now.marks.now c.requires.marks).0
