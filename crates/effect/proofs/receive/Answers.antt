-- `receive` is the effect of a client's message, where soundness is known: the decision is applied.
use Rattle.table.specs.Table.{max_entries}
use Rattle.soundness.proofs.SoundLaws.{marks_facts}
use Rattle.protocol.specs.Judge.{client_message}
use Rattle.protocol.specs.Memory.{server_of}
use Rattle.protocol.specs.Effect.{with_output}
use Rattle.protocol.proofs.SoundnessLaws.{step_is}
use Rattle.effect.proofs.EffectLaws.{refused_effect}
use Rattle.effect.proofs.receive.Goals as goal

pub apply-requires-clause-marks : goal.apply-requires-clause-marks
apply-requires-clause-marks c = (marks_facts c.args.memory.now.marks.now c.requires.marks).0

pub returns-in-Ok-clause-effect : goal.returns-in-Ok-clause-effect
returns-in-Ok-clause-effect c =
    let call = client_message c.args.c c.args.m.now in
    rw (step_is max_entries (server_of c.args.memory.now) c.requires (with_output max_entries call), ← c.in-Ok.ensures.verdict) c.apply.ensures.effect

pub returns-in-Err-clause-effect : goal.returns-in-Err-clause-effect
returns-in-Err-clause-effect c =
    let call = client_message c.args.c c.args.m.now in
    refused_effect (server_of c.args.memory.now) c.requires call c.in-Err.fault c.refusal.result c.refusal.ensures c.in-Err.ensures.verdict
