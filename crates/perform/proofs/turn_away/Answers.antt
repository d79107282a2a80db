-- `turn_away` does what the verdict on another revision does.
use Rattle.std.proofs.Common.{length, arith, le-leb}
use Rattle.std.proofs.lemmas.Bool.{lt-leb}
use Rattle.field.specs.Choice.{pick}
use Rattle.message.specs.Layout.{revision_bytes, unsupported_kind}
use Rattle.message.proofs.ReadBack.{length_revision}
use Rattle.protocol.specs.Judge.{protocol_revision}
use Rattle.protocol.specs.Step.{execute}
use Rattle.perform.proofs.turn_away.Goals as goal

pub returns-then-out-lt-REVISION_LENGTH : goal.returns-then-out-lt-REVISION_LENGTH
unfolding execute pick
returns-then-out-lt-REVISION_LENGTH c =
    λ table.
    rw (c.no_room.ensures, lt-leb (length (revision_bytes unsupported_kind protocol_revision)) (length c.args.out.now) (omega (arith, c.if-out-lt-REVISION_LENGTH.true, length_revision unsupported_kind protocol_revision)))

pub returns : goal.returns
unfolding execute pick
returns c =
    λ table.
    rw (c.done.ensures, c.write_revision-sent.ensures.sent, c.write_revision-sent.ensures.output, c.from.ensures, c.only_sender.ensures c.args.marks.now, le-leb (length (revision_bytes unsupported_kind protocol_revision)) (length c.args.out.now) (omega (arith, c.if-out-lt-REVISION_LENGTH.false, length_revision unsupported_kind protocol_revision)))
