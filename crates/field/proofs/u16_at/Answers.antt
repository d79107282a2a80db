-- `u16_at` answers the number of the two bytes.
use Rattle.field.proofs.OctetsLaws.{decode_at}
use Rattle.field.proofs.u16_at.Goals as goal

pub returns : goal.returns
returns c = rw (decode_at c.args.s.now c.args.at) c.from_be_bytes.ensures
