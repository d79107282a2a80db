use Rattle.std.proofs.Common.{◌≡◌, Ok, rules}
use Rattle.field.specs.Field.{number_at}
use Rattle.table.specs.Table.{lent}
use Rattle.table.proofs.UpdateLaws.{update_of_none, update_of_held}
use Rattle.table.proofs.Table.read_held_update.Goals as goal

pub returns-then-id-self : goal.returns-then-id-self
returns-then-id-self c =
    let t = c.args.self in
    let there : Ok c.in_ok-id.id ≡ number_at c.args.m.now 1 = search rules in
    rw c.new-then-id-self.ensures (update_of_none (lent t.heads.now t.bytes.now t.count) c.args.m.now c.in_ok-id.id there c.if-id-self.true)

pub returns : goal.returns
returns c =
    let t = c.args.self in
    let there : Ok c.in_ok-id.id ≡ number_at c.args.m.now 1 = search rules in
    rw (c.read_behind_update_id.ensures, c.type_of-type_code.ensures, c.from.ensures)
    (update_of_held (lent t.heads.now t.bytes.now t.count) c.args.m.now c.in_ok-id.id there c.if-id-self.false)
