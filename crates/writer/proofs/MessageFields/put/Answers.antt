-- `put` stores the message that the checks allow: by the kind that message is known, and with it the room that its writer asks for.
use Rattle.std.proofs.Common.{ap, length, arith}
use Rattle.message.specs.Layout.{Entry}
use Rattle.message.specs.Layout.{layout}
use Rattle.writer.specs.Given.{given}
use Rattle.writer.proofs.WriterLaws.{ready_assignment, ready_update}
use Rattle.writer.proofs.MessageFields.put.Goals as goal

pub write_assignment-requires : goal.write_assignment-requires
write_assignment-requires c =
    let r = ready_assignment (given c.args.self) (length c.args.out.now) (rw c.in-Assignment.is at c.requires) in
    let e = c.lent_entry.ensures.entry in
    let name = ap (λ (x : Entry). length x.name) e in
    record { name_fits = omega (arith, name, r.1); type_fits = c.lent_entry.ensures.type_fits; room = omega (arith, name, ap (λ (x : Entry). length x.value) e, r.2) }

pub write_update-requires : goal.write_update-requires
write_update-requires c = (ready_update (given c.args.self) (length c.args.out.now) (rw c.in-Update.is at c.requires)).1

pub returns-in-Assignment : goal.returns-in-Assignment
unfolding layout
returns-in-Assignment c =
    let r = ready_assignment (given c.args.self) (length c.args.out.now) (rw c.in-Assignment.is at c.requires) in
    record {
      sent = rw (c.in-Assignment.is, r.0, ← c.lent_entry.ensures.entry) c.write_assignment.ensures.sent;
      output = rw (c.in-Assignment.is, r.0, ← c.lent_entry.ensures.entry) c.write_assignment.ensures.output;
    }

pub returns-in-Update : goal.returns-in-Update
unfolding layout
returns-in-Update c =
    let r = ready_update (given c.args.self) (length c.args.out.now) (rw c.in-Update.is at c.requires) in
    record {
      sent = rw (c.in-Update.is, r.0) c.write_update.ensures.sent;
      output = rw (c.in-Update.is, r.0) c.write_update.ensures.output;
    }
