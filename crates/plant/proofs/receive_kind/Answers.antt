-- `receive_kind` makes the local call that the kind asks for.
use Rattle.std.proofs.Common.{length, le-leb}
use mathlib.Core.Logic.{inl, inr}
use Rattle.field.specs.Choice.{pick}
use Rattle.field.proofs.FieldLaws.{octet_there}
use Rattle.message.specs.Kinds.{kind_byte}
use Rattle.line_record.specs.Plant.{plant_message}
use Rattle.line_record.specs.Held.{plant_effect}
use Rattle.plant.proofs.receive_kind.Goals as goal

pub returns-in-Assignment : goal.returns-in-Assignment
unfolding plant_message pick
returns-in-Assignment c =
    let h = octet_there c.args.m.now 0 (kind_byte c.args.kind) c.requires.kind in
    λ marks sound. rw (le-leb 1 (length c.args.m.now) h.0, ← h.1, c.in-Assignment.is) (c.create.ensures marks sound)

pub returns-in-Update : goal.returns-in-Update
unfolding plant_message pick
returns-in-Update c =
    let h = octet_there c.args.m.now 0 (kind_byte c.args.kind) c.requires.kind in
    λ marks sound. rw (le-leb 1 (length c.args.m.now) h.0, ← h.1, c.in-Update.is) (c.write.ensures marks sound)

pub returns-in-KeepAlive : goal.returns-in-KeepAlive
unfolding plant_message plant_effect pick
returns-in-KeepAlive c =
    let h = octet_there c.args.m.now 0 (kind_byte c.args.kind) c.requires.kind in
    λ marks sound.
    rw (le-leb 1 (length c.args.m.now) h.0, ← h.1) (elim c.in-KeepAlive.is [
      | inl k ↦ rw k
      | inr other ↦ (elim other [
        | inl k ↦ rw k
        | inr more ↦ (elim more [
          | inl k ↦ rw k
          | inr k ↦ rw k
        ])
      ])
    ])
