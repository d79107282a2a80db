-- `write_entry` meets its contract: the entry that is read is within its limits.
use Rattle.std.proofs.Common.{◌+◌, ◌<◌, ◌≡◌, length, ap, ◌∙◌, arith}
use Rattle.message.specs.Layout.{Entry}
use Rattle.table.specs.Table.{name_length_field, value_length_field, head_field, entry_at}
use Rattle.table.proofs.SearchLaws.{has_name, has_value, name_length_lem, value_length_lem}
use Rattle.hello.proofs.HelloLaws.{length_entry}
use Rattle.hello.proofs.write_entry.Goals as goal

pub write_assignment-requires : goal.write_assignment-requires
unfolding entry_at
write_assignment-requires c =
    let t = c.args.table in
    let i = c.args.id in
    let r = c.requires.entry in
    let inside : i < i + 1 = omega arith in
    let e = rw c.from.ensures at c.entry.ensures in
    let name : length c.entry.result.name.now ≡ head_field t.heads.now i name_length_field =
    ap (λ (x : Entry). length x.name) e ∙ name_length_lem t.heads.now t.bytes.now i (has_name t.heads.now t.bytes.now i r.named inside) in
    let value : length c.entry.result.value.now ≡ head_field t.heads.now i value_length_field =
    ap (λ (x : Entry). length x.value) e ∙ value_length_lem t.heads.now t.bytes.now i (has_value t.heads.now t.bytes.now i r inside) in
    record {
      name_fits = omega (arith, name, r.named.names_fit i inside);
      type_fits = omega (arith, ap (λ (x : Entry). x.type) e, r.types_fit i inside);
      room = omega (arith, name, value, length_entry (i + 1) t.heads.now t.bytes.now i r inside, c.requires.room);
    }
