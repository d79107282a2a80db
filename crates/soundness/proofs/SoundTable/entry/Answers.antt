use Rattle.std.proofs.Common.{length, ap, arith}
use Rattle.message.specs.Layout.{Entry}
use Rattle.table.specs.Table.{table_memory, entry_at, max_entries}
use Rattle.soundness.proofs.ReadableLaws.{stored_entry}
use Rattle.soundness.proofs.SoundTable.entry.Goals as goal

pub entry-requires : goal.entry-requires
entry-requires c =
    let t = c.args.self.table in
    let s = stored_entry max_entries (table_memory t.heads.now t.bytes.now t.count) c.args.i c.args.self.sound c.requires in
    (s.name_there, s.value_there)

pub returns : goal.returns
unfolding entry_at
returns c =
    let t = c.args.self.table in
    let s = stored_entry max_entries (table_memory t.heads.now t.bytes.now t.count) c.args.i c.args.self.sound c.requires in
    let e = c.entry.ensures in
    record {
      entry = e;
      lengths = (omega (arith, ap (λ (x : Entry). length x.name) e, s.name_small), omega (arith, ap (λ (x : Entry). length x.value) e, s.value_fits));
      typed = omega (arith, ap (λ (x : Entry). x.type) e, s.type_small);
      valued = rw (ap (λ (x : Entry). x.type) e, ap (λ (x : Entry). x.value) e) s.value_whole;
    }
