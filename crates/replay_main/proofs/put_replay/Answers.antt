-- `put_replay` puts the text of some record: the pieces that it read, one behind the other.
use Rattle.std.proofs.Common.{ap, ◌∙◌, []}
use Rattle.answer.specs.declared.Answer.{Answer}
use Rattle.table.specs.Memory.{memory_of}
use Rattle.table.specs.Table.{max_entries}
use Rattle.soundness.proofs.ReadableLaws.{sound_readable}
use Rattle.protocol.specs.Lent.{server_memory}
use Rattle.protocol.specs.Memory.{server_of}
use Rattle.replay.proofs.StartLaws.{started}
use Rattle.replay_main.proofs.ShownLaws.{start_done, shows}
use Rattle.replay_main.proofs.put_replay.Goals as goal

pub run_input-requires : goal.run_input-requires
run_input-requires g c =
    let m = server_memory c.args.heads.now c.args.bytes.now 0 c.args.marks.now in
    let number_is = ap (λ (a : Answer). a.number) c.fresh.ensures.answer in
    let is_done = number_is ∙ start_done m c.requires.table.0 c.requires.table.1 c.requires.marks in
    started m _ [] c.fresh.result.number number_is c.fresh.ensures.memory is_done

pub put_table-requires : goal.put_table-requires
put_table-requires g c = sound_readable max_entries (memory_of c.table.result) (rw c.table.ensures c.in_ok-number.ensures.sound.table)

pub returns-clause-shows : goal.returns-clause-shows
returns-clause-shows g c =
    let m = server_memory c.args.heads.now c.args.bytes.now 0 c.args.marks.now in
    let number_is = ap (λ (a : Answer). a.number) c.fresh.ensures.answer in
    let is_done = number_is ∙ start_done m c.requires.table.0 c.requires.table.1 c.requires.marks in
    shows m _ c.fresh.result.number number_is c.fresh.ensures.memory is_done c.empty-slots.result c.empty-slots.ensures c.in_ok-number.number
    (server_of c.run_input.new.memory) c.run_input.new.slots c.args.text.now _ c.put_table.result c.in_ok-number.ensures.runs (rw c.table.ensures at c.put_table.ensures)
