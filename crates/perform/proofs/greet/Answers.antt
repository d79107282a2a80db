-- `greet` does what accepting a hello does: the answer's length decides the room before a byte is written.
use Rattle.std.proofs.Common.{◌≡◌, length, arith, le-leb}
use Rattle.std.proofs.lemmas.Bool.{lt-leb}
use Rattle.field.specs.Choice.{pick}
use Rattle.table.specs.Table.{entries_of, max_entries}
use Rattle.table.specs.Memory.{memory_of}
use Rattle.soundness.proofs.ReadableLaws.{sound_readable}
use Rattle.hello.specs.Hello.{hello_answer}
use Rattle.protocol.specs.Memory.{server_of}
use Rattle.protocol.specs.Step.{execute}
use Rattle.perform.proofs.greet.Goals as goal

pub hello_length-requires : goal.hello_length-requires
hello_length-requires c = sound_readable max_entries (memory_of c.table.result) (rw c.table.ensures c.requires.sound.1)

pub returns-then-out-hello_length-clause-done : goal.returns-then-out-hello_length-clause-done
unfolding execute pick
returns-then-out-hello_length-clause-done c =
    let e : c.hello_length.result ≡ length (hello_answer 0 (entries_of (server_of c.args.memory.now).table)) = rw c.table.ensures at c.hello_length.ensures.length in
    rw (c.no_room.ensures, lt-leb (length (hello_answer 0 (entries_of (server_of c.args.memory.now).table))) (length c.args.out.now) (omega (arith, c.if-out-hello_length.true, e)))

pub write_hello-sent-requires-clause-entries : goal.write_hello-sent-requires-clause-entries
write_hello-sent-requires-clause-entries c = sound_readable max_entries (memory_of c.table-2.result) (rw c.table-2.ensures c.requires.sound.1)

pub returns-clause-done : goal.returns-clause-done
unfolding execute pick
returns-clause-done c =
    let e : c.hello_length.result ≡ length (hello_answer 0 (entries_of (server_of c.args.memory.now).table)) = rw c.table.ensures at c.hello_length.ensures.length in
    let sent : c.write_hello-sent.result ≡ length (hello_answer 0 (entries_of (server_of c.args.memory.now).table)) = rw c.table-2.ensures at c.write_hello-sent.ensures.length in
    let written = rw c.table-2.ensures at c.write_hello-sent.ensures.output in
    rw (c.done.ensures, sent, written, c.only_sender.ensures c.args.memory.now.marks.now, le-leb (length (hello_answer 0 (entries_of (server_of c.args.memory.now).table))) (length c.args.out.now) (omega (arith, c.if-out-hello_length.false, e)))
