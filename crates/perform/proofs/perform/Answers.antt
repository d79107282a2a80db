use Rattle.std.proofs.Common.{rules, Ok}
use Rattle.judge.specs.Decision.{Performable}
use Rattle.judge.specs.declared.Decision.TheVariants as D
use Rattle.protocol.specs.Memory.{server_of}
use Rattle.store.proofs.EntryLaws.{entry_there}
use Rattle.perform.proofs.perform.Goals as goal

pub store_update-requires-clause-memory : goal.store_update-requires-clause-memory
store_update-requires-clause-memory c =
    let fits : Performable c.args.memory.now.count.now c.args.c c.args.m.now (Ok (D.StoreUpdate c.in-Ok-StoreUpdate.update)) = search rules in
    entry_there (server_of c.args.memory.now).table c.in-Ok-StoreUpdate.update.id c.requires.sound fits.0
