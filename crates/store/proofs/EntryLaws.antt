-- An entry that is held can be stored in.
use Rattle.std.proofs.Common.{◌≡◌, true, ℕ, ◌+◌, ◌<◌, arith}
use Rattle.table.specs.Table.{Holds, TableMemory, max_entries}
use Rattle.table.proofs.SearchLaws.{holds_less}
use Rattle.soundness.specs.Sound.{sound_table}
use Rattle.soundness.proofs.ReadableLaws.{sound_count, sound_holds}

pub entry_there : (table : TableMemory) (id : ℕ) → sound_table max_entries table ≡ true → id < table.count → Holds (id + 1) table.heads table.bytes
entry_there table id sound held = holds_less (id + 1) (omega (arith, held, sound_count max_entries table sound)) (sound_holds max_entries table sound)
