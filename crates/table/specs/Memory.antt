-- A table that is lent to be read.
use Rattle.table.specs.Table.{TableMemory, lent}
use Rattle.table.specs.declared.Table.{Table}

abbrev pub memory_of : Table → TableMemory
memory_of t = lent t.heads.now t.bytes.now t.count
