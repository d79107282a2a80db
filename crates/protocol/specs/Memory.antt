-- The server's memory as the code has it. A call that changes it leaves the references where they are, and what they lend as long as it was.
use Rattle.std.specs.Prelude.{◌≡◌, length}
use Rattle.protocol.specs.Step.{ServerMemory}
use Rattle.protocol.specs.Lent.{lent_server}
use Rattle.protocol.specs.declared.Memory.{Memory}

abbrev pub server_of : Memory → ServerMemory
server_of m = lent_server m.heads.now m.bytes.now m.count.now m.marks.now

-- the same references, with as much behind each
pub record SameMemory (old new : Memory) : Type 0 where
  pub heads : new.heads.ghost_name ≡ old.heads.ghost_name
  pub bytes : new.bytes.ghost_name ≡ old.bytes.ghost_name
  pub count : new.count.ghost_name ≡ old.count.ghost_name
  pub marks : new.marks.ghost_name ≡ old.marks.ghost_name
  pub heads_length : length new.heads.now ≡ length old.heads.now
  pub bytes_length : length new.bytes.now ≡ length old.bytes.now
  pub marks_length : length new.marks.now ≡ length old.marks.now
