-- A slot as the definitions have it.
use Rattle.std.specs.Prelude.{ℕ, List, take}
use Rattle.gather.specs.declared.slot.Slot.{Slot}

-- the bytes that its connection holds
abbrev pub held_in : Slot → List ℕ
held_in slot = take slot.size slot.bytes
