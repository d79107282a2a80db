-- Whether a delivery begins, by the tests in their order.
use mathlib.Core.Path.{◌≡◌}
use mathlib.Core.Logic.{◌≢◌}
use mathlib.Core.Bool.{Bool, true, false, ◌&&◌}
use Prim.Native.Nat.{ℕ, ◌≤◌, ◌<◌}
use lib.ListN.{get_or}
use borrow.Author.Tests.{lt-ltb, le-ltb, eq-eqb, ne_eqb}
use Rattle.field.specs.Answer.{unsound, connection_too_high, wrong_state}
use Rattle.field.specs.Choice.{pick}
use Rattle.table.specs.Table.{max_entries}
use Rattle.soundness.specs.Sound.{sound_table, sound_marks, connections, closed}
use Rattle.protocol.specs.Step.{ServerMemory}
use Rattle.delivery.specs.Delivery.{demand_ready}

module _ {X : Type 0} (mem : ServerMemory) (c : ℕ) (refuse : ℕ → X) (next : X) where
  abbrev comes_to : X
  comes_to = demand_ready max_entries mem c refuse next

  abbrev both : Bool
  both = sound_table max_entries mem.table && sound_marks mem.marks

  pub refused_unsound : both ≡ false → refuse unsound ≡ comes_to
  unfolding pick
  refused_unsound h = rw h

  pub refused_too_high : both ≡ true → connections ≤ c → refuse connection_too_high ≡ comes_to
  unfolding pick
  refused_too_high sound h = rw (sound, le-ltb c connections h)

  pub refused_closed : both ≡ true → c < connections → get_or mem.marks c 0 ≡ closed → refuse wrong_state ≡ comes_to
  unfolding pick
  refused_closed sound h is = rw (sound, lt-ltb c connections h, eq-eqb _ closed is)

  pub begins : both ≡ true → c < connections → get_or mem.marks c 0 ≢ closed → next ≡ comes_to
  unfolding pick
  begins sound h other = rw (sound, lt-ltb c connections h, ne_eqb _ closed other)
