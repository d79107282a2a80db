use Rattle.std.proofs.Common.{ℕ, ◌<◌}
use mathlib.Core.Logic.{◌≢◌}
use Rattle.table.specs.Table.{entry_at}
use Rattle.table.proofs.find_name.Given as goal

-- the entries passed have other names
abbrev pub invariant-loop-i : goal.invariant-loop-i
invariant-loop-i l = (j : ℕ) → j < l.i → (entry_at l.heads l.bytes j).name ≢ l.name
