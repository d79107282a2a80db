use Rattle.std.proofs.Common.{ℕ, ◌<◌}
use mathlib.Core.Logic.{◌≢◌}
use Rattle.soundness.proofs.name_held.Given as goal

-- the names passed are others
abbrev pub invariant-loop-j : goal.invariant-loop-j
invariant-loop-j g l = (k : ℕ) → k < l.j → (g.N.Names.entry l.names k).name ≢ (g.N.Names.entry l.names l.i).name
