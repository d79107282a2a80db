use Rattle.std.proofs.Common.{[], ◌∷◌, ◌++◌, drop}
use Rattle.digits.proofs.PutLaws.{Leads}
use Rattle.table_text.specs.Text.{quoted_bytes}
use Rattle.table_text.proofs.put_quoted.Given as goal

abbrev pub invariant-loop-b : goal.invariant-loop-b
invariant-loop-b l = Leads l.fn.text l.text ((34 ∷ []) ++ quoted_bytes l.s) (quoted_bytes (drop l.b-index l.s))
