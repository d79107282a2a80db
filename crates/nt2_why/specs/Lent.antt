-- What the reason on memory as C lends it is, over the numbers of the heads.
use Rattle.std.specs.Prelude.{ℕ, List}
use Rattle.table.specs.Table.{max_entries}
use Rattle.reason.specs.Why.{why}
use Rattle.why.specs.Answer.{reason_answer}
use Rattle.why.specs.declared.ReasonAnswer.{ReasonAnswer}
use Rattle.nt2.specs.Lent.{HeadsServer, server_of}

abbrev pub heads_why : HeadsServer → (c : ℕ) → List ℕ → ReasonAnswer
heads_why m c message = reason_answer (why max_entries (server_of m) c message)
