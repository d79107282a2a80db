-- Fewer heads than a table has: the reason is 14.
use mathlib.Core.Path.{◌≡◌}
use mathlib.Core.List.{List}
use Prim.Native.Nat.{ℕ, ◌<◌}
use lib.ListN.{length}
use Rattle.field.specs.Answer.{unsound}
use Rattle.field.specs.Choice.{pick}
use Rattle.table.specs.Table.{max_entries}
use Rattle.heads.specs.declared.Head.{Head}
use Rattle.heads.specs.Heads.{head_numbers, flat_heads}
use Rattle.heads.proofs.HeadLaws.{length_few}
use Rattle.protocol.specs.Lent.{server_memory}
use Rattle.reason.specs.Reason.{refused_at}
use Rattle.reason.specs.Why.{why}
use Rattle.reason.proofs.ExplainLaws.{why_explained}
use Rattle.why.specs.Answer.{reason_answer}
use Rattle.why.specs.declared.ReasonAnswer.{ReasonAnswer}
use Rattle.nt2.specs.Lent.{lent}
use Rattle.nt2.proofs.FewLaws.{table_few}
use Rattle.nt2_why.specs.Lent.{heads_why}

abbrev pub unsound_reason : ReasonAnswer
unsound_reason = reason_answer (refused_at unsound 0)

pub why_few : (heads bytes : List ℕ) (count : ℕ) → length heads < head_numbers → (marks : List ℕ) (c : ℕ) (message : List ℕ)
    → unsound_reason ≡ reason_answer (why max_entries (server_memory heads bytes count marks) c message)
unfolding pick
why_few heads bytes count few marks c message = rw (why_explained max_entries (server_memory heads bytes count marks) c message, table_few heads bytes count few)

-- ---- the call on heads

pub few_reason : (hs : List Head) (bytes : List ℕ) (count : ℕ) → length hs < max_entries → (marks : List ℕ) (c : ℕ) (message : List ℕ)
    → unsound_reason ≡ heads_why (lent hs bytes count marks) c message
few_reason hs bytes count few marks c message = why_few (flat_heads hs) bytes count (length_few hs few) marks c message
