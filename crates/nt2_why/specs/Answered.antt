-- "the real call, with output for the longest hello answer, gives the number that goes with the reason": of the exported calls, over heads.
-- Proved in proofs/AnsweredLaws.antt.
use Rattle.std.specs.Prelude.{ℕ, ◌≤◌, List, ◌≡◌, length}
use Rattle.field.specs.Place.{TellsPlace}
use Rattle.table.specs.Table.{max_entries}
use Rattle.hello.specs.Hello.{longest_hello}
use Rattle.answer.specs.declared.Answer.{Answer}
use Rattle.protocol.specs.Taken.{message_call}
use Rattle.why.specs.declared.ReasonAnswer.{ReasonAnswer}
use Rattle.nt2.specs.Lent.{HeadsServer, heads_answered, heads_step}
use Rattle.nt2_why.specs.Lent.{heads_why}

-- `nt2_why` on some memory, and `nt2_receive` on the same
abbrev pub ExportedCallGives : Type 0
ExportedCallGives =
    (m after : HeadsServer) (c : ℕ) (message out written : List ℕ) (r : ReasonAnswer) (a : Answer)
    → r ≡ heads_why m c message → heads_answered a after written ≡ heads_step m (message_call c message out) → longest_hello max_entries ≤ length out
    → (a.number ≡ r.number) × (TellsPlace a.number → a.place ≡ r.place)
