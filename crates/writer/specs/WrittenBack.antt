-- "Reading its bytes, any kind and ID allowed, gives that kind's fields back, an update's type being known";
-- "equal bytes mean equal fields of that kind, for two updates where their types are equal."
use Rattle.std.specs.Prelude.{◌≡◌, List, ◌++◌, ℕ, ◌≤◌, length}
use Rattle.field.specs.Answer.{done}
use Rattle.message.specs.Layout.{Message, keep_alive, hello, unsupported, hello_complete, assignment, update, layout, keep_alive_kind, hello_kind, unsupported_kind, hello_complete_kind, assignment_kind, update_kind, WellFormedMessage}
use Rattle.message.specs.Laws.{ReadsAs}
use Rattle.writer.specs.Writer.{Fields, given_entry, allowed, check, WriteResult, sending, write_result}

-- the message is of the kind that was given, and has that kind's fields as they were given
pub data Says (f : Fields) : Message → Type 0 where
  says_keep_alive : f.kind ≡ keep_alive_kind → Says f keep_alive
  says_hello : f.kind ≡ hello_kind → Says f (hello f.revision)
  says_unsupported : f.kind ≡ unsupported_kind → Says f (unsupported f.revision)
  says_hello_complete : f.kind ≡ hello_complete_kind → Says f hello_complete
  says_assignment : f.kind ≡ assignment_kind → Says f (assignment f.id (given_entry f))
  says_update : f.kind ≡ update_kind → Says f (update f.id f.number f.value)

-- what is allowed says what was given
abbrev pub WrittenSays : Type 0
WrittenSays = (f : Fields) (x : Message) → check f ≡ allowed x → Says f x

-- and obeys the rules
abbrev pub WrittenWellFormed : Type 0
WrittenWellFormed = (f : Fields) (x : Message) → check f ≡ allowed x → WellFormedMessage f.type x

-- every message that does both is allowed
abbrev pub WrittenAllowed : Type 0
WrittenAllowed = (f : Fields) (x : Message) → Says f x → WellFormedMessage f.type x → check f ≡ allowed x

-- so it is sent wherever there is room for it
abbrev pub WrittenSent : Type 0
WrittenSent =
    (f : Fields) (x : Message) → Says f x → WellFormedMessage f.type x
    → (out : List ℕ) → length (layout x) ≤ length out → write_result (check f) out ≡ sending x out

-- reading its bytes, with more behind them or not, gives the fields back, and takes just these
abbrev pub WrittenBack : Type 0
WrittenBack = (f : Fields) (x : Message) → check f ≡ allowed x → (rest : List ℕ) → ReadsAs f.type x (layout x ++ rest)

-- what is sent is a message that says what was given, and the output reads back as that message from its first byte on
pub record SentMessage (f : Fields) (r : WriteResult) : Type 0 where
  pub message : Message
  pub says_given : Says f message
  pub is_sent : r.sent ≡ length (layout message)
  pub reads_back : ReadsAs f.type message r.output

-- so it is where the writer answers 0
abbrev pub SentBack : Type 0
SentBack = (f : Fields) (out : List ℕ) → (write_result (check f) out).number ≡ done → SentMessage f (write_result (check f) out)

-- "equal bytes mean equal fields of that kind, for two updates where their types are equal"
abbrev pub SameWritten : Type 0
SameWritten =
    (f g : Fields) (x y : Message) → check f ≡ allowed x → check g ≡ allowed y → layout x ≡ layout y
    → (f.kind ≡ update_kind → g.kind ≡ update_kind → f.type ≡ g.type) → x ≡ y
