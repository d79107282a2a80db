-- The answer to a hello.
use Rattle.std.specs.Prelude.{ℕ, suc, ◌+◌, ◌*◌, ◌≤◌, ◌<◌, List, [], ◌∷◌, ◌++◌, length, get_or}
use Rattle.message.specs.Layout.{Entry, WellFormed, kind_size, longest_assignment, hello_complete_kind, assignment_bytes}

-- "one assignment per entry in rising ID, then 0x03", from an ID on
unfoldable pub hello_answer : ℕ → List Entry → List ℕ
hello_answer id [] = hello_complete_kind ∷ []
hello_answer id (e ∷ es) = assignment_bytes id e ++ hello_answer (suc id) es

-- "the longest answer to a hello 64 x 328 + 1", for so many entries
abbrev pub longest_hello : (count : ℕ) → ℕ
longest_hello count = longest_assignment * count + kind_size

-- entries that obey the rules, read with any default, have an answer that is no longer
abbrev pub HelloLength : Type 0
HelloLength =
    (id : ℕ) (es : List Entry) (d : Entry) → ((i : ℕ) → i < length es → WellFormed (get_or es i d))
    → length (hello_answer id es) ≤ longest_hello (length es)
