-- Saving and loading on lent memory.
use Rattle.std.specs.Prelude.{ℕ, Bool, ◌&&◌, List, [], ◌∷◌, length, get_or, leb, eqb, Err, Ok}
use Rattle.field.specs.Answer.{wrong_state, output_too_short, unsound}
use Rattle.field.specs.Choice.{demand}
use Rattle.field.specs.Octets.{overwrite_at}
use Rattle.answer.specs.Answers.{bare_answer, refused_answer, done_answer}
use Rattle.answer.specs.declared.Answer.{Answer}
use Rattle.message.specs.Layout.{Entry}
use Rattle.table.specs.Table.{TableMemory, emptied, entries_of, store_entry}
use Rattle.soundness.specs.Sound.{all_below, sound_table, sound_marks, connections, closed}
use Rattle.saved.specs.Form.{saved_size, saved_form}
use Rattle.saved.specs.Reading.{Reading, read_saved}

-- ---- saving

-- the answer, and the output afterwards; the table is only read
pub record SaveResult : Type 0 where
  pub answer : Answer
  pub output : List ℕ

abbrev pub save_result : Answer → List ℕ → SaveResult
save_result answer output = record { answer = answer; output = output }

-- "Saving: 14, 12."
unfoldable pub save : (limit : ℕ) → TableMemory → (out : List ℕ) → SaveResult
save limit m out =
    demand (sound_table limit m) (save_result (bare_answer unsound) out)
    (demand (leb (saved_size m.count) (length out)) (save_result (bare_answer output_too_short) out)
    (save_result (done_answer 0 0 (saved_size m.count)) (overwrite_at out 0 (saved_form (entries_of m)))))

-- ---- loading

-- the answer, and the table afterwards; the connection marks are only read
pub record LoadResult : Type 0 where
  pub answer : Answer
  pub table : TableMemory

abbrev pub load_result : Answer → TableMemory → LoadResult
load_result answer table = record { answer = answer; table = table }

-- "Loading asks that all connections are closed"
unfoldable pub all_closed : (marks : List ℕ) → Bool
all_closed marks = all_below connections (λ c. eqb (get_or marks c 0) closed)

-- entries stored one behind the other, each with the next ID
unfoldable pub store_all : TableMemory → List Entry → TableMemory
store_all m [] = m
store_all m (e ∷ es) = store_all (store_entry m e) es

-- "it changes the count and entries only, and a refusal changes nothing"
abbrev pub load_read : TableMemory → (taken : ℕ) → Reading → LoadResult
load_read m taken (Err fault) = load_result (refused_answer fault) m
load_read m taken (Ok es) = load_result (done_answer 0 taken 0) (store_all (emptied m) es)

-- "Refusals, loading: 14, 3, then left to right .."
unfoldable pub load : (limit : ℕ) → TableMemory → (marks saved : List ℕ) → LoadResult
load limit m marks saved =
    demand (sound_table limit m && sound_marks marks) (load_result (bare_answer unsound) m)
    (demand (all_closed marks) (load_result (bare_answer wrong_state) m)
    (load_read m (length saved) (read_saved limit saved)))
