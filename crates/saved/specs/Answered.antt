-- What saving and loading answer, whole.
use Rattle.std.specs.Prelude.{ℕ, ◌≤◌, ◌<◌, true, false, ◌&&◌, List, ◌≡◌, ◌≢◌, length, take}
use Rattle.field.specs.Answer.{done, wrong_state, output_too_short, unsound}
use Rattle.answer.specs.Answers.{bare_answer, done_answer}
use Rattle.table.specs.Table.{TableMemory, entries_of}
use Rattle.soundness.specs.Sound.{sound_table, sound_marks}
use Rattle.saved.specs.Form.{saved_size}
use Rattle.saved.specs.Calls.{save_result, save, load_result, load, all_closed}
use Rattle.saved.specs.Loaded.{Loadable, Gives}

-- "Saving: 14, 12."; a refusal leaves the output as it was
pub record SaveAnswers (limit : ℕ) (m : TableMemory) (out : List ℕ) : Type 0 where
  pub unsound_table : sound_table limit m ≡ false → save limit m out ≡ save_result (bare_answer unsound) out
  pub no_room : sound_table limit m ≡ true → length out < saved_size m.count → save limit m out ≡ save_result (bare_answer output_too_short) out
  pub has_room : sound_table limit m ≡ true → saved_size m.count ≤ length out → (save limit m out).answer ≡ done_answer 0 0 (saved_size m.count)

abbrev pub SaveAnswered : Type 0
SaveAnswered = (limit : ℕ) (m : TableMemory) (out : List ℕ) → SaveAnswers limit m out

-- "Refusals, loading: 14, 3", whatever is to be loaded
pub record FirstRefusals (limit : ℕ) (m : TableMemory) (marks saved : List ℕ) : Type 0 where
  pub unsound_memory : (sound_table limit m && sound_marks marks) ≡ false → load limit m marks saved ≡ load_result (bare_answer unsound) m
  pub not_closed : (sound_table limit m && sound_marks marks) ≡ true → all_closed marks ≡ false → load limit m marks saved ≡ load_result (bare_answer wrong_state) m

abbrev pub FirstRefused : Type 0
FirstRefused = (limit : ℕ) (m : TableMemory) (marks saved : List ℕ) → FirstRefusals limit m marks saved

-- a load that is done takes all bytes; "A refusal .. reports 0 bytes taken, 0 sent and no recipients"
pub record LoadAnswers (limit : ℕ) (m : TableMemory) (marks saved : List ℕ) : Type 0 where
  pub at_done : (load limit m marks saved).answer.number ≡ done → (load limit m marks saved).answer ≡ done_answer 0 (length saved) 0
  pub none_taken : (load limit m marks saved).answer.number ≢ done → (load limit m marks saved).answer.taken ≡ 0
  pub none_sent : (load limit m marks saved).answer.sent ≡ 0
  pub nobody_receives : (load limit m marks saved).answer.recipients ≡ 0

abbrev pub LoadAnswered : Type 0
LoadAnswered = (limit : ℕ) (m : TableMemory) (marks saved : List ℕ) → LoadAnswers limit m marks saved

-- "Loading what was saved gives the same entries": of the bytes that a save wrote
abbrev pub LoadsWhatSaveWrote : Type 0
LoadsWhatSaveWrote =
    (limit : ℕ) (m : TableMemory) (out : List ℕ) → (save limit m out).answer.number ≡ done
    → (into : TableMemory) (marks : List ℕ) → Loadable limit into marks
    → Gives (entries_of m) (save limit m out).answer.sent (load limit into marks (take (save limit m out).answer.sent (save limit m out).output))
