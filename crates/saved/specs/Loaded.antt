-- What holds of saving and loading: theorems.
use Rattle.std.specs.Prelude.{ℕ, ◌*◌, ◌≤◌, ◌<◌, true, List, ◌≡◌, ◌≢◌, length, take, drop, get_or}
use Rattle.field.specs.Answer.{done}
use Rattle.message.specs.Layout.{Entry}
use Rattle.message.specs.Reader.{Bytes}
use Rattle.table.specs.Table.{TableMemory, head_size, name_start, value_start, entries_of, default_entry}
use Rattle.table.specs.Stored.{Within, SameBut}
use Rattle.soundness.specs.Sound.{sound_table, sound_marks}
use Rattle.saved.specs.Form.{saved_size, saved_form}
use Rattle.saved.specs.Calls.{SaveResult, LoadResult, save, load, all_closed}

-- ---- saving

-- the table is sound, and there is room; its saved form has the size that saving answers, and stands first in the output, whose rest is unchanged
pub record Saved (limit : ℕ) (m : TableMemory) (out : List ℕ) (r : SaveResult) : Type 0 where
  pub table_sound : sound_table limit m ≡ true
  pub room : saved_size m.count ≤ length out
  pub size : r.answer.sent ≡ saved_size m.count
  pub form : take r.answer.sent r.output ≡ saved_form (entries_of m)
  pub rest : drop r.answer.sent r.output ≡ drop r.answer.sent out

abbrev pub SaveGivesForm : Type 0
SaveGivesForm = (limit : ℕ) (m : TableMemory) (out : List ℕ) → (save limit m out).answer.number ≡ done → Saved limit m out (save limit m out)

-- and the other way: one saved form is that of one table
abbrev pub OneTableOfForm : Type 0
OneTableOfForm =
    (limit : ℕ) (m m' : TableMemory) → sound_table limit m ≡ true → sound_table limit m' ≡ true → saved_form (entries_of m) ≡ saved_form (entries_of m')
    → entries_of m ≡ entries_of m'

-- ---- loading

-- memory that is large enough and sound, with all connections closed
pub record Loadable (limit : ℕ) (m : TableMemory) (marks : List ℕ) : Type 0 where
  pub table_sound : sound_table limit m ≡ true
  pub marks_sound : sound_marks marks ≡ true
  pub closed : all_closed marks ≡ true

-- a load is done, takes so many bytes, and the table then holds these entries
pub record Gives (es : List Entry) (taken : ℕ) (r : LoadResult) : Type 0 where
  pub is_done : r.answer.number ≡ done
  pub took : r.answer.taken ≡ taken
  pub entries : entries_of r.table ≡ es

-- "Loading what was saved gives the same entries"
abbrev pub LoadsWhatWasSaved : Type 0
LoadsWhatWasSaved =
    (limit : ℕ) (m : TableMemory) → sound_table limit m ≡ true → (into : TableMemory) (marks : List ℕ) → Loadable limit into marks
    → Gives (entries_of m) (saved_size m.count) (load limit into marks (saved_form (entries_of m)))

-- "Loading asks that all connections are closed"
abbrev pub LoadsWhereClosed : Type 0
LoadsWhereClosed =
    (limit : ℕ) (m : TableMemory) (marks saved : List ℕ) → (load limit m marks saved).answer.number ≡ done → Loadable limit m marks

-- what is loaded is the saved form of the entries that the table then holds. It is said of bytes, as every call is lent them: of other lists
-- two might have one 16-bit number
abbrev pub LoadsFormsOnly : Type 0
LoadsFormsOnly =
    (limit : ℕ) (m : TableMemory) (marks saved : List ℕ) → Bytes saved → (load limit m marks saved).answer.number ≡ done
    → saved ≡ saved_form (entries_of (load limit m marks saved).table)

-- "one table has one saved form": so two different runs of bytes never load as the same table
abbrev pub OneFormOfTable : Type 0
OneFormOfTable =
    (limit : ℕ) (m m' : TableMemory) (marks marks' saved saved' : List ℕ) → Bytes saved → Bytes saved'
    → (load limit m marks saved).answer.number ≡ done → (load limit m' marks' saved').answer.number ≡ done
    → entries_of (load limit m marks saved).table ≡ entries_of (load limit m' marks' saved').table → saved ≡ saved'

abbrev pub LoadedIsSound : Type 0
LoadedIsSound =
    (limit : ℕ) (m : TableMemory) (marks saved : List ℕ) → (load limit m marks saved).answer.number ≡ done
    → sound_table limit (load limit m marks saved).table ≡ true

-- ---- what stays

-- "a refusal changes nothing"
abbrev pub RefusedLoadKeeps : Type 0
RefusedLoadKeeps =
    (limit : ℕ) (m : TableMemory) (marks saved : List ℕ) → (load limit m marks saved).answer.number ≢ done → (load limit m marks saved).table ≡ m

-- place p is covered by the name or the value of one of these entries
pub data Covered (es : List Entry) (p : ℕ) : Type 0 where
  by_name : (id : ℕ) → id < length es → Within (name_start id) (length (get_or es id default_entry).name) p → Covered es p
  by_value : (id : ℕ) → id < length es → Within (value_start id) (length (get_or es id default_entry).value) p → Covered es p

-- "it changes the count and entries only": the heads of the entries, and the bytes that their names and values cover
abbrev pub LoadChangesEntries : Type 0
LoadChangesEntries =
    (limit : ℕ) (m : TableMemory) (marks saved : List ℕ)
    → SameBut (λ p. p < head_size * (load limit m marks saved).table.count) (Covered (entries_of (load limit m marks saved).table)) m
    (load limit m marks saved).table
