-- A sound table stays sound.
use Rattle.std.specs.Prelude.{ℕ, true, List, [], ◌≡◌}
use Rattle.field.specs.Answer.{done}
use Rattle.table.specs.Table.{TableMemory, entries_of}
use Rattle.soundness.specs.Sound.{sound_table, sound_marks}
use Rattle.protocol.specs.Step.{ServerMemory, LentCall, call_step, fresh_start}
use Rattle.protocol.specs.Copy.{copy_message, copy_fresh_start}

-- lent memory that no call refuses with 14
pub record SoundMemory (limit : ℕ) (mem : ServerMemory) : Type 0 where
  pub table : sound_table limit mem.table ≡ true
  pub marks : sound_marks mem.marks ≡ true

-- a fresh start that answers 0 makes memory sound, whatever it held
abbrev pub StartSound : Type 0
StartSound = (limit : ℕ) (mem : ServerMemory) → (fresh_start limit mem).number ≡ done → SoundMemory limit (fresh_start limit mem).memory

-- every call keeps a sound table and sound marks sound
abbrev pub SoundKept : Type 0
SoundKept = (limit : ℕ) (mem : ServerMemory) → SoundMemory limit mem → (k : LentCall) → SoundMemory limit (call_step limit mem k).memory

-- every call keeps a sound table sound, whatever the marks are
abbrev pub SoundTableKept : Type 0
SoundTableKept =
    (limit : ℕ) (mem : ServerMemory) (k : LentCall) → sound_table limit mem.table ≡ true → sound_table limit (call_step limit mem k).memory.table ≡ true

-- every call of the client half keeps a sound copy sound
abbrev pub CopySoundKept : Type 0
CopySoundKept =
    (limit : ℕ) (m : TableMemory) (message : List ℕ) → sound_table limit m ≡ true → sound_table limit (copy_message limit m message).memory ≡ true

-- a fresh start of a copy that answers 0 makes it sound and empty, whatever it held
abbrev pub CopyStartSound : Type 0
CopyStartSound =
    (limit : ℕ) (m : TableMemory) → (copy_fresh_start limit m).number ≡ done
    → (sound_table limit (copy_fresh_start limit m).memory ≡ true) × (entries_of (copy_fresh_start limit m).memory ≡ [])
