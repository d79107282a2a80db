-- The code's answers, decisions and lent slices, as the definitions have them.
use Rattle.std.specs.Prelude.{ℕ, ◌≤◌, ◌<◌, List, ◌≡◌, length, Result, Ok, Err}
use Rattle.field.specs.Answer.{done, ignored}
use Rattle.field.specs.Place.{reported_place, WithPlace}
use Rattle.field.specs.declared.Fault.{Fault}
use Rattle.value.specs.Value.{max_value_size}
use Rattle.message.specs.Layout.{max_name_length}
use Rattle.message.specs.Reader.{update_value_in, entry_in, assignment_length, update_length}
use Rattle.table.specs.Table.{TableMemory, max_entries}
use Rattle.protocol.specs.Copy.{CopyVerdict, refuse, ignore, store_new, store_update, CopyResult}
use Rattle.client.specs.declared.Copied.{Copied}
use Rattle.client.specs.declared.CopyDecision.{CopyDecision}
use Rattle.client.specs.declared.CopyDecision.TheVariants as D

-- an answer, with the copy as the call leaves it
abbrev pub copied : Copied → TableMemory → WithPlace CopyResult
copied a memory =
    record { result = record { number = a.number; taken = a.taken; revision = a.revision; memory = memory }; place = a.place }

-- a number alone
abbrev pub bare_copied : (number : ℕ) → Copied
bare_copied number = record { number = number; revision = 0; taken = 0; place = 0 }

-- "A refusal .. reports 0 bytes taken"; "0 is reported in every other case"
abbrev pub refused_copied : Fault → Copied
refused_copied fault = record { number = fault.number; revision = 0; taken = 0; place = reported_place fault }

abbrev pub ignored_copied : (taken revision : ℕ) → Copied
ignored_copied taken revision = record { number = ignored; revision = revision; taken = taken; place = 0 }

abbrev pub stored_copied : (taken : ℕ) → Copied
stored_copied taken = record { number = done; revision = 0; taken = taken; place = 0 }

-- what a message comes to: a refusal, or what is done with it
abbrev pub CopyJudged : Type 0
CopyJudged = Result CopyDecision Fault

-- the verdict on a message m
abbrev pub copy_verdict_of : List ℕ → CopyJudged → CopyVerdict
copy_verdict_of m (Err fault) = refuse fault
copy_verdict_of m (Ok (D.Ignore revision taken)) = ignore taken revision
copy_verdict_of m (Ok (D.StoreNew new)) =
    store_new (entry_in new.name_length new.type_code new.number new.value_length m) (assignment_length new.name_length new.value_length)
copy_verdict_of m (Ok (D.StoreUpdate update)) =
    store_update update.id update.number (update_value_in update.value_length m) (update_length update.value_length)

-- what performing relies on: name and value are in the message, and a copy of so many entries has the place
abbrev pub Copyable : (count : ℕ) → List ℕ → CopyJudged → Type 0
Copyable count m (Err fault) = Unit {0}
Copyable count m (Ok (D.Ignore revision taken)) = Unit {0}
Copyable count m (Ok (D.StoreNew new)) =
    (count < max_entries)
    × (assignment_length new.name_length new.value_length ≤ length m)
    × (new.name_length ≤ max_name_length)
    × (new.value_length ≤ max_value_size)
Copyable count m (Ok (D.StoreUpdate update)) =
    (update.id < count) × (update_length update.value_length ≤ length m) × (update.value_length ≤ max_value_size)

-- the message is judged with this verdict, which can be performed
pub record DecidesCopy (count : ℕ) (m : List ℕ) (d : CopyJudged) (v : CopyVerdict) : Type 0 where
  pub verdict : copy_verdict_of m d ≡ v
  pub copyable : Copyable count m d
