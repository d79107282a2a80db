-- "The copy at the client": one message from the server.
use Rattle.message.specs.Read.{AssignmentRead, UpdateRead}
use Rattle.std.specs.Prelude.{ℕ, List, length, drop, get_or, ltb, eqb, Ok, Err}
use Rattle.field.specs.Answer.{done, ignored, incomplete, unknown_kind, table_full, name_taken, unsound}
use Rattle.field.specs.Choice.{pick, demand}
use Rattle.field.specs.Octets.{decode16}
use Rattle.field.specs.Field.{fault_at, demand_bytes}
use Rattle.field.specs.declared.Fault.{Fault}
use Rattle.message.specs.Layout.{Entry, kind_size, revision_length, keep_alive_kind, unsupported_kind, hello_complete_kind, assignment_kind, update_kind}
use Rattle.message.specs.Reader.{id_allowed, parse_assignment, name_in, update_value_in, entry_in, assignment_length, update_length}
use Rattle.message.specs.declared.AllowedId.TheVariants.{Only}
use Rattle.table.specs.Names.{name_held}
use Rattle.table.specs.Table.{TableMemory, parse_held_update, entries_of, store_entry, store_value, emptied}
use Rattle.soundness.specs.Sound.{large_enough, sound_table}

-- what a message comes to
pub data CopyVerdict : Type 0 where
  refuse : Fault → CopyVerdict
  ignore : (taken revision : ℕ) → CopyVerdict
  store_new : Entry → (taken : ℕ) → CopyVerdict
  store_update : (id number : ℕ) (value : List ℕ) (taken : ℕ) → CopyVerdict

-- a refusal at the first byte, or at none
abbrev pub refuse_message : (number : ℕ) → CopyVerdict
refuse_message number = refuse (fault_at number 0)

-- "An assignment's ID must equal the copy's count (5); after its value 13, then 11; else it is stored with its number."
unfoldable pub judge_copy_assignment : ℕ → List Entry → List ℕ → AssignmentRead → CopyVerdict
judge_copy_assignment limit es m (Err fault) = refuse fault
judge_copy_assignment limit es m (Ok read) =
    pick (name_held (name_in read.name_length m) es) (refuse_message name_taken)
    (demand (ltb (length es) limit) (refuse_message table_full)
    (store_new (entry_in read.name_length read.type_code read.number read.value_length m) (assignment_length read.name_length read.value_length)))

-- "An update of a held ID is always stored."
unfoldable pub judge_copy_update : List ℕ → UpdateRead → CopyVerdict
judge_copy_update m (Err fault) = refuse fault
judge_copy_update m (Ok read) = store_update read.id read.number (update_value_in read.value_length m) (update_length read.value_length)

-- 0x02, "once its revision is read, which is reported"
abbrev pub judge_unsupported : List ℕ → CopyVerdict
judge_unsupported m =
    demand_bytes revision_length m (refuse (fault_at incomplete kind_size)) (ignore revision_length (decode16 (drop kind_size m)))

-- "0x00, 0x03 and 0x02 give 16, the last once its revision is read, which is reported (0 is reported in every other case); 0x01 is 4"
unfoldable pub judge_copy_kind : ℕ → List Entry → (kind : ℕ) → List ℕ → CopyVerdict
judge_copy_kind limit es kind m =
    pick (eqb kind keep_alive_kind) (ignore kind_size 0)
    (pick (eqb kind hello_complete_kind) (ignore kind_size 0)
    (pick (eqb kind unsupported_kind) (judge_unsupported m)
    (pick (eqb kind assignment_kind) (judge_copy_assignment limit es m (parse_assignment (id_allowed (Only (length es))) m))
    (pick (eqb kind update_kind) (judge_copy_update m (parse_held_update es m))
    (refuse_message unknown_kind)))))

unfoldable pub judge_copy : ℕ → List Entry → List ℕ → CopyVerdict
judge_copy limit es m = demand_bytes kind_size m (refuse_message incomplete) (judge_copy_kind limit es (get_or m 0 0) m)

-- number, taken and revision; the copy afterwards
pub record CopyResult : Type 0 where
  pub number : ℕ
  pub taken : ℕ
  pub revision : ℕ
  pub memory : TableMemory

-- "A refusal .. reports 0 bytes taken .. and changes no lent memory."
unfoldable pub execute_copy : TableMemory → CopyVerdict → CopyResult
execute_copy m (refuse fault) = record { number = fault.number; taken = 0; revision = 0; memory = m }
execute_copy m (ignore taken revision) = record { number = ignored; taken = taken; revision = revision; memory = m }
execute_copy m (store_new e taken) = record { number = done; taken = taken; revision = 0; memory = store_entry m e }
execute_copy m (store_update id number value taken) = record { number = done; taken = taken; revision = 0; memory = store_value m id number value }

-- "14 first"
unfoldable pub copy_message : ℕ → TableMemory → List ℕ → CopyResult
copy_message limit m message =
    demand (sound_table limit m) (execute_copy m (refuse_message unsound)) (execute_copy m (judge_copy limit (entries_of m) message))

pub record CopyStart : Type 0 where
  pub number : ℕ
  pub memory : TableMemory

-- "a fresh start of a copy only sets its count to 0"
unfoldable pub copy_fresh_start : ℕ → TableMemory → CopyStart
copy_fresh_start limit m =
    demand (large_enough limit m.heads m.bytes) (record { number = unsound; memory = m }) (record { number = done; memory = emptied m })
