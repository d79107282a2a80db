-- An update that was read as the held entries fix it.
use Rattle.std.specs.Prelude.{Ok, Err}
use Rattle.field.specs.Answer.{unknown_id}
use Rattle.field.specs.Field.{fault_at, number_at}
use Rattle.field.specs.declared.Fault.{Fault}
use Rattle.field.proofs.FieldLaws.{number_there, number_missing}
use Rattle.message.proofs.ReaderLaws.{update_short, update_unknown, update_held}
use Rattle.message.specs.Reader.{parse_behind_update_id}
use Rattle.message.specs.Read.{an_update}
use mathlib.Core.Path.{◌≡◌, sym}
use mathlib.Core.Bool.{Bool}
use mathlib.Core.List.{List}
use Prim.Native.Nat.{ℕ, ◌+◌, ◌≤◌, ◌<◌}
use native.Mathlib.Omega.{arith}
use lib.ListN.{length, get_or}
use lib.Dec.{ltb}
use borrow.Author.Tests.{ltb-true, lt-ltb, le-ltb}
use Rattle.message.proofs.TakenLaws.{update_fits}
use Rattle.value.specs.Value.{max_value_size}
use Rattle.table.specs.Table.{TableMemory, default_entry, entry_of, entries_of, parse_held_update}
use Rattle.table.proofs.TabulateLaws.{length_entries, type_get}

pub held_update_fits : (table : TableMemory) (m : List ℕ) (id q v : ℕ) → parse_held_update (entries_of table) m ≡ an_update id q v
    → (id < table.count) × (5 + v ≤ length m) × (v ≤ max_value_size)
held_update_fits table m id q v e =
    let es = entries_of table in
    let w = update_fits (λ i. ltb i (length es)) (λ i. (get_or es i default_entry).type) m id q v e in
    (omega (arith, ltb-true id (length es) w.0, length_entries table), w.1, w.2)

-- ---- an update that is read: its ID is not there, is not held, or is held

module _ (table : TableMemory) (m : List ℕ) where
  held : ℕ → Bool
  held id = ltb id (length (entries_of table))

  type_of : ℕ → ℕ
  type_of id = (get_or (entries_of table) id default_entry).type

  pub update_cut : (fault : Fault) → Err fault ≡ number_at m 1 → Err fault ≡ parse_held_update (entries_of table) m
  unfolding held type_of
  update_cut fault cut =
      let missing = number_missing m 1 fault cut in
      rw missing.1 (sym (update_short held type_of m missing.0))

  pub update_of_none : (id : ℕ) → Ok id ≡ number_at m 1 → table.count ≤ id → Err (fault_at unknown_id 1) ≡ parse_held_update (entries_of table) m
  unfolding held type_of
  update_of_none id there h =
      let read = number_there m 1 id there in
      sym (update_unknown held type_of m id read.0 read.1 (le-ltb id (length (entries_of table)) (omega (arith, length_entries table))))

  pub update_of_held : (id : ℕ) → Ok id ≡ number_at m 1 → id < table.count
      → parse_behind_update_id id (entry_of table id).type m ≡ parse_held_update (entries_of table) m
  unfolding held type_of
  update_of_held id there h =
      let read = number_there m 1 id there in
      sym (update_held held type_of m id _ read.0 read.1 (lt-ltb id (length (entries_of table)) (omega (arith, length_entries table))) (sym (type_get table id default_entry h)))
