-- The checks look at names, types and numbers of entries, and at no value.
use mathlib.Core.Path.{◌≡◌, refl}
use mathlib.Core.List.{List, [], ◌∷◌}
use Prim.Native.Nat.{ℕ, suc}
use native.Mathlib.Omega.{arith}
use lib.ListN.{length, get_or}
use Rattle.message.specs.Layout.{Entry}
use Rattle.message.specs.Reader.{name_in}
use Rattle.table.specs.Names.{holder, name_held}
use Rattle.table.specs.Table.{default_entry, entries_of}
use Rattle.places.specs.MessageFails.{name_length_in, update_id_in}
use Rattle.reason.specs.Checks.{assignment_checks, update_checks, behind_kind, checks}
use Rattle.reason.specs.Why.{when_passed, why}
use Rattle.reason.specs.Values.{ValuesNotLookedAt}

holder_same : (name : List ℕ) (xs ys : List Entry) → length ys ≡ length xs → ((id : ℕ) → (get_or ys id default_entry).name ≡ (get_or xs id default_entry).name)
    → holder name ys ≡ holder name xs
unfolding holder
holder_same name [] [] l f = refl
holder_same name [] (y ∷ ys) l f = absurd (omega (arith, l))
holder_same name (x ∷ xs) [] l f = absurd (omega (arith, l))
holder_same name (x ∷ xs) (y ∷ ys) l f = rw (f 0, holder_same name xs ys (omega (arith, l)) (λ id. f (suc id)))

pub values_not_looked_at : ValuesNotLookedAt
unfolding why checks behind_kind assignment_checks update_checks when_passed name_held
values_not_looked_at limit mem other s t marks same c m =
    let xs = entries_of mem.table in
    let ys = entries_of other.table in
    let name = name_in (name_length_in m) m in
    rw (
      s.table,
      s.marks,
      t.table,
      t.marks,
      marks,
      holder_same name xs ys same.lengths same.names,
      same.lengths,
      same.types (update_id_in m),
      same.numbers (update_id_in m),
    )
