-- What an assignment or an update was read from: the message that stands first, and its own length.
use Rattle.std.specs.Prelude.{Ok, Err}
use Rattle.message.specs.Read.{AssignmentRead, UpdateRead, an_assignment, an_update}
use mathlib.Core.Path.{◌≡◌}
use mathlib.Core.Bool.{Bool, true}
use mathlib.Core.List.{List}
use Prim.Native.Nat.{ℕ, ◌+◌}
use native.Mathlib.Omega.{arith}
use lib.ListN.{length, get_or}
use Rattle.field.specs.declared.Fault.{Fault}
use Rattle.value.specs.Value.{IsValue}
use Rattle.message.specs.Layout.{WellFormed, assignment, update, assignment_bytes, update_bytes, assignment_kind, update_kind}
use Rattle.message.specs.Reader.{parse_assignment, parse_update, update_value_in, Bytes, BeginsWith, entry_in}
use Rattle.message.proofs.ReadBack.{length_assignment, length_update}
use Rattle.message.proofs.ReadBytesLaws.{assignment_stands, update_stands}
use Rattle.message.proofs.TakenLaws.{part_length, AssignmentIs, assignment_is, UpdateIs, update_is}

pub data AssignmentFirst (allowed : ℕ → Bool) (m : List ℕ) : AssignmentRead → Type 0 where
  refused : {fault : Fault} → AssignmentFirst allowed m (Err fault)
  taken : {n t id q v : ℕ} → allowed id ≡ true → WellFormed (entry_in n t q v m) → BeginsWith m (assignment id (entry_in n t q v m))
      → 8 + n + v ≡ length (assignment_bytes id (entry_in n t q v m)) → AssignmentFirst allowed m (an_assignment t id q n v)

pub assignment_first : (allowed : ℕ → Bool) (m : List ℕ) → Bytes m → get_or m 0 0 ≡ assignment_kind → AssignmentFirst allowed m (parse_assignment allowed m)
assignment_first allowed m b k = go (parse_assignment allowed m) (assignment_is allowed m)
  where
    go : (r : AssignmentRead) → AssignmentIs allowed m r → AssignmentFirst allowed m r
    go (Err fault) f = AssignmentFirst.refused
    go (Ok read) (AssignmentIs.taken a l w f) =
        AssignmentFirst.taken {n = read.name_length} {v = read.value_length} a (w read.number) (assignment_stands m read.name_length read.type_code read.id read.number read.value_length b k f l)
        (omega (arith, length_assignment read.id (entry_in read.name_length read.type_code read.number read.value_length m), part_length 3 read.name_length m (omega arith), part_length (8 + read.name_length) read.value_length m l))

pub data UpdateFirst (held : ℕ → Bool) (type_of : ℕ → ℕ) (m : List ℕ) : UpdateRead → Type 0 where
  refused : {fault : Fault} → UpdateFirst held type_of m (Err fault)
  taken : {id q v : ℕ} → held id ≡ true → IsValue (type_of id) (update_value_in v m) → BeginsWith m (update id q (update_value_in v m))
      → 5 + v ≡ length (update_bytes id q (update_value_in v m)) → UpdateFirst held type_of m (an_update id q v)

pub update_first : (held : ℕ → Bool) (type_of : ℕ → ℕ) (m : List ℕ) → Bytes m → get_or m 0 0 ≡ update_kind → UpdateFirst held type_of m (parse_update held type_of m)
update_first held type_of m b k = go (parse_update held type_of m) (update_is held type_of m)
  where
    go : (r : UpdateRead) → UpdateIs held type_of m r → UpdateFirst held type_of m r
    go (Err fault) f = UpdateFirst.refused
    go (Ok read) (UpdateIs.taken a l w i n) =
        UpdateFirst.taken {v = read.value_length} a w (update_stands m read.id read.number read.value_length b k i n l) (omega (arith, length_update read.id read.number (update_value_in read.value_length m), part_length 5 read.value_length m l))
