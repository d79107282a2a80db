-- A decoded message is short: a name has up to 64 bytes, a value up to 256.
use Rattle.std.specs.Prelude.{Ok, Err}
use Rattle.message.specs.Read.{AssignmentRead, UpdateRead, Reading}
use mathlib.Core.Path.{◌≡◌, refl}
use mathlib.Core.Bool.{Bool, true, false}
use Prim.Native.Nat.{ℕ, ◌≤◌}
use native.Mathlib.Omega.{arith}
use mathlib.Core.List.{List}
use Rattle.field.proofs.ChoiceLaws.{by_test}
use Rattle.message.specs.Reader.{parse_assignment, parse_update, parse_revision, parse_by_kind, parse_message, of_assignment, of_update, taken_of}
use Rattle.message.specs.Layout.{longest_assignment}
use Rattle.message.specs.declared.Decoded.{Decoded}
use Rattle.message.proofs.TakenLaws.{assignment_fits, update_fits}

data Small (d : Reading) : Type 0 where
  small : taken_of d ≤ longest_assignment → Small d

assignment_small : (allowed : ℕ → Bool) (m : List ℕ) (a : AssignmentRead) → parse_assignment allowed m ≡ a → Small (of_assignment a)
assignment_small allowed m (Err fault) e = small (omega arith)
assignment_small allowed m (Ok read) e = small (omega (arith, assignment_fits allowed m read.name_length read.type_code read.id read.number read.value_length e))

update_small : (held : ℕ → Bool) (type_of : ℕ → ℕ) (m : List ℕ) (u : UpdateRead) → parse_update held type_of m ≡ u → Small (of_update u)
update_small held type_of m (Err fault) e = small (omega arith)
update_small held type_of m (Ok read) e = small (omega (arith, update_fits held type_of m read.id read.number read.value_length e))

revision_small : (hello : Bool) (m : List ℕ) → Small (parse_revision hello m)
unfolding parse_revision
revision_small hello m = by_test Small _ _ _ (λ _. by_test Small _ _ _ (λ _. small (omega arith)) (λ _. small (omega arith))) (λ _. small (omega arith))

message_small : (t : ℕ) (m : List ℕ) → Small (parse_message t m)
unfolding parse_message parse_by_kind
message_small t m =
    by_test Small _ _ _ (λ _.
    by_test Small _ _ _ (λ _. small (omega arith)) (λ _.
    by_test Small _ _ _ (λ _. revision_small true m) (λ _.
    by_test Small _ _ _ (λ _. revision_small false m) (λ _.
    by_test Small _ _ _ (λ _. small (omega arith)) (λ _.
    by_test Small _ _ _ (λ _. assignment_small _ m _ refl) (λ _.
    by_test Small _ _ _ (λ _. update_small _ _ m _ refl) (λ _. small (omega arith))))))))
    (λ _. small (omega arith))

pub taken_small : (t : ℕ) (m : List ℕ) (d : Decoded) → Ok d ≡ parse_message t m → taken_of (Ok d) ≤ longest_assignment
taken_small t m d e = of (rw (← e) at (message_small t m))
  where
    of : {d : Decoded} → Small (Ok d) → taken_of (Ok d) ≤ longest_assignment
    of (small h) = h
