-- What is true at the place that a lent name, or the fields of a message to be written, are refused with.
use Rattle.std.specs.Prelude.{Err, Ok}
use mathlib.Core.List.{List}
use Prim.Native.Nat.{ℕ}
use native.Mathlib.Omega.{arith}
use borrow.Author.Tests.{leb-true, leb-false, eqb-true}
use Rattle.field.specs.Field.{fault_at, and_then, Parsed}
use Rattle.field.specs.Place.{TellsPlace, Told}
use Rattle.field.specs.declared.Fault.{Fault}
use Rattle.field.proofs.ChoiceLaws.{by_test}
use Rattle.field.proofs.PlaceLaws.{told, untold, Refuses, refuses_with, refused_with_lem}
use Rattle.value.specs.Value.{parse_lone}
use Rattle.value.specs.Fails.{LoneFailsAt}
use Rattle.value.proofs.FailsLaws.{lone_refuses}
use Rattle.message.specs.Layout.{Message, keep_alive, hello, unsupported, hello_complete}
use Rattle.writer.specs.Writer.{Fields, check_name, Checked, check_assignment, check_update, check_by_kind, check, WriteResult, write_result, place_of}
use Rattle.places.specs.WriterFails.{NameFailsAt, NameFails, EntryFailsAt, FieldsFailAt, WriterTells}
use Rattle.writer.proofs.WriterLaws.{NameIs, name_is}

-- ---- a lent name

pub name_refuses : (name : List ℕ) → Refuses (NameFailsAt name) (check_name name)
unfolding check_name
name_refuses name =
    by_test P _ _ _ (λ l. by_test P _ _ _ (λ _. Refuses.taken) (λ u. refuses_with F 9 0 (NameFailsAt.not_text (leb-true _ _ l) u)))
    (λ l. refuses_with F 10 0 (NameFailsAt.long_name (leb-false _ _ l)))
  where
    F : ℕ → ℕ → Type 0
    F = NameFailsAt name

    P : Parsed → Type 0
    P = Refuses F

pub name_fails : NameFails
name_fails name fault e = refused_with_lem (NameFailsAt name) fault (rw e at (name_refuses name))

-- ---- name and value, whatever is made of them where both are right

module _ (name : List ℕ) (type : ℕ) (value : List ℕ) where
  -- what is known of the answer, where it is a refusal of the name or of the value
  pub entry_refuses : {X : Type 0} (P : X → Type 0) (refuse : Fault → X) (next : X)
      → ((fault : Fault) → EntryFailsAt name type value fault.number fault.place → P (refuse fault)) → P next
      → P (and_then refuse (check_name name) (λ _. and_then refuse (parse_lone type value) (λ _. next)))
  entry_refuses {X = X} P refuse next f g = go (check_name name) (name_is name) (name_refuses name) (parse_lone type value) (lone_refuses type value)
    where
      go : (p : Parsed) → NameIs name p → Refuses (NameFailsAt name) p → (q : Parsed) → Refuses (LoneFailsAt type value) q
          → P (and_then refuse p (λ _. and_then refuse q (λ _. next)))
      go (Err fault) n (Refuses.refused h) q r = f fault (EntryFailsAt.in_name h)
      go (Ok k) (NameIs.taken a fits text) h (Err fault) (Refuses.refused r) = f fault (EntryFailsAt.in_value (record { fits = fits; text = text }) r)
      go (Ok k) n h (Ok v) r = g

-- what is known of the answer, where it is a refusal of the value
pub lone_then : (type : ℕ) (value : List ℕ) {X : Type 0} (P : X → Type 0) (refuse : Fault → X) (next : X)
    → ((fault : Fault) → LoneFailsAt type value fault.number fault.place → P (refuse fault)) → P next
    → P (and_then refuse (parse_lone type value) (λ _. next))
lone_then type value {X = X} P refuse next f g = go (parse_lone type value) (lone_refuses type value)
  where
    go : (q : Parsed) → Refuses (LoneFailsAt type value) q → P (and_then refuse q (λ _. next))
    go (Err fault) (Refuses.refused h) = f fault h
    go (Ok v) h = g

-- ---- the message writer

module _ (f : Fields) (out : List ℕ) where
  Tells : Checked → Type 0
  Tells c = Told (FieldsFailAt f) (write_result c out).number (place_of c)

  sent : (m : Message) → Tells (Checked.allowed m)
  unfolding Tells
  sent m = by_test (λ (r : WriteResult). Told (FieldsFailAt f) r.number 0) _ _ _ (λ _. untold _ 0 (λ tells. omega arith)) (λ _. untold _ 12 (λ tells. omega arith))

  refusal : (fault : Fault) → (TellsPlace fault.number → FieldsFailAt f fault.number fault.place) → Tells (Checked.refused fault)
  unfolding Tells
  refusal fault h = told _ fault h

  tells : Tells (check f)
  unfolding check_by_kind check_assignment check_update
  tells =
      by_test Tells _ _ _ (λ _. sent keep_alive) (λ _.
      by_test Tells _ _ _ (λ _. sent (hello _)) (λ _.
      by_test Tells _ _ _ (λ _. sent (unsupported _)) (λ _.
      by_test Tells _ _ _ (λ _. sent hello_complete) (λ _.
      by_test Tells _ _ _ (λ k. entry_refuses f.name f.type f.value Tells Checked.refused _ (λ fault h. refusal fault (λ _. FieldsFailAt.in_assignment (eqb-true _ _ k) h)) (sent _)) (λ _.
      by_test Tells _ _ _ (λ k. lone_then f.type f.value Tells Checked.refused _ (λ fault h. refusal fault (λ _. FieldsFailAt.in_update (eqb-true _ _ k) h)) (sent _))
      (λ _. refusal (fault_at 4 0) (λ tells. absurd (omega arith))))))))

pub writer_tells : WriterTells
unfolding Tells
writer_tells f out = tells f out
