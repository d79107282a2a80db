-- What reading one message answers, in numbers and values.
use Rattle.std.specs.Prelude.{Ok, Err}
use Rattle.message.specs.Read.{AssignmentRead, UpdateRead, Reading}
use mathlib.Core.Path.{◌≡◌, refl, sym}
use mathlib.Core.Bool.{Bool, true, false}
use mathlib.Core.List.{List}
use Prim.Native.Nat.{ℕ, ◌+◌, ◌≤◌}
use native.Mathlib.Omega.{arith}
use lib.ListN.{length, drop, get_or}
use borrow.Author.Tests.{leb-true, eqb-true}
use Rattle.field.specs.Choice.{pick}
use Rattle.field.specs.Octets.{decode16}
use Rattle.field.proofs.ChoiceLaws.{by_test}
use Rattle.message.specs.Layout.{keep_alive, hello, unsupported, hello_complete, assignment, update, keep_alive_kind, hello_kind, unsupported_kind, hello_complete_kind, assignment_kind, update_kind, layout}
use Rattle.message.specs.Reader.{id_allowed, parse_revision, of_assignment, of_update, parse_by_kind, parse_message, update_value_in, number_of, taken_of, contents, ReadingIs, entry_in}
use Rattle.message.specs.declared.AllowedId.TheVariants.{Any}
use Rattle.message.specs.declared.Decoded.TheVariants as D
use Rattle.message.proofs.ReadBack.{length_assignment, length_update, length_revision}
use Rattle.message.proofs.RefusalLaws.{refusal_number, AssignmentRefused, assignment_rightly, UpdateRefused, update_rightly}
use Rattle.message.proofs.ReadBytesLaws.{assignment_stands, update_stands, revision_stands, kind_stands}
use Rattle.message.proofs.TakenLaws.{part_length, AssignmentIs, assignment_is, UpdateIs, update_is}

module _ (t : ℕ) (m : List ℕ) where
  Is : Reading → Type 0
  Is d = ReadingIs t m (number_of d) (taken_of d) (contents m d)

  of_assignment_lem : get_or m 0 0 ≡ assignment_kind → (a : AssignmentRead) → AssignmentIs (id_allowed Any) m a → AssignmentRefused a → Is (of_assignment a)
  unfolding Is layout
  of_assignment_lem k (Err fault) f (AssignmentRefused.refused h) = ReadingIs.refused h
  of_assignment_lem k (Ok read) (AssignmentIs.taken a there w f) g =
      let e = entry_in read.name_length read.type_code read.number read.value_length m in
      ReadingIs.read {x = assignment read.id e} {taken = 8 + read.name_length + read.value_length} (w read.number) (omega (arith, length_assignment read.id e, part_length 3 read.name_length m (omega arith), part_length (8 + read.name_length) read.value_length m there)) there
      (λ b. assignment_stands m read.name_length read.type_code read.id read.number read.value_length b k f there)

  of_update_lem : get_or m 0 0 ≡ update_kind → (u : UpdateRead) → UpdateIs (id_allowed Any) (λ _. t) m u → UpdateRefused u → Is (of_update u)
  unfolding Is layout
  of_update_lem k (Err fault) f (UpdateRefused.refused h) = ReadingIs.refused h
  of_update_lem k (Ok read) (UpdateIs.taken a there w i q) g =
      ReadingIs.read {x = update read.id read.number (update_value_in read.value_length m)} {taken = 5 + read.value_length} w (omega (arith, length_update read.id read.number (update_value_in read.value_length m), part_length 5 read.value_length m there)) there
      (λ b. update_stands m read.id read.number read.value_length b k i q there)

  of_revision : (isHello : Bool) → get_or m 0 0 ≡ pick isHello hello_kind unsupported_kind → Is (parse_revision isHello m)
  unfolding Is layout parse_revision pick
  of_revision isHello k = by_test Is _ _ _ (λ h. taken isHello k (leb-true 3 (length m) h)) (λ _. ReadingIs.refused (refusal_number 1 (omega arith) (omega arith)))
    where
      taken : (isHello : Bool) → get_or m 0 0 ≡ pick isHello hello_kind unsupported_kind → 3 ≤ length m → Is (pick isHello (Ok (D.Hello (decode16 (drop 1 m)))) (Ok (D.Unsupported (decode16 (drop 1 m)))))
      taken true k h = ReadingIs.read {x = hello (decode16 (drop 1 m))} tt (sym (length_revision hello_kind _)) h (λ b. revision_stands m hello_kind b k h)
      taken false k h = ReadingIs.read {x = unsupported (decode16 (drop 1 m))} tt (sym (length_revision unsupported_kind _)) h (λ b. revision_stands m unsupported_kind b k h)

  reading_is : Is (parse_message t m)
  unfolding Is layout parse_message parse_by_kind pick
  reading_is =
      by_test Is _ _ _ (λ h.
      by_test Is _ _ _ (λ k. ReadingIs.read {x = keep_alive} tt refl (leb-true _ _ h) (λ _. kind_stands m keep_alive_kind (eqb-true _ _ k) (leb-true _ _ h))) (λ _.
      by_test Is _ _ _ (λ k. of_revision true (eqb-true _ _ k)) (λ _.
      by_test Is _ _ _ (λ k. of_revision false (eqb-true _ _ k)) (λ _.
      by_test Is _ _ _ (λ k. ReadingIs.read {x = hello_complete} tt refl (leb-true _ _ h) (λ _. kind_stands m hello_complete_kind (eqb-true _ _ k) (leb-true _ _ h))) (λ _.
      by_test Is _ _ _ (λ k. of_assignment_lem (eqb-true _ _ k) _ (assignment_is (id_allowed Any) m) (assignment_rightly (id_allowed Any) m)) (λ _.
      by_test Is _ _ _ (λ k. of_update_lem (eqb-true _ _ k) _ (update_is (id_allowed Any) (λ _. t) m) (update_rightly (id_allowed Any) (λ _. t) m)) (λ _.
      ReadingIs.refused (refusal_number 4 (omega arith) (omega arith)))))))))
      (λ _. ReadingIs.refused (refusal_number 1 (omega arith) (omega arith)))

  -- and so is what a reader answers that answers it
  pub answer_is : (r : Reading) → r ≡ parse_message t m → ReadingIs t m (number_of r) (taken_of r) (contents m r)
  unfolding Is
  answer_is r e = rw e reading_is
