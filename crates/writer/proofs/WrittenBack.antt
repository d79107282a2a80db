-- What was written reads back: the message that is allowed says what was given and obeys the rules.
use mathlib.Core.Path.{◌≡◌, refl, sym, ap, ◌∙◌}
use mathlib.Core.List.{List}
use Prim.Native.Nat.{ℕ, ◌+◌, ◌≤◌}
use native.Mathlib.Omega.{arith}
use lib.ListN.{length, drop, get_or}
use borrow.Author.Tests.{eqb-true, leb-true, le-leb}
use Rattle.field.specs.Answer.{done, unknown_kind, RefusalNumber}
use Rattle.field.specs.declared.Fault.{Fault}
use Rattle.field.specs.Choice.{pick}
use Rattle.field.specs.Octets.{overwrite_at}
use Rattle.field.proofs.ChoiceLaws.{by_test}
use Rattle.field.proofs.OverwriteLaws.{overwrite_eq}
use Rattle.message.specs.Layout.{Message, layout, assignment_bytes, update_bytes, revision_bytes, WellFormedMessage}
use Rattle.message.specs.Laws.{ReadsAs}
use Rattle.message.proofs.ReadBack.{read_back, same_bytes}
use Rattle.message.proofs.RefusalLaws.{refusal_number}
use Rattle.writer.specs.Writer.{Fields, given_entry, Checked, check_by_kind, check, WriteResult, write_result}
use Rattle.writer.specs.WrittenBack.{Says, says_keep_alive, says_hello, says_unsupported, says_hello_complete, says_assignment, says_update, WrittenSays, WrittenWellFormed, WrittenAllowed, WrittenSent, WrittenBack, SentMessage, SentBack, SameWritten}
use Rattle.writer.proofs.WriterLaws.{CheckIs, assignment_check, assignment_allowed, update_check, update_allowed, check_keep_alive, check_hello, check_unsupported, check_hello_complete, kind_assignment, kind_update}

-- what is known of a check: a refusal is one of 1 to 14, and a message says what was given and obeys the rules
data AllowedIs (f : Fields) : Checked → Type 0 where
  refused : {fault : Fault} → RefusalNumber fault.number → AllowedIs f (Checked.refused fault)
  allowed : {x : Message} → Says f x → WellFormedMessage f.type x → AllowedIs f (Checked.allowed x)

of_check : (f : Fields) (x : Message) (c : Checked) → Says f x → CheckIs f.type x c → AllowedIs f c
of_check f x (Checked.refused fault) s (CheckIs.refused h) = AllowedIs.refused h
of_check f x (Checked.allowed y) s (CheckIs.allowed w) = AllowedIs.allowed s w

allowed_is : (f : Fields) → AllowedIs f (check f)
unfolding check_by_kind
allowed_is f =
    by_test P _ _ _ (λ k. AllowedIs.allowed (says_keep_alive (eqb-true _ _ k)) tt) (λ _.
    by_test P _ _ _ (λ k. AllowedIs.allowed (says_hello (eqb-true _ _ k)) tt) (λ _.
    by_test P _ _ _ (λ k. AllowedIs.allowed (says_unsupported (eqb-true _ _ k)) tt) (λ _.
    by_test P _ _ _ (λ k. AllowedIs.allowed (says_hello_complete (eqb-true _ _ k)) tt) (λ _.
    by_test P _ _ _ (λ k. of_check f _ _ (says_assignment (eqb-true _ _ k)) (assignment_check f.type f.id (given_entry f))) (λ _.
    by_test P _ _ _ (λ k. of_check f _ _ (says_update (eqb-true _ _ k)) (update_check f.id f.number f.type f.value)) (λ _.
    AllowedIs.refused (refusal_number unknown_kind (omega arith) (omega arith))))))))
  where
    P : Checked → Type 0
    P = AllowedIs f

facts : (f : Fields) (x : Message) → check f ≡ Checked.allowed x → Says f x × WellFormedMessage f.type x
facts f x e = go (rw e at (allowed_is f))
  where
    go : AllowedIs f (Checked.allowed x) → Says f x × WellFormedMessage f.type x
    go (AllowedIs.allowed s w) = (s, w)

pub written_says : WrittenSays
written_says f x e = (facts f x e).0

pub written_well_formed : WrittenWellFormed
written_well_formed f x e = (facts f x e).1

pub written_allowed : WrittenAllowed
written_allowed f x (says_keep_alive k) w = check_keep_alive f k
written_allowed f x (says_hello k) w = check_hello f k
written_allowed f x (says_unsupported k) w = check_unsupported f k
written_allowed f x (says_hello_complete k) w = check_hello_complete f k
written_allowed f x (says_assignment k) w = kind_assignment f k ∙ assignment_allowed f.id (given_entry f) w
written_allowed f x (says_update k) w = kind_update f k ∙ update_allowed f.id f.number f.type f.value w

pub written_sent : WrittenSent
unfolding pick
written_sent f x s w out h = rw (written_allowed f x s w, le-leb (length (layout x)) (length out) h)

pub written_back : WrittenBack
written_back f x e rest = read_back f.type x rest (written_well_formed f x e)

record IfDone (f : Fields) (r : WriteResult) : Type 0 where
  at_done : r.number ≡ done → SentMessage f r

pub sent_back : SentBack
sent_back f out = (go (check f) refl (allowed_is f)).at_done
  where
    go : (c : Checked) → check f ≡ c → AllowedIs f c → IfDone f (write_result c out)
    go (Checked.refused k) e (AllowedIs.refused h) = record { at_done = λ q. absurd (omega (arith, h.above)) }
    go (Checked.allowed x) e a =
        by_test (IfDone f) _ _ _
        (λ h.
        let l : 0 + length (layout x) ≤ length out = omega (arith, leb-true (length (layout x)) (length out) h) in
        let back : ReadsAs f.type x (overwrite_at out 0 (layout x)) =
        rw (overwrite_eq out 0 (layout x) l) (written_back f x e (drop (0 + length (layout x)) out)) in
        record { at_done = λ _. record { message = x; says_given = written_says f x e; is_sent = refl; reads_back = back } })
        (λ _. record { at_done = λ q. absurd (omega arith) })

-- a message begins with its kind
says_kind : (f : Fields) (x : Message) → Says f x → get_or (layout x) 0 0 ≡ f.kind
unfolding layout assignment_bytes update_bytes revision_bytes
says_kind f x (says_keep_alive k) = sym k
says_kind f x (says_hello k) = sym k
says_kind f x (says_unsupported k) = sym k
says_kind f x (says_hello_complete k) = sym k
says_kind f x (says_assignment k) = sym k
says_kind f x (says_update k) = sym k

pub same_written : SameWritten
same_written f g x y a b e types =
    let k : f.kind ≡ g.kind = sym (says_kind f x (written_says f x a)) ∙ ap (λ (l : List ℕ). get_or l 0 0) e ∙ says_kind g y (written_says g y b) in
    same_bytes f.type x y e (written_well_formed f x a) (go k y (written_says g y b) (written_well_formed g y b))
  where
    -- only an update's form depends on the type that is given
    go : f.kind ≡ g.kind → (y : Message) → Says g y → WellFormedMessage g.type y → WellFormedMessage f.type y
    go k y (says_keep_alive _) w = w
    go k y (says_hello _) w = w
    go k y (says_unsupported _) w = w
    go k y (says_hello_complete _) w = w
    go k y (says_assignment _) w = w
    go k y (says_update q) w = rw (types (k ∙ q) q) w
