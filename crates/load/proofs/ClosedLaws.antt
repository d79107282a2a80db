-- All connections are closed where each is, and only there.
use Rattle.std.proofs.Common.{◌≡◌, ℕ, ◌<◌, ◌≤◌, Bool, true, false, List, length, get_or, take, replicate, refl, sym, ap, ◌∙◌, arith, length-take}
use Rattle.std.proofs.lemmas.List.{ext_get_or, get_or-take, get_or-replicate, length-replicate}
use mathlib.Core.Bool.{false≢true}
use lib.Dec.{eqb}
use lib.Pointwise.{pointwise}
use Rattle.field.specs.Octets.{bytes_equal}
use Rattle.std.proofs.lemmas.Bool.{false_from_ne_true}
use Rattle.field.proofs.EqualLaws.{pointwise_bytes, bytes_equal_true, equal_bytes}
use borrow.Author.Tests.{eqb-true, eq-eqb}
use Rattle.soundness.proofs.BelowLaws.{all_at, at_all}
use Rattle.soundness.specs.Sound.{connections, closed}
use Rattle.saved.specs.Calls.{all_closed}

pub closed_all : (marks : List ℕ) → ((k : ℕ) → k < connections → get_or marks k 0 ≡ closed) → all_closed marks ≡ true
unfolding all_closed
closed_all marks h = at_all connections (λ c. eqb (get_or marks c 0) closed) (λ k l. eq-eqb (get_or marks k 0) closed (h k l))

pub closed_at : (marks : List ℕ) (k : ℕ) → k < connections → all_closed marks ≡ true → get_or marks k 0 ≡ closed
unfolding all_closed
closed_at marks k l h = eqb-true (get_or marks k 0) closed (all_at connections (λ c. eqb (get_or marks c 0) closed) h k l)

-- they are closed where their marks are so many zeros
pub closed_same : (marks : List ℕ) → connections ≤ length marks → pointwise eqb (take connections marks) (replicate connections closed) ≡ all_closed marks
closed_same marks h = pointwise_bytes (take connections marks) zeros ∙ go (bytes_equal (take connections marks) zeros) refl
  where
    zeros : List ℕ
    zeros = replicate connections closed

    size : length (take connections marks) ≡ connections
    size = omega (arith, h, length-take connections marks)

    mark : (k : ℕ) → k < connections → get_or (take connections marks) k 0 ≡ get_or marks k 0
    mark k l = get_or-take connections marks k 0 l

    zero : (k : ℕ) → k < connections → get_or zeros k 0 ≡ closed
    zero k l = get_or-replicate connections k closed 0 l

    go : (t : Bool) → bytes_equal (take connections marks) zeros ≡ t → t ≡ all_closed marks
    go true q =
        sym (closed_all marks (λ k l. sym (mark k l) ∙ ap (λ (xs : List ℕ). get_or xs k 0) (bytes_equal_true (take connections marks) zeros q) ∙ zero k l))
    go false q =
        sym (false_from_ne_true (all_closed marks) (λ all.
        let same : take connections marks ≡ zeros =
        ext_get_or 0 (take connections marks) zeros (size ∙ sym (length-replicate connections closed)) (λ k l.
        let in_marks : k < connections = omega (arith, size) in
        mark k in_marks ∙ closed_at marks k in_marks all ∙ sym (zero k in_marks)) in
        false≢true (sym q ∙ equal_bytes (take connections marks) zeros same)))
