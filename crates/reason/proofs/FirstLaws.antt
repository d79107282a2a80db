-- The reason is that of the first check that fails, and of no other.
use mathlib.Core.Path.{◌≡◌, refl, sym, ap}
use mathlib.Core.Bool.{true, false}
use mathlib.Core.List.{List, [], ◌∷◌, ◌++◌}
use Rattle.field.specs.Choice.{pick}
use Rattle.field.proofs.ChoiceLaws.{by_test}
use Rattle.reason.specs.Checks.{Check, checks}
use Rattle.reason.specs.Why.{first_failing, why}
use Rattle.reason.specs.First.{AllPass, DecidedBy, FirstDecides, OneDecides}
use Rattle.reason.specs.declared.Reason.{Reason}

-- ---- the first check that fails

one_more : (k : Check) (ks : List Check) (passed r : Reason) → k.passes ≡ true → DecidedBy ks passed r → DecidedBy (k ∷ ks) passed r
one_more k ks passed r p (DecidedBy.fails before after f is all no-pass) = DecidedBy.fails (k ∷ before) after f (ap (λ (l : List Check). k ∷ l) is) (AllPass.passes p all) no-pass
one_more k ks passed r p (DecidedBy.all_pass all) = DecidedBy.all_pass (AllPass.passes p all)

pub first_failing_lem : (ks : List Check) (passed : Reason) → DecidedBy ks passed (first_failing ks passed)
unfolding first_failing
first_failing_lem [] passed = DecidedBy.all_pass AllPass.none
first_failing_lem (k ∷ ks) passed =
    by_test (DecidedBy (k ∷ ks) passed) k.passes _ _ (λ p. one_more k ks passed _ p (first_failing_lem ks passed)) (λ f. DecidedBy.fails [] ks k refl AllPass.none f)

pub first_decides : FirstDecides
unfolding why
first_decides limit mem c m = first_failing_lem (checks limit mem c m) _

-- ---- and no other

all_passed : (ks : List Check) (passed : Reason) → AllPass ks → first_failing ks passed ≡ passed
unfolding first_failing pick
all_passed [] passed all = refl
all_passed (k ∷ ks) passed (AllPass.passes p all) = rw p (all_passed ks passed all)

failed : (before after : List Check) (k : Check) (passed : Reason) → AllPass before → k.passes ≡ false → first_failing (before ++ (k ∷ after)) passed ≡ k.otherwise
unfolding first_failing pick
failed [] after k passed all f = rw f
failed (b ∷ before) after k passed (AllPass.passes p all) f = rw p (failed before after k passed all f)

pub decided : (ks : List Check) (passed r : Reason) → DecidedBy ks passed r → first_failing ks passed ≡ r
decided ks passed r (DecidedBy.fails before after k is all f) = rw is (failed before after k passed all f)
decided ks passed r (DecidedBy.all_pass all) = all_passed ks passed all

pub one_decides : OneDecides
unfolding why
one_decides limit mem c m r d = sym (decided _ _ r d)
