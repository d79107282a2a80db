-- "no earlier check in 01's order fails". Proved in proofs/FirstLaws.antt.
use Rattle.std.specs.Prelude.{ℕ, true, false, List, [], ◌∷◌, ◌++◌, ◌≡◌, get_or}
use Rattle.table.specs.Table.{entries_of}
use Rattle.protocol.specs.Step.{ServerMemory}
use Rattle.reason.specs.Checks.{Check, checks}
use Rattle.reason.specs.Why.{when_passed, why}
use Rattle.reason.specs.declared.Reason.{Reason}

-- every one of these checks passes
pub data AllPass : List Check → Type 0 where
  none : AllPass []
  passes : {k : Check} {ks : List Check} → k.passes ≡ true → AllPass ks → AllPass (k ∷ ks)

-- the check that decides: it fails, and no earlier one does; or all pass
pub data DecidedBy (ks : List Check) (passed : Reason) : Reason → Type 0 where
  fails : (before after : List Check) (k : Check) → ks ≡ before ++ (k ∷ after) → AllPass before → k.passes ≡ false → DecidedBy ks passed k.otherwise
  all_pass : AllPass ks → DecidedBy ks passed passed

-- the reason is that of the first check that fails
abbrev pub FirstDecides : Type 0
FirstDecides =
    (limit : ℕ) (mem : ServerMemory) (c : ℕ) (m : List ℕ)
    → DecidedBy (checks limit mem c m) (when_passed (entries_of mem.table) (get_or m 0 0) m) (why limit mem c m)

-- and of no other check
abbrev pub OneDecides : Type 0
OneDecides =
    (limit : ℕ) (mem : ServerMemory) (c : ℕ) (m : List ℕ) (r : Reason)
    → DecidedBy (checks limit mem c m) (when_passed (entries_of mem.table) (get_or m 0 0) m) r → r ≡ why limit mem c m
