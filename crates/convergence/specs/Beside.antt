-- What stands beside demand 3: which hello counts, and that a reading ends in one way only.
use Rattle.std.specs.Prelude.{ℕ, ◌<◌, List, ◌∷◌, ◌++◌, ◌≡◌, ◌≢◌}
use Rattle.field.specs.Answer.{done}
use Rattle.table.specs.Table.{TableMemory}
use Rattle.soundness.specs.Sound.{connections}
use Rattle.protocol.specs.Step.{ServerMemory, LentCall, call_step}
use Rattle.protocol.specs.Run.{memory_after_run, hello_call, StaysWithoutOwnUpdate}
use Rattle.convergence.specs.Begin.{Begins}
use Rattle.convergence.specs.Demand.{ReadsInto}

-- "the last such hello counts": under demand 3's hypotheses, a later hello of the client, between some calls and others, is not accepted
abbrev pub LastHelloCounts : Type 0
LastHelloCounts =
    (limit : ℕ) (start : ServerMemory) → Begins limit start → (before : List LentCall) (c : ℕ) → c < connections → (rest out : List ℕ)
    → (call_step limit (memory_after_run limit start before) (hello_call c rest out)).number ≡ done
    → (some : List LentCall) (rest' out' : List ℕ) (others : List LentCall)
    → StaysWithoutOwnUpdate limit (call_step limit (memory_after_run limit start before) (hello_call c rest out)).memory c
    (some ++ (hello_call c rest' out' ∷ others))
    → (call_step limit (memory_after_run limit (call_step limit (memory_after_run limit start before) (hello_call c rest out)).memory some)
    (hello_call c rest' out')).number ≢ done

-- "until none are left": the reading of all bytes into a copy can end in one way only
abbrev pub OneEnd : Type 0
OneEnd = (limit : ℕ) (m x y : TableMemory) (bytes : List ℕ) → ReadsInto limit m bytes x → ReadsInto limit m bytes y → x ≡ y
