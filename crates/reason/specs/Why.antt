-- "Why wasn't my list taken?": the first check that fails names the reason.
use Rattle.std.specs.Prelude.{ℕ, List, [], ◌∷◌, get_or, eqb}
use Rattle.field.specs.Choice.{pick, demand}
use Rattle.sequence.specs.SequenceNumber.{distance}
use Rattle.message.specs.Layout.{Entry, keep_alive_kind, update_kind}
use Rattle.table.specs.Table.{entries_of}
use Rattle.protocol.specs.Step.{ServerMemory}
use Rattle.reason.specs.Checks.{Check, stored_in, received_in, checks}
use Rattle.reason.specs.declared.Reason.{Reason}
use Rattle.reason.specs.declared.Reason.TheVariants.{KeepAlive, Applied, Done}

-- the reason of the first check that fails, and `passed` where none does
unfoldable pub first_failing : List Check → (passed : Reason) → Reason
first_failing [] passed = passed
first_failing (k ∷ ks) passed = demand k.passes k.otherwise (first_failing ks passed)

-- what a message of a kind comes to where every check passes
unfoldable pub when_passed : List Entry → (kind : ℕ) → List ℕ → Reason
when_passed es kind m =
    pick (eqb kind keep_alive_kind) KeepAlive
    (pick (eqb kind update_kind) (Applied (distance (stored_in es m) (received_in m)))
    Done)

unfoldable pub why : ℕ → ServerMemory → (c : ℕ) → List ℕ → Reason
why limit mem c m = first_failing (checks limit mem c m) (when_passed (entries_of mem.table) (get_or m 0 0) m)
