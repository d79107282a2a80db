-- Demand 3 of the exported calls: on the numbers of the heads a run is one of `convergence`, and so is the reading of the copy.
use Prim.Native.Nat.{ℕ, ◌≤◌, ◌<◌}
use native.Mathlib.Omega.{arith}
use mathlib.Core.List.{List, [], ◌∷◌, ◌++◌}
use mathlib.Core.Path.{◌≡◌, refl, sym, ap, subst, ◌∙◌}
use mathlib.Core.Logic.{◌⊎◌}
use lib.ListN.{length, drop}
use Rattle.field.specs.Answer.{done, ignored}
use Rattle.field.specs.Place.{WithPlace}
use Rattle.table.specs.Table.{TableMemory, max_entries}
use Rattle.protocol.specs.Step.{ServerMemory, LentCall, CallResult, with_table, call_step}
use Rattle.protocol.specs.Run.{memory_after_run, addressed_bytes, hello_call, StaysWithoutOwnUpdate}
use Rattle.soundness.specs.Sound.{connections}
use Rattle.saved.specs.Calls.{LoadResult, load_result, load}
use Rattle.protocol.specs.Copy.{CopyResult, copy_message, copy_fresh_start}
use Rattle.protocol.proofs.CopyLaws.{copy_progress}
use Rattle.convergence.specs.Begin.{Begins}
use Rattle.convergence.specs.Demand.{ReadsInto, none_left, one_read, SameEntries, CopyHoldsServerEntries}
use Rattle.convergence.proofs.ReadingLaws.{one_end}
use Rattle.convergence.proofs.RunLaws.{run_append}
use Rattle.convergence.proofs.Theorem.{demand_3}
use Rattle.client.specs.declared.Copied.{Copied}
use Rattle.client.specs.Lent.{copied}
use Rattle.nt2.specs.Lent.{HeadsTable, HeadsServer, table_of, server_of, WithPast, heads_copied, heads_copy_message}
use Rattle.nt2.specs.Demand.{Begun, Made, made, Run, no_more, called, read, addressed, Stays, Reading, begun, taken, ReadsToSameEntries, ExportedDemand3}

-- ---- what a run begins on

-- the same memory on the numbers of the heads
pub begins_on : (start : HeadsServer) → Begun start → Begins max_entries (server_of start)
begins_on start (Begun.fresh mem r _ started ok) = rw started.1 (Begins.fresh (server_of mem) (rw started.0 at ok))
begins_on start (Begun.loaded mem saved r after e ok) =
    let result : load_result r (table_of after) ≡ load max_entries (table_of mem.table) mem.marks saved = ap (λ (x : WithPast LoadResult). x.result) e in
    subst (λ (x : LoadResult). x.answer.number ≡ done → Begins max_entries (with_table (server_of mem) x.table)) (sym result) (Begins.loaded (server_of mem) saved) ok

-- ---- a run

-- the same calls on the numbers of the heads
data Steps : ServerMemory → List Made → ServerMemory → Type 0 where
  none : {m : ServerMemory} → Steps m [] m
  step : {m end : ServerMemory} {rest : List Made} (k : Made) → k.result ≡ call_step max_entries m k.call
      → Steps (call_step max_entries m k.call).memory rest end → Steps m (k ∷ rest) end

from_result : {x y : WithPast (WithPlace CallResult)} {ks : List Made} {end : ServerMemory} → x ≡ y → Steps x.result.result.memory ks end → Steps y.result.result.memory ks end
from_result e s = rw e at s

steps_of : {m end : HeadsServer} {ks : List Made} → Run m ks end → Steps (server_of m) ks (server_of end)
steps_of no_more = Steps.none
steps_of (called k r out e rest) = Steps.step _ (ap (λ (x : WithPast (WithPlace CallResult)). x.result.result) e) (from_result e (steps_of rest))
steps_of (read id r e rest) = rw e.1 at (steps_of rest)

calls_of : List Made → List LentCall
calls_of [] = []
calls_of (k ∷ ks) = k.call ∷ calls_of ks

memory_after_lem : {m end : ServerMemory} {ks : List Made} → Steps m ks end → memory_after_run max_entries m (calls_of ks) ≡ end
unfolding memory_after_run calls_of
memory_after_lem Steps.none = refl
memory_after_lem (Steps.step k e rest) = memory_after_lem rest

addressed_is : {m end : ServerMemory} {ks : List Made} (c : ℕ) → Steps m ks end → addressed_bytes max_entries m c (calls_of ks) ≡ addressed c ks
unfolding addressed_bytes addressed calls_of
addressed_is c Steps.none = refl
addressed_is c (Steps.step k e rest) = rw (addressed_is c rest, e)

stays_is : {m end : ServerMemory} {ks : List Made} (c : ℕ) → Steps m ks end → Stays c ks → StaysWithoutOwnUpdate max_entries m c (calls_of ks)
unfolding StaysWithoutOwnUpdate Stays calls_of
stays_is c Steps.none q = tt
stays_is c (Steps.step k e rest) q = (λ d. q.0 (ap (λ (x : CallResult). x.number) e ∙ d), stays_is c rest q.1)

-- ---- the reading of a copy

-- the call that comes next where bytes are left: its number is right, and the reading goes on behind it
record Next (left : List ℕ) (end : TableMemory) (r : CopyResult) : Type 0 where
  right : (r.number ≡ done) ⊎ (r.number ≡ ignored)
  some : (0 < r.taken) × (r.taken ≤ length left)
  rest : ReadsInto max_entries r.memory (drop r.taken left) end

next : {m end : TableMemory} {left : List ℕ} → ReadsInto max_entries m left end → 0 < length left → Next left end (copy_message max_entries m left)
next none_left h = absurd (omega arith)
next {m} {left = left} (one_read h a more) _ = record { right = a; some = copy_progress max_entries m left a; rest = more }

module _ (copy : HeadsTable) (bytes : List ℕ) (end : TableMemory) (all : ReadsInto max_entries (table_of copy) bytes end) where
  call_next : (m after : HeadsTable) (left : List ℕ) (r : Copied) → ReadsInto max_entries (table_of m) left end → 0 < length left
      → heads_copied r after ≡ heads_copy_message m left → Next left end (copied r (table_of after)).result
  call_next m after left r s h e = subst (λ (x : WithPast (WithPlace CopyResult)). Next left end x.result.result) (sym e) (next s h)

  still : {m : HeadsTable} {left : List ℕ} → Reading copy bytes m left → ReadsInto max_entries (table_of m) left end
  still begun = all
  still (taken {m = m} {after = after} {left = left} r before h e) = (call_next m after left r (still before) h e).rest

  each_right : {m : HeadsTable} {left : List ℕ} → Reading copy bytes m left → 0 < length left → (r : Copied) (after : HeadsTable)
      → heads_copied r after ≡ heads_copy_message m left → ((r.number ≡ done) ⊎ (r.number ≡ ignored)) × (0 < r.taken) × (r.taken ≤ length left)
  each_right {m} {left} reading h r after e = let n = call_next m after left r (still reading) h e in (n.right, n.some.0, n.some.1)

  pub to_same : (server : HeadsServer) → SameEntries end (table_of server.table) → ReadsToSameEntries copy bytes server
  to_same server same = record { each = each_right; end = λ reading. rw (one_end max_entries _ _ _ _ none_left (still reading)) same }

-- ---- the theorem

-- on the numbers of the heads
on_numbers : (start : ServerMemory) → Begins max_entries start → (before : List Made) (m : ServerMemory) → Steps start before m
    → (c : ℕ) → c < connections → (rest out : List ℕ) (hello : CallResult) → hello.number ≡ done
    → (after : List Made) (end : ServerMemory) → Steps m (made (hello_call c rest out) hello ∷ after) end → Stays c after
    → (copy : TableMemory) → (copy_fresh_start max_entries copy).number ≡ done
    → CopyHoldsServerEntries max_entries (copy_fresh_start max_entries copy).memory (addressed c (made (hello_call c rest out) hello ∷ after)) end.table
unfolding calls_of
on_numbers start begins before m run c b rest out hello accepted after end (Steps.step k e more) stays copy copy_started =
    let all : Steps m (made (hello_call c rest out) hello ∷ after) end = Steps.step k e more in
    let now : memory_after_run max_entries start (calls_of before) ≡ m = memory_after_lem run in
    let bytes : addressed_bytes max_entries (memory_after_run max_entries start (calls_of before)) c (hello_call c rest out ∷ calls_of after) ≡ addressed c (made (hello_call c rest out) hello ∷ after) =
    rw now (addressed_is c all) in
    let memory : memory_after_run max_entries start (calls_of before ++ (hello_call c rest out ∷ calls_of after)) ≡ end =
    run_append max_entries start (calls_of before) (hello_call c rest out ∷ calls_of after) ∙ rw now (memory_after_lem all) in
    rw (bytes, memory) at
    (demand_3 max_entries start begins (calls_of before) c b rest out (rw (now, ← e) accepted) (calls_of after) (rw now (stays_is c more stays)) copy copy_started)

pub exported_demand_3 : ExportedDemand3
exported_demand_3 start begins before m run c b rest out hello accepted after server run' stays lent copy s copy_started copy-ok =
    let held =
    on_numbers (server_of start) (begins_on start begins) before (server_of m) (steps_of run) c b rest out hello accepted after (server_of server) (steps_of run') stays
    (table_of lent) (rw copy_started.0 at copy-ok) in
    to_same copy _ held.end (rw copy_started.1 held.reads) server held.same
