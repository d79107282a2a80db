-- Demand 3 of the exported calls with deliveries among them: on the numbers of the heads a run is one of `delivery`.
use mathlib.Core.List.{List, [], ◌∷◌, ◌++◌}
use mathlib.Core.Path.{◌≡◌, refl, sym, ap, subst}
use Prim.Native.Nat.{ℕ}
use Rattle.field.specs.Place.{WithPlace}
use Rattle.table.specs.Table.{max_entries}
use Rattle.protocol.specs.Step.{ServerMemory, LentCall, CallResult, call_step}
use Rattle.delivery.specs.Delivery.{DeliveryResult, deliver, calls_of}
use Rattle.delivery.specs.Sent.{Sending, sent_by_call, sent_by_delivery}
use Rattle.delivery.specs.Demand.{Item, single, memory_after_items, sent_by_items, calls_of_items}
use Rattle.delivery.specs.Demand as D
use Rattle.delivery.proofs.Theorem.{deliveries_demand_3}
use Rattle.nt2.specs.Lent.{HeadsServer, table_of, server_of, WithPast}
use Rattle.nt2.proofs.Theorem.{begins_on, to_same}
use Rattle.nt2_deliver.specs.Demand.{Run, no_more, called, delivery, read, ExportedDeliveriesDemand3}

-- the same run on the numbers of the heads
record OnNumbers (m : ServerMemory) (calls : List LentCall) (sent : List Sending) (end : ServerMemory) : Type 0 where
  items : List Item
  calls_are : calls_of_items max_entries m items ≡ calls
  sent_are : sent_by_items max_entries m items ≡ sent
  ends_at : memory_after_items max_entries m items ≡ end

module _ {calls : List LentCall} {sent : List Sending} {end : ServerMemory} (m : ServerMemory) where
  call_first : (k : LentCall) (x : CallResult) → x ≡ call_step max_entries m k → OnNumbers x.memory calls sent end → OnNumbers m (k ∷ calls) (sent_by_call x ++ sent) end
  unfolding calls_of_items sent_by_items memory_after_items
  call_first k x e =
      subst (λ (y : CallResult). OnNumbers y.memory calls sent end → OnNumbers m (k ∷ calls) (sent_by_call y ++ sent) end) (sym e) (λ o.
      record { items = single k ∷ o.items; calls_are = ap (λ (ks : List LentCall). k ∷ ks) o.calls_are; sent_are = ap (λ (xs : List Sending). sent_by_call (call_step max_entries m k) ++ xs) o.sent_are; ends_at = o.ends_at })

  delivery_first : (c : ℕ) (input out : List ℕ) (x : DeliveryResult) → x ≡ deliver max_entries m c input out → OnNumbers x.memory calls sent end
      → OnNumbers m (calls_of max_entries m c input out ++ calls) (sent_by_delivery x ++ sent) end
  unfolding calls_of_items sent_by_items memory_after_items
  delivery_first c input out x e =
      subst (λ (y : DeliveryResult). OnNumbers y.memory calls sent end → OnNumbers m (calls_of max_entries m c input out ++ calls) (sent_by_delivery y ++ sent) end) (sym e) (λ o.
      record {
        items = D.delivery c input out ∷ o.items;
        calls_are = ap (λ (ks : List LentCall). calls_of max_entries m c input out ++ ks) o.calls_are;
        sent_are = ap (λ (xs : List Sending). sent_by_delivery (deliver max_entries m c input out) ++ xs) o.sent_are;
        ends_at = o.ends_at;
      })

on_numbers : {m end : HeadsServer} {calls : List LentCall} {sent : List Sending} → Run m calls sent end → OnNumbers (server_of m) calls sent (server_of end)
unfolding calls_of_items sent_by_items memory_after_items
on_numbers no_more = record { items = []; calls_are = refl; sent_are = refl; ends_at = refl }
on_numbers (called {m = m} k r out e rest) = call_first (server_of m) k _ (ap (λ (x : WithPast (WithPlace CallResult)). x.result.result) e) (on_numbers rest)
on_numbers (delivery {m = m} c input out r output e rest) = delivery_first (server_of m) c input out _ (ap (λ (x : WithPast DeliveryResult). x.result) e) (on_numbers rest)
on_numbers (read id r e rest) = rw e.1 at (on_numbers rest)

pub exported_deliveries_demand_3 : ExportedDeliveriesDemand3
exported_deliveries_demand_3 start begins before c b rest out after sent server run accepted stays lent copy s copy_started copy-ok =
    let o = on_numbers run in
    let held =
    deliveries_demand_3 max_entries (server_of start) (begins_on start begins) o.items before c b rest out after o.calls_are accepted stays
    (table_of lent) (rw copy_started.0 at copy-ok) in
    let now = rw (o.sent_are, o.ends_at) at held in
    to_same copy _ now.end (rw copy_started.1 now.reads) server now.same
