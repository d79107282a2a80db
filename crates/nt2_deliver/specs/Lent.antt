-- What a delivery on memory as C lends it promises, over the numbers of the heads.
use Rattle.std.specs.Prelude.{ℕ, List}
use Rattle.table.specs.Table.{max_entries}
use Rattle.delivery.specs.Delivery.{DeliveryResult, deliver}
use Rattle.deliver.specs.Lent.{delivered}
use Rattle.deliver.specs.declared.Delivered.{Delivered}
use Rattle.nt2.specs.Lent.{HeadsServer, server_of, past_table, WithPast}

-- an answer, with memory and output as the call leaves them
abbrev pub heads_delivered : Delivered → HeadsServer → (out : List ℕ) → WithPast DeliveryResult
heads_delivered r m out = record { result = delivered r (server_of m) out; past = past_table m.table }

-- a delivery on the numbers of the heads; "memory beyond the table" never changes
abbrev pub heads_delivery : HeadsServer → (c : ℕ) (input out : List ℕ) → WithPast DeliveryResult
heads_delivery m c input out = record { result = deliver max_entries (server_of m) c input out; past = past_table m.table }
