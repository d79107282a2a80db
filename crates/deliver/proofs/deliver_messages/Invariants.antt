use mathlib.Core.Path.{◌≡◌}
use lib.ListN.{length}
use Rattle.table.specs.Table.{max_entries}
use Rattle.protocol.specs.Memory.{SameMemory, server_of}
use Rattle.delivery.proofs.DeliveryLaws.{Reached}
use Rattle.deliver.proofs.deliver_messages.Given as goal

abbrev pub invariant-loop-messages : goal.invariant-loop-messages
invariant-loop-messages l =
    record {
      same : SameMemory l.initial.memory l.memory;
      whole : length l.out ≡ length l.initial.out;
      reached : Reached max_entries l.c l.input (server_of l.initial.memory) l.initial.out (server_of l.memory) l.out l.messages l.taken l.written;
    }
