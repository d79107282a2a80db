use Rattle.std.proofs.Common.{◌≡◌, ◌+◌, length}
use Rattle.protocol.specs.Memory.{server_of}
use Rattle.digits.proofs.PutLaws.{Leads}
use Rattle.listing.specs.Listing.{messages_text}
use Rattle.listing.proofs.put_messages.Given as goal

abbrev pub invariant-loop-left : goal.invariant-loop-left
invariant-loop-left l = record {
  place : l.offset + length l.left ≡ length l.stream;
  leads : Leads l.initial.text l.text
      (messages_text (length l.stream) 0 (server_of l.initial.memory) l.initial.out l.stream)
      (messages_text (length l.left) l.offset (server_of l.memory) l.out l.left);
}

abbrev pub decreases-loop-left : goal.decreases-loop-left
decreases-loop-left l = length l.left
