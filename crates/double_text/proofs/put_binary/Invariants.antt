use Rattle.std.proofs.Common.{◌≤◌, ◌<◌, ◌^◌}
use Rattle.digits.proofs.PutLaws.{Leads}
use Rattle.double_text.specs.Double.{most_places, binary_digits}
use Rattle.double_text.proofs.put_binary.Given as goal

abbrev pub invariant-loop-left : goal.invariant-loop-left
invariant-loop-left l = record {
  few : l.places ≤ most_places;
  below : l.left < 2 ^ l.places;
  leads : Leads l.initial.text l.text (binary_digits l.k l.r) (binary_digits l.places l.left);
}

abbrev pub decreases-loop-left : goal.decreases-loop-left
decreases-loop-left l = l.places
