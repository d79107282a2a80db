-- What the copy must take is taken.
use mathlib.Core.Path.{sym, ap, ◌∙◌}
use Prim.Native.Nat.{◌<◌}
use native.Mathlib.Omega.{arith}
use lib.ListN.{length, get_or, set}
use borrow.Author.Tests.{le-leb, lt-ltb}
use Rattle.field.specs.Choice.{pick}
use Rattle.value.specs.Value.{IsValue}
use Rattle.message.specs.Layout.{Entry, keep_alive, unsupported, hello_complete, assignment, update, layout}
use Rattle.table.specs.Table.{default_entry, entries_of, with_update}
use Rattle.table.proofs.TabulateLaws.{length_entries}
use Rattle.table.proofs.StoreLaws.{with_number_and_value}
use Rattle.soundness.specs.Sound.{large_enough}
use Rattle.soundness.proofs.StoredLaws.{stored_new, stored_value}
use Rattle.protocol.specs.Copy.{execute_copy, copy_fresh_start}
use Rattle.protocol.specs.CopyDone.{CopyIgnored, CopyAssignmentDone, CopyUpdateDone, CopyFreshStartDone}
use Rattle.protocol.proofs.ChangeLaws.{held}
use Rattle.protocol.proofs.CopyLaws.{copy_step, copy_comes_to, copy_judged}

pub copy_ignored : CopyIgnored
unfolding execute_copy copy_comes_to layout
copy_ignored limit m s rest =
    record {
      keep_alive_lem = copy_step limit m _ s ∙ ap (execute_copy m) (copy_judged limit (entries_of m) keep_alive tt rest);
      hello_complete_lem = copy_step limit m _ s ∙ ap (execute_copy m) (copy_judged limit (entries_of m) hello_complete tt rest);
      unsupported = λ revision. copy_step limit m _ s ∙ ap (execute_copy m) (copy_judged limit (entries_of m) (unsupported revision) tt rest);
    }

pub copy_assignment_done : CopyAssignmentDone
unfolding execute_copy copy_comes_to layout pick
copy_assignment_done limit m s e rest w new room =
    let few : length (entries_of m) < limit = omega (arith, length_entries m) in
    record {
      answered = copy_step limit m _ s ∙ ap (execute_copy m) (copy_judged limit (entries_of m) (assignment m.count e) (sym (length_entries m), w) rest) ∙ rw (new, lt-ltb _ _ few);
      entries = stored_new limit m s e w new few;
    }

pub copy_update_done : CopyUpdateDone
unfolding execute_copy copy_comes_to layout with_number_and_value
copy_update_done limit m s id number value rest l w =
    let b : id < length (entries_of m) = omega (arith, length_entries m) in
    let v : IsValue (get_or (entries_of m) id default_entry).type value = rw (held m id l) at w in
    record {
      answered = copy_step limit m _ s ∙ ap (execute_copy m) (copy_judged limit (entries_of m) (update id number value) (b, v) rest);
      entries = stored_value limit m s id number value b v ∙ ap (λ (e : Entry). set (entries_of m) id (with_update e number value)) (sym (held m id l));
    }

pub copy_fresh_start_done : CopyFreshStartDone
unfolding copy_fresh_start large_enough pick
copy_fresh_start_done limit m h = rw (le-leb _ _ h.heads_hold, le-leb _ _ h.bytes_hold)
