-- Fewer heads than a table has: every call answers 14, and nothing changes. "Too small means fewer than 64 heads .."
use mathlib.Core.Path.{◌≡◌}
use mathlib.Core.Bool.{false}
use mathlib.Core.List.{List}
use Prim.Native.Nat.{ℕ, ◌<◌}
use lib.ListN.{length}
use borrow.Author.Tests.{lt-leb}
use Rattle.field.specs.Choice.{pick}
use Rattle.table.specs.Table.{max_entries, table_memory}
use Rattle.answer.specs.Answers.{bare_answer}
use Rattle.heads.specs.Heads.{head_numbers}
use Rattle.soundness.specs.Sound.{large_enough, sound_table}
use Rattle.protocol.specs.Judge.{Call, open_connection, leave, client_message, local_create, local_write, read_entry}
use Rattle.protocol.specs.Step.{LentCall, sound_for, call_step, fresh_start, read_scalar}
use Rattle.protocol.specs.Copy.{execute_copy, copy_message, copy_fresh_start}
use Rattle.protocol.specs.Place.{call_place, step_with_place, copy_place, copy_with_place}
use Rattle.protocol.specs.Lent.{server_memory, answered}
use Rattle.client.specs.Lent.{copied}
use Rattle.nt2.proofs.Results.{too_few, copied_nothing, read_nothing}
use Rattle.flat.specs.Answers.{scalar_answer}

module _ (heads bytes : List ℕ) (count : ℕ) (few : length heads < head_numbers) where
  pub table_few : sound_table max_entries (table_memory heads bytes count) ≡ false
  unfolding sound_table large_enough
  table_few = rw (lt-leb head_numbers (length heads) few)

  pub read_few : (id : ℕ) → read_nothing ≡ scalar_answer (read_scalar max_entries (table_memory heads bytes count) id)
  unfolding read_scalar pick
  read_few id = rw table_few

  pub copy_few : (message : List ℕ) → copied (copied_nothing) (table_memory heads bytes count) ≡ copy_with_place max_entries (table_memory heads bytes count) message
  unfolding copy_message execute_copy copy_place pick
  copy_few message = rw table_few

  pub copy_fresh_few : (too_few ≡ bare_answer (copy_fresh_start max_entries (table_memory heads bytes count)).number) × (table_memory heads bytes count ≡ (copy_fresh_start max_entries (table_memory heads bytes count)).memory)
  unfolding copy_fresh_start large_enough pick
  copy_fresh_few = (rw (lt-leb head_numbers (length heads) few), rw (lt-leb head_numbers (length heads) few))

  module _ (marks : List ℕ) where
    pub fresh_few : (too_few ≡ bare_answer (fresh_start max_entries (server_memory heads bytes count marks)).number) × (server_memory heads bytes count marks ≡ (fresh_start max_entries (server_memory heads bytes count marks)).memory)
    unfolding fresh_start large_enough pick
    fresh_few = (rw (lt-leb head_numbers (length heads) few), rw (lt-leb head_numbers (length heads) few))

    sound_few : (call : Call) → sound_for max_entries (server_memory heads bytes count marks) call ≡ false
    sound_few (open_connection c) = rw table_few
    sound_few (leave c) = rw table_few
    sound_few (client_message c m) = rw table_few
    sound_few (local_create name type value) = rw table_few
    sound_few (local_write id value) = rw table_few
    sound_few (read_entry id) = table_few

    pub call_few : (k : LentCall) → answered (too_few) (server_memory heads bytes count marks) k.output ≡ step_with_place max_entries (server_memory heads bytes count marks) k
    unfolding call_step call_place pick
    call_few k = rw (sound_few k.call)
