-- Demand 3 at two runs that meet its hypotheses: one begins from a fresh start, one from a load.
use mathlib.Core.Path.{◌≡◌, refl, ap, ◌∙◌}
use mathlib.Core.List.{List, [], ◌∷◌, ◌++◌}
use Prim.Native.Nat.{ℕ, ◌≤◌}
use native.Mathlib.Omega.{arith}
use lib.ListN.{length, get_or, set, replicate}
use Rattle.field.specs.Choice.{pick}
use Rattle.field.specs.Octets.{encode16, overwrite_at}
use Rattle.message.specs.Layout.{assignment_bytes}
use Rattle.table.specs.Table.{TableMemory, entries_of}
use Rattle.soundness.specs.Sound.{large_enough}
use Rattle.saved.specs.Form.{saved_size, saved_form}
use Rattle.saved.specs.Calls.{LoadResult, load}
use Rattle.saved.specs.Loaded.{Gives}
use Rattle.hello.specs.Hello.{hello_answer}
use Rattle.protocol.specs.Judge.{open_connection, local_write}
use Rattle.protocol.specs.Step.{ServerMemory, LentCall, CallResult, with_mark, with_table, call_step, fresh_start}
use Rattle.protocol.specs.Run.{memory_after_run, after_start_and_calls, addressed_bytes, StaysWithoutOwnUpdate}
use Rattle.protocol.specs.Copy.{copy_fresh_start}
use Rattle.protocol.specs.Kept.{SoundMemory}
use Rattle.protocol.proofs.Computed.{stale, lent, before, greeting, after, computed}
use Rattle.protocol.proofs.SoundnessLaws.{sound_kept, start_sound}
use Rattle.protocol.proofs.DoneLaws.{open_done, hello_done}
use Rattle.convergence.specs.Begin.{Begins}
use Rattle.convergence.specs.Demand.{CopyHoldsServerEntries}
use Rattle.convergence.proofs.BeginLaws.{begins_sound, loads_after_fresh_start}
use Rattle.convergence.proofs.RunLaws.{sound_run}
use Rattle.convergence.proofs.Theorem.{demand_3}

abbrev started : ServerMemory
started = (fresh_start 2 stale).memory

abbrev stale_copy : TableMemory
stale_copy = record { heads = replicate 8 3; bytes = replicate 640 255; count = 5 }

copy_started : (copy_fresh_start 2 stale_copy).number ≡ 0
unfolding copy_fresh_start large_enough pick
copy_started = refl

-- ---- from a fresh start: the run that is computed

instance : CopyHoldsServerEntries 2 (copy_fresh_start 2 stale_copy).memory (addressed_bytes 2 (after_start_and_calls 2 stale before) 1 (greeting ∷ after))
    (after_start_and_calls 2 stale (before ++ (greeting ∷ after))).table
instance =
    demand_3 2 started (Begins.fresh stale computed.started) before 1 (omega arith) (7 ∷ []) (replicate 40 1) computed.accepted after computed.stays stale_copy copy_started

-- ---- from a load: the table at the end of that run is saved and, after another fresh start, loaded

abbrev saved_table : TableMemory
saved_table = (after_start_and_calls 2 stale (before ++ (greeting ∷ after))).table

abbrev saved_bytes : List ℕ
saved_bytes = saved_form (entries_of saved_table)

abbrev loading : LoadResult
loading = load 2 started.table started.marks saved_bytes

abbrev loaded_memory : ServerMemory
loaded_memory = with_table started loading.table

loads : Gives (entries_of saved_table) (saved_size saved_table.count) loading
loads =
    let sound = sound_run 2 started (before ++ (greeting ∷ after)) (start_sound 2 stale computed.started) in
    loads_after_fresh_start 2 saved_table sound.table stale computed.started

begins : Begins 2 loaded_memory
begins = Begins.loaded started saved_bytes loads.is_done

-- the entries of that run are held
entries_held : entries_of loaded_memory.table ≡
    (record { name = 0x61 ∷ []; type = 0; number = 3; value = 1 ∷ [] } ∷ record { name = 0x62 ∷ []; type = 2; number = 1; value = 0 ∷ 1 ∷ 0x7A ∷ [] } ∷ [])
entries_held = loads.entries ∙ computed.entries_held

-- connection 1 is opened and says hello, and `a` is written locally
abbrev opening : List LentCall
opening = lent (open_connection 1) ∷ []

abbrev writing : List LentCall
writing = lent (local_write 0 (0 ∷ [])) ∷ []

mark_closed : get_or started.marks 1 0 ≡ 0
unfolding fresh_start large_enough overwrite_at pick
mark_closed = refl

mark_open : get_or (set started.marks 1 1) 1 0 ≡ 1
unfolding fresh_start large_enough overwrite_at pick
mark_open = refl

-- the answer to the hello has room
room : length (hello_answer 0 (entries_of loaded_memory.table)) ≤ 40
unfolding hello_answer assignment_bytes encode16
room = rw entries_held (omega arith)

accepted : (call_step 2 (memory_after_run 2 loaded_memory opening) greeting).number ≡ 0
unfolding memory_after_run
accepted =
    let sound = begins_sound 2 loaded_memory begins in
    let opened = open_done 2 loaded_memory sound 1 (omega arith) mark_closed (replicate 40 1) in
    let next : SoundMemory 2 (with_mark loaded_memory 1 1) = rw opened at (sound_kept 2 loaded_memory sound (lent (open_connection 1))) in
    rw (memory_after_run, opened) (ap (λ (r : CallResult). r.number) (hello_done 2 (with_mark loaded_memory 1 1) next 1 (omega arith) mark_open (7 ∷ []) (replicate 40 1) room))

loaded_instance : CopyHoldsServerEntries 2 (copy_fresh_start 2 stale_copy).memory (addressed_bytes 2 (memory_after_run 2 loaded_memory opening) 1 (greeting ∷ writing))
    (memory_after_run 2 loaded_memory (opening ++ (greeting ∷ writing))).table
unfolding StaysWithoutOwnUpdate
loaded_instance =
    demand_3 2 loaded_memory begins opening 1 (omega arith) (7 ∷ []) (replicate 40 1) accepted writing ((λ _. refl), tt) stale_copy copy_started
