-- "it gathers bytes for each connection and makes the call on them": the bytes that one connection holds, and the calls that are made.
use Rattle.std.specs.Prelude.{ℕ, zero, suc, ◌+◌, ◌≤◌, Bool, ◌&&◌, List, [], ◌∷◌, ◌++◌, ◌≡◌, length, drop, get_or, ltb, eqb}
use Rattle.field.specs.Answer.{incomplete}
use Rattle.field.specs.Choice.{pick, demand}
use Rattle.field.specs.Field.{demand_bytes}
use Rattle.answer.specs.Answers.{goes_on}
use Rattle.message.specs.Layout.{longest_assignment}
use Rattle.table.specs.Table.{entries_of}
use Rattle.soundness.specs.Sound.{connections, closed}
use Rattle.protocol.specs.Judge.{leave, client_message}
use Rattle.protocol.specs.Step.{ServerMemory, LentCall, call_step}
use Rattle.protocol.specs.Run.{memory_after_run}
use Rattle.protocol.specs.Effect.{Effect, effect_of, with_output, without_output}
use Rattle.line_record.specs.Plant.{PlantMessage, refused_message, asks, plant_message}

-- ---- one message

-- a local call takes no bytes of its own: its message's are taken where it is done or ignored
unfoldable pub plant_effect : (limit : ℕ) → ServerMemory → PlantMessage → Effect
plant_effect limit mem (refused_message number) = record { number = number; taken = 0; memory = mem }
plant_effect limit mem (asks call size) =
    let r = call_step limit mem (with_output limit call) in
    record { number = r.number; taken = pick (goes_on r.number) size 0; memory = r.memory }

abbrev pub plant_calls : (limit : ℕ) → PlantMessage → List LentCall
plant_calls limit (refused_message number) = []
plant_calls limit (asks call size) = with_output limit call ∷ []

abbrev pub client_call : (limit c : ℕ) → List ℕ → LentCall
client_call limit c m = with_output limit (client_message c m)

-- the message that stands first in the bytes of a connection: of a client, or of the plant's own code
unfoldable pub message_effect : (limit : ℕ) → ServerMemory → (c : ℕ) → List ℕ → Effect
message_effect limit mem c m =
    pick (ltb c connections) (effect_of (call_step limit mem (client_call limit c m))) (plant_effect limit mem (plant_message (entries_of mem.table) m))

-- the call that it stands for, if there is one
unfoldable pub message_calls : (limit : ℕ) → ServerMemory → (c : ℕ) → List ℕ → List LentCall
message_calls limit mem c m =
    pick (ltb c connections) (client_call limit c m ∷ []) (plant_calls limit (plant_message (entries_of mem.table) m))

-- ---- all bytes of a connection

-- memory, and the bytes that the connection still holds
pub record Kept : Type 0 where
  pub memory : ServerMemory
  pub held : List ℕ

abbrev pub keeping : ServerMemory → List ℕ → Kept
keeping mem held = record { memory = mem; held = held }

-- with the calls that were made
pub record Settled : Type 0 where
  pub kept : Kept
  pub calls : List LentCall

abbrev pub settled : ServerMemory → List ℕ → List LentCall → Settled
settled mem held calls = record { kept = keeping mem held; calls = calls }

abbrev pub behind_calls : List LentCall → Settled → Settled
behind_calls calls s = record { kept = s.kept; calls = calls ++ s.calls }

-- a connection from 0 to 15 that is closed
unfoldable pub is_closed : (marks : List ℕ) (c : ℕ) → Bool
is_closed marks c = ltb c connections && eqb (get_or marks c 0) closed

-- "and, for 0 to 15, makes it leave"
unfoldable pub leaving : (c : ℕ) → List LentCall
leaving c = pick (ltb c connections) (without_output (leave c) ∷ []) []

-- the calls on held bytes, at most so many
unfoldable pub settle : (most limit : ℕ) → ServerMemory → (c : ℕ) (held : List ℕ) → Settled
settle zero limit mem c held = settled mem held []
settle (suc most) limit mem c held =
    let r = message_effect limit mem c held in
    let calls = message_calls limit mem c held in
    -- "until none are left"
    demand_bytes 1 held (settled mem [] [])
    -- "or it answers 1"
    (pick (eqb r.number incomplete) (settled r.memory held calls)
    -- "A refused message other than 1 drops that connection's held bytes and, for 0 to 15, makes it leave.";
    -- of the plant's own code "its bytes are dropped and the run goes on"
    (demand (goes_on r.number) (settled (memory_after_run limit r.memory (leaving c)) [] (calls ++ leaving c))
    -- "a hello for another revision drops them too": it closes the connection
    (pick (is_closed r.memory.marks c) (settled r.memory [] calls)
    (behind_calls calls (settle most limit r.memory c (drop r.taken held))))))

-- bytes that came in; "data for a closed connection is dropped". Each call that goes on takes at least a byte, so there are no more calls than bytes.
unfoldable pub gather : (limit : ℕ) → ServerMemory → (c : ℕ) (held arrived : List ℕ) → Settled
gather limit mem c held arrived =
    pick (is_closed mem.marks c) (settled mem held []) (settle (length (held ++ arrived)) limit mem c (held ++ arrived))

-- ---- how many bytes a connection can hold

-- a message that answers 1 is this long at most: a value of several Strings may end with one byte more than the longest that is complete
abbrev pub longest_incomplete : ℕ
longest_incomplete = longest_assignment + 1

abbrev pub IncompleteShort : Type 0
IncompleteShort =
    (limit : ℕ) (mem : ServerMemory) (c : ℕ) (m : List ℕ) → (message_effect limit mem c m).number ≡ incomplete → length m ≤ longest_incomplete

-- so what is held after bytes came in
abbrev pub GatherShort : Type 0
GatherShort =
    (limit : ℕ) (mem : ServerMemory) (c : ℕ) (held arrived : List ℕ) → length held ≤ longest_incomplete
    → length (gather limit mem c held arrived).kept.held ≤ longest_incomplete
