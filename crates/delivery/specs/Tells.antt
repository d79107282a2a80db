-- What a delivery reports, said by single calls alone.
use Rattle.std.specs.Prelude.{ℕ, ◌+◌, ◌≤◌, ◌<◌, false, ◌&&◌, List, [], ◌∷◌, ◌≡◌, ◌≢◌, ◌⊎◌, length, drop, get_or}
use Rattle.field.specs.Answer.{done, ignored, connection_too_high, wrong_state, unsound, RefusalNumber}
use Rattle.field.specs.Choice.{pick}
use Rattle.soundness.specs.Sound.{sound_table, sound_marks, connections, closed}
use Rattle.protocol.specs.Step.{ServerMemory, LentCall, call_step}
use Rattle.protocol.specs.Place.{call_place}
use Rattle.protocol.specs.Kept.{SoundMemory}
use Rattle.protocol.specs.Taken.{message_call}
use Rattle.answer.specs.Answers.{goes_on}
use Rattle.delivery.specs.Delivery.{DeliveryResult, max_messages, at_refusal, input_spent, max_reached, heading_size, deliver, calls_of}
use Rattle.delivery.specs.Sent.{sent_by_call, headed}

-- ---- of a list of calls

-- how many were done or ignored, the bytes that they took, and the number and the place of the refusal behind them: 0 and 0 if there is none
unfoldable pub messages_in : (limit : ℕ) → ServerMemory → List LentCall → ℕ
messages_in limit mem [] = 0
messages_in limit mem (k ∷ ks) = pick (goes_on (call_step limit mem k).number) (1 + messages_in limit (call_step limit mem k).memory ks) 0

unfoldable pub taken_in : (limit : ℕ) → ServerMemory → List LentCall → ℕ
taken_in limit mem [] = 0
taken_in limit mem (k ∷ ks) = (call_step limit mem k).taken + taken_in limit (call_step limit mem k).memory ks

unfoldable pub number_in : (limit : ℕ) → ServerMemory → List LentCall → ℕ
number_in limit mem [] = done
number_in limit mem (k ∷ ks) = pick (goes_on (call_step limit mem k).number) (number_in limit (call_step limit mem k).memory ks) (call_step limit mem k).number

unfoldable pub place_in : (limit : ℕ) → ServerMemory → List LentCall → ℕ
place_in limit mem [] = 0
place_in limit mem (k ∷ ks) = pick (goes_on (call_step limit mem k).number) (place_in limit (call_step limit mem k).memory ks) (call_place limit mem k.call)

-- messages of connection c, one behind the other in an input: each is lent the output left behind what those before it wrote and its own
-- heading, and none follows a refusal
pub data Judged (limit c : ℕ) : ServerMemory → (input out : List ℕ) → List LentCall → Type 0 where
  no_more : {mem : ServerMemory} {input out : List ℕ} → Judged limit c mem input out []
  refused : {mem : ServerMemory} {input out : List ℕ} → 0 < length input → RefusalNumber (call_step limit mem (message_call c input (drop heading_size out))).number
      → Judged limit c mem input out (message_call c input (drop heading_size out) ∷ [])
  taken : {mem : ServerMemory} {input out : List ℕ} {ks : List LentCall} → 0 < length input
      → ((call_step limit mem (message_call c input (drop heading_size out))).number ≡ done) ⊎ ((call_step limit mem (message_call c input (drop heading_size out))).number ≡ ignored)
      → Judged limit c (call_step limit mem (message_call c input (drop heading_size out))).memory (drop (call_step limit mem (message_call c input (drop heading_size out))).taken input)
      (drop (length (headed (sent_by_call (call_step limit mem (message_call c input (drop heading_size out)))))) out) ks
      → Judged limit c mem input out (message_call c input (drop heading_size out) ∷ ks)

-- ---- of a delivery

-- "why it ended": "An input spent is named before the 64."
pub data EndedBy (most : ℕ) (input : List ℕ) (d : DeliveryResult) : Type 0 where
  refusal : RefusalNumber d.number → d.messages < most → d.ended ≡ at_refusal → EndedBy most input d
  spent : d.number ≡ done → d.taken ≡ length input → d.ended ≡ input_spent → EndedBy most input d
  too_many : d.number ≡ done → d.messages ≡ most → d.taken < length input → d.ended ≡ max_reached → EndedBy most input d

-- of at most so many messages
pub record Tells (most limit : ℕ) (mem : ServerMemory) (c : ℕ) (input out : List ℕ) (d : DeliveryResult) (calls : List LentCall) : Type 0 where
  pub judged : Judged limit c mem input out calls
  pub messages : d.messages ≡ messages_in limit mem calls
  pub taken : d.taken ≡ taken_in limit mem calls
  pub number : d.number ≡ number_in limit mem calls
  pub place : d.place ≡ place_in limit mem calls
  pub ended : EndedBy most input d

-- a delivery of a connection that is open or greeted, on sound memory
abbrev pub DeliveryTells : Type 0
DeliveryTells =
    (limit : ℕ) (mem : ServerMemory) (c : ℕ) (input out : List ℕ) → SoundMemory limit mem → c < connections → get_or mem.marks c 0 ≢ closed
    → Tells max_messages limit mem c input out (deliver limit mem c input out) (calls_of limit mem c input out)

-- a delivery that is refused at first: no message is judged, and nothing changes
pub record RefusedAtFirst (limit : ℕ) (mem : ServerMemory) (c : ℕ) (input out : List ℕ) (number : ℕ) : Type 0 where
  pub answered : deliver limit mem c input out
      ≡ record { number = number; ended = at_refusal; messages = 0; taken = 0; written = 0; place = 0; memory = mem; output = out }
  pub no_calls : calls_of limit mem c input out ≡ []

-- "Refusals: 14, 2 and 3 for a closed connection come first, on an empty input too"
pub record FirstRefusals (limit : ℕ) (mem : ServerMemory) (c : ℕ) (input out : List ℕ) : Type 0 where
  pub unsound_memory : (sound_table limit mem.table && sound_marks mem.marks) ≡ false → RefusedAtFirst limit mem c input out unsound
  pub too_high : SoundMemory limit mem → connections ≤ c → RefusedAtFirst limit mem c input out connection_too_high
  pub closed_connection : SoundMemory limit mem → c < connections → get_or mem.marks c 0 ≡ closed → RefusedAtFirst limit mem c input out wrong_state

abbrev pub FirstRefused : Type 0
FirstRefused = (limit : ℕ) (mem : ServerMemory) (c : ℕ) (input out : List ℕ) → FirstRefusals limit mem c input out
