-- "A whole delivery at once": the messages of one connection, judged in order, each by the step of a single call.
use Rattle.std.specs.Prelude.{ℕ, zero, suc, ◌+◌, ◌/◌, ◌%◌, ◌&&◌, List, [], ◌∷◌, ◌++◌, take, drop, get_or, ltb, eqb}
use Rattle.field.specs.Answer.{done, connection_too_high, wrong_state, unsound}
use Rattle.field.specs.Choice.{pick, demand}
use Rattle.field.specs.Field.{demand_bytes}
use Rattle.field.specs.Octets.{encode16}
use Rattle.field.specs.Place.{WithPlace}
use Rattle.answer.specs.Answers.{goes_on}
use Rattle.soundness.specs.Sound.{sound_table, sound_marks, connections, closed}
use Rattle.protocol.specs.Judge.{client_message}
use Rattle.protocol.specs.Step.{ServerMemory, LentCall, CallResult, call_step}
use Rattle.protocol.specs.Place.{call_place}
use Rattle.protocol.specs.Taken.{message_call}

-- ---- one message

-- "up to 64 messages"
abbrev pub max_messages : ℕ
max_messages = 64

abbrev pub heading_size : ℕ
heading_size = 6

-- a number in 4 bytes, big endian: the higher two, then the lower two
abbrev pub encode32 : ℕ → List ℕ
encode32 n = encode16 (n / 65536) ++ encode16 (n % 65536)

-- "recipients (2 bytes) and length (4 bytes, big endian)"
unfoldable pub heading_bytes : (recipients length : ℕ) → List ℕ
heading_bytes recipients length = encode16 recipients ++ encode32 length

-- a message judged is one call, "lent the output left after the previous message and this heading (none if under six bytes are left)"
abbrev pub judged_call : (c : ℕ) (input out : List ℕ) → LentCall
judged_call c input out = message_call c input (drop heading_size out)

-- "Each done message puts a heading into the output .. then its bytes. Ignored ones put nothing.", nor does a refused one
unfoldable pub with_heading : (out : List ℕ) → CallResult → CallResult
with_heading out r =
    pick (eqb r.number done)
    (record {
      number = r.number;
      taken = r.taken;
      sent = heading_size + r.sent;
      recipients = r.recipients;
      memory = r.memory;
      output = heading_bytes r.recipients r.sent ++ r.output;
    })
    (record { number = r.number; taken = r.taken; sent = 0; recipients = r.recipients; memory = r.memory; output = out })

-- the message that stands first in the input, in the output that is left
unfoldable pub message_step : (limit : ℕ) → ServerMemory → (c : ℕ) (input out : List ℕ) → CallResult
message_step limit mem c input out = with_heading out (call_step limit mem (judged_call c input out))

-- with the place that its refusal tells, counted from its first byte
abbrev pub message_with_place : (limit : ℕ) → ServerMemory → (c : ℕ) (input out : List ℕ) → WithPlace CallResult
message_with_place limit mem c input out =
    record { result = message_step limit mem c input out; place = call_place limit mem (client_message c input) }

-- ---- the messages of an input

-- "reports messages and bytes taken, bytes written and why it ended"; a refusal's number and place; memory and output afterwards
pub record DeliveryResult : Type 0 where
  pub number : ℕ
  pub ended : ℕ
  pub messages : ℕ
  pub taken : ℕ
  pub written : ℕ
  pub place : ℕ
  pub memory : ServerMemory
  pub output : List ℕ

-- "The call ends at the first refusal, after 64 messages, or when the input is spent"
abbrev pub at_refusal : ℕ
at_refusal = 0

abbrev pub input_spent : ℕ
input_spent = 1

abbrev pub max_reached : ℕ
max_reached = 2

-- nothing is taken and written any more
abbrev pub ends_here : (number ended place : ℕ) → ServerMemory → List ℕ → DeliveryResult
ends_here number ended place mem out =
    record { number = number; ended = ended; messages = 0; taken = 0; written = 0; place = place; memory = mem; output = out }

abbrev pub refused_here : (number place : ℕ) → ServerMemory → List ℕ → DeliveryResult
refused_here number place mem out = ends_here number at_refusal place mem out

-- some messages, the bytes that they took and those that they wrote, with what is done behind them
abbrev pub ahead : (messages taken written : ℕ) (front : List ℕ) → DeliveryResult → DeliveryResult
ahead messages taken written front d =
    record {
      number = d.number;
      ended = d.ended;
      messages = messages + d.messages;
      taken = taken + d.taken;
      written = written + d.written;
      place = d.place;
      memory = d.memory;
      output = front ++ d.output;
    }

-- at most so many messages. "An input spent is named before the 64"; at a refusal "what came before stands"
unfoldable pub deliver_at_most : (most limit : ℕ) → ServerMemory → (c : ℕ) (input out : List ℕ) → DeliveryResult
deliver_at_most zero limit mem c input out = demand_bytes 1 input (ends_here done input_spent 0 mem out) (ends_here done max_reached 0 mem out)
deliver_at_most (suc most) limit mem c input out =
    let r = message_step limit mem c input out in
    demand_bytes 1 input (ends_here done input_spent 0 mem out)
    (demand (goes_on r.number) (refused_here r.number (call_place limit mem (client_message c input)) mem out)
    (ahead 1 r.taken r.sent (take r.sent r.output)
    (deliver_at_most most limit r.memory c (drop r.taken input) (drop r.sent r.output))))

-- "Refusals: 14, 2 and 3 for a closed connection come first, on an empty input too"
abbrev pub demand_ready : {X : Type 0} → (limit : ℕ) → ServerMemory → (c : ℕ) → (refuse : ℕ → X) → X → X
demand_ready limit mem c refuse next =
    demand (sound_table limit mem.table && sound_marks mem.marks) (refuse unsound)
    (demand (ltb c connections) (refuse connection_too_high)
    (pick (eqb (get_or mem.marks c 0) closed) (refuse wrong_state)
    next))

-- "One call takes a connection and up to 64 messages, judged in order."
unfoldable pub deliver : (limit : ℕ) → ServerMemory → (c : ℕ) (input out : List ℕ) → DeliveryResult
deliver limit mem c input out =
    demand_ready limit mem c (λ number. refused_here number 0 mem out) (deliver_at_most max_messages limit mem c input out)

-- ---- its messages as calls

unfoldable pub calls_at_most : (most limit : ℕ) → ServerMemory → (c : ℕ) (input out : List ℕ) → List LentCall
calls_at_most zero limit mem c input out = []
calls_at_most (suc most) limit mem c input out =
    let r = message_step limit mem c input out in
    demand_bytes 1 input []
    (judged_call c input out
    ∷ demand (goes_on r.number) [] (calls_at_most most limit r.memory c (drop r.taken input) (drop r.sent r.output)))

-- "demand 3 counts each message judged as one call of its list": the calls that a delivery stands for, a refused one included
unfoldable pub calls_of : (limit : ℕ) → ServerMemory → (c : ℕ) (input out : List ℕ) → List LentCall
calls_of limit mem c input out = demand_ready limit mem c (λ _. []) (calls_at_most max_messages limit mem c input out)
