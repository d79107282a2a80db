-- Bytes with their recipients: what calls send, and what stands behind the headings of a delivery's output.
use Rattle.std.specs.Prelude.{ℕ, zero, suc, ◌+◌, ◌*◌, ◌≤◌, List, [], ◌∷◌, ◌++◌, ◌≡◌, length, take, drop, eqb}
use Rattle.field.specs.Answer.{done}
use Rattle.field.specs.Choice.{pick}
use Rattle.field.specs.Field.{demand_bytes}
use Rattle.field.specs.Octets.{decode16}
use Rattle.recipients.specs.Recipients.{test_bit}
use Rattle.protocol.specs.Step.{ServerMemory, LentCall, CallResult, call_step}
use Rattle.protocol.specs.Run.{memory_after_run, addressed_bytes}
use Rattle.protocol.specs.Kept.{SoundMemory}
use Rattle.delivery.specs.Delivery.{DeliveryResult, max_messages, heading_size, heading_bytes, deliver, calls_of}

pub record Sending : Type 0 where
  pub recipients : ℕ
  pub bytes : List ℕ

-- ---- of calls

-- "the first "sent" bytes of the output, as the call leaves them, of each call that answers 0"
abbrev pub sent_by_call : CallResult → List Sending
sent_by_call r = pick (eqb r.number done) (record { recipients = r.recipients; bytes = take r.sent r.output } ∷ []) []

unfoldable pub sent_by_calls : (limit : ℕ) → ServerMemory → List LentCall → List Sending
sent_by_calls limit mem [] = []
sent_by_calls limit mem (k ∷ ks) = sent_by_call (call_step limit mem k) ++ sent_by_calls limit (call_step limit mem k).memory ks

-- "with its bit among the recipients"; "they are joined in the order of the calls"
unfoldable pub addressed_to : (c : ℕ) → List Sending → List ℕ
addressed_to c [] = []
addressed_to c (x ∷ xs) = pick (test_bit x.recipients c) x.bytes [] ++ addressed_to c xs

-- these are the bytes of demand 3
abbrev pub SameAddressed : Type 0
SameAddressed = (limit : ℕ) (mem : ServerMemory) (c : ℕ) (ks : List LentCall) → addressed_to c (sent_by_calls limit mem ks) ≡ addressed_bytes limit mem c ks

-- ---- of a delivery

-- the number that the first 4 bytes are
abbrev pub decode32 : List ℕ → ℕ
decode32 s = decode16 s * 65536 + decode16 (drop 2 s)

-- the length that a heading states, behind its recipients
abbrev pub stated_length : List ℕ → ℕ
stated_length s = decode32 (drop 2 s)

-- "the bytes behind a heading go to the recipients named there", of at most so many headings
unfoldable pub behind_headings : (most : ℕ) → List ℕ → List Sending
behind_headings zero s = []
behind_headings (suc most) s =
    demand_bytes 1 s []
    (record { recipients = decode16 s; bytes = take (stated_length s) (drop heading_size s) } ∷ behind_headings most (drop (heading_size + stated_length s) s))

-- each thing behind its heading
unfoldable pub headed : List Sending → List ℕ
headed [] = []
headed (x ∷ xs) = heading_bytes x.recipients (length x.bytes) ++ (x.bytes ++ headed xs)

-- what a delivery sends, by the bytes that it wrote
abbrev pub sent_by_delivery : DeliveryResult → List Sending
sent_by_delivery d = behind_headings max_messages (take d.written d.output)

-- ---- a delivery is its calls

-- "Table, headings and bytes equal single calls": memory is what these calls leave, one by one; what is written is what they send, each thing
-- behind its heading; so what stands behind the headings, with the recipients named there, is what they send
pub record EqualsCalls (limit : ℕ) (mem : ServerMemory) (d : DeliveryResult) (calls : List LentCall) : Type 0 where
  pub memory : d.memory ≡ memory_after_run limit mem calls
  pub written : take d.written d.output ≡ headed (sent_by_calls limit mem calls)
  pub sent : sent_by_delivery d ≡ sent_by_calls limit mem calls

abbrev pub DeliveryIsCalls : Type 0
DeliveryIsCalls =
    (limit : ℕ) (mem : ServerMemory) (c : ℕ) (input out : List ℕ)
    → EqualsCalls limit mem (deliver limit mem c input out) (calls_of limit mem c input out)

-- at most so many messages; what is taken and written is within what was lent, and the output behind what was written is as it was lent
pub record Within (most : ℕ) (input out : List ℕ) (d : DeliveryResult) : Type 0 where
  pub messages : d.messages ≤ most
  pub taken : d.taken ≤ length input
  pub written : d.written ≤ length out
  pub output_length : length d.output ≡ length out
  pub rest : drop d.written d.output ≡ drop d.written out

abbrev pub DeliveryWithin : Type 0
DeliveryWithin = (limit : ℕ) (mem : ServerMemory) (c : ℕ) (input out : List ℕ) → Within max_messages input out (deliver limit mem c input out)

-- sound memory stays sound
abbrev pub DeliverySoundKept : Type 0
DeliverySoundKept =
    (limit : ℕ) (mem : ServerMemory) → SoundMemory limit mem → (c : ℕ) (input out : List ℕ) → SoundMemory limit (deliver limit mem c input out).memory
