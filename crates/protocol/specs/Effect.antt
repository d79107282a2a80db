-- What a call answers and changes. What it sends is not looked at: it has room.
use Rattle.std.specs.Prelude.{ℕ, ◌≤◌, List, [], ◌≡◌, length, replicate}
use Rattle.hello.specs.Hello.{longest_hello}
use Rattle.protocol.specs.Judge.{Call}
use Rattle.protocol.specs.Step.{ServerMemory, LentCall, CallResult, call_step}
use Rattle.protocol.specs.Kept.{SoundMemory}

pub record Effect : Type 0 where
  pub number : ℕ
  pub taken : ℕ
  pub memory : ServerMemory

abbrev pub effect_of : CallResult → Effect
effect_of r = record { number = r.number; taken = r.taken; memory = r.memory }

-- "with output for the longest hello answer"
unfoldable pub longest_output : (limit : ℕ) → List ℕ
longest_output limit = replicate (longest_hello limit) 0

abbrev pub with_output : (limit : ℕ) → Call → LentCall
with_output limit call = record { call = call; output = longest_output limit }

-- opening and leaving are lent no output
abbrev pub without_output : Call → LentCall
without_output call = record { call = call; output = [] }

-- what is in the output does not matter, nor does more room: there is enough, if a table may hold an entry
abbrev pub SameEffect : Type 0
SameEffect =
    (limit : ℕ) → 1 ≤ limit → (mem : ServerMemory) → SoundMemory limit mem → (call : Call) (out : List ℕ) → longest_hello limit ≤ length out
    → effect_of (call_step limit mem (record { call = call; output = out })) ≡ effect_of (call_step limit mem (with_output limit call))
