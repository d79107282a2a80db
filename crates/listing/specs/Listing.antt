-- "The listing program": the whole text, over the calls' own steps.
use Rattle.std.specs.Prelude.{ℕ, zero, suc, ◌+◌, ◌*◌, List, [], ◌∷◌, ◌++◌, length, take, drop, replicate, ltb, eqb}
use Rattle.field.specs.Choice.{pick}
use Rattle.table.specs.Table.{max_entries, head_size, entry_size}
use Rattle.soundness.specs.Sound.{connections}
use Rattle.hello.specs.Hello.{longest_hello}
use Rattle.protocol.specs.Judge.{open_connection, client_message}
use Rattle.protocol.specs.Step.{ServerMemory, CallResult, call_step, fresh_start}
use Rattle.protocol.specs.Lent.{server_memory}
use Rattle.digits.specs.Digits.{decimal_text, hex_text}

abbrev space : List ℕ
space = 32 ∷ []

abbrev newline : List ℕ
newline = 10 ∷ []

-- "offset taken answer to sent"
unfoldable pub head_text : List ℕ
head_text =
    111 ∷ 102 ∷ 102 ∷ 115 ∷ 101 ∷ 116 ∷ 32 ∷ 116 ∷ 97 ∷ 107 ∷ 101 ∷ 110 ∷ 32 ∷ 97 ∷ 110 ∷ 115 ∷ 119 ∷ 101 ∷ 114 ∷ 32
    ∷ 116 ∷ 111 ∷ 32 ∷ 115 ∷ 101 ∷ 110 ∷ 116 ∷ 10 ∷ []

-- "offset of the message, bytes taken, the number above, recipients in four small hex digits, bytes sent"
unfoldable pub line_text : (offset taken number recipients sent : ℕ) → List ℕ
line_text offset taken number recipients sent =
    decimal_text offset ++ space ++ decimal_text taken ++ space ++ decimal_text number ++ space ++ hex_text recipients ++ space ++ decimal_text sent ++ newline

-- "end 26 entries 1": "The end line has bytes taken in all and the entry count."
unfoldable pub end_text : (taken count : ℕ) → List ℕ
end_text taken count =
    (101 ∷ 110 ∷ 100 ∷ 32 ∷ []) ++ decimal_text taken ++ (32 ∷ 101 ∷ 110 ∷ 116 ∷ 114 ∷ 105 ∷ 101 ∷ 115 ∷ 32 ∷ []) ++ decimal_text count ++ newline

-- a message of connection 0
abbrev pub message_step : ServerMemory → (output message : List ℕ) → CallResult
message_step mem output message = call_step max_entries mem (record { call = client_message 0 message; output = output })

abbrev pub line_of : ℕ → CallResult → List ℕ
line_of offset r = line_text offset r.taken r.number r.recipients r.sent

-- a line for each message, at most so many, and the end line.
-- "A refusal prints its line and ends the reading, the end line still following": it is what takes 0 bytes.
-- "an input spent exactly prints no line for it"
unfoldable pub messages_text : (most offset : ℕ) → ServerMemory → (output rest : List ℕ) → List ℕ
messages_text zero offset mem output rest = end_text offset mem.table.count
messages_text (suc most) offset mem output rest =
    pick (ltb 0 (length rest))
    (line_of offset (message_step mem output rest)
    ++ pick (eqb (message_step mem output rest).taken 0)
    (end_text offset (message_step mem output rest).memory.table.count)
    (messages_text most (offset + (message_step mem output rest).taken) (message_step mem output rest).memory (message_step mem output rest).output (drop (message_step mem output rest).taken rest)))
    (end_text offset mem.table.count)

-- "on a fresh table with connection 0 open"
unfoldable pub listing_start : ServerMemory → ServerMemory
listing_start mem = (call_step max_entries (fresh_start max_entries mem).memory (record { call = open_connection 0; output = [] })).memory

-- "reads at most 4,096 bytes of standard input as connection 0's stream": a message takes at least one of them
abbrev pub stream_size : ℕ
stream_size = 4096

unfoldable pub stream_of : List ℕ → List ℕ
stream_of input = take stream_size input

-- the listing on lent memory, with a lent output
unfoldable pub listing_on : ServerMemory → (output input : List ℕ) → List ℕ
listing_on mem output input = head_text ++ messages_text (length (stream_of input)) 0 (listing_start mem) output (stream_of input)

-- 64 heads, 20,480 bytes and 16 marks
unfoldable pub listing_memory : ServerMemory
listing_memory = server_memory (replicate (head_size * max_entries) 0) (replicate (entry_size * max_entries) 0) 0 (replicate connections 0)

-- "Each call is lent 20,993 bytes of output."
unfoldable pub listing_output : List ℕ
listing_output = replicate (longest_hello max_entries) 0

unfoldable pub listing_text : List ℕ → List ℕ
listing_text input = listing_on listing_memory listing_output input
