-- "Our line recorder writes a kind byte, then a body of that kind's length."
use Rattle.std.specs.Prelude.{ℕ, ◌+◌, ◌-◌, Bool, true, ◌&&◌, ◌||◌, List, take, drop, get_or, leb, eqb}
use Rattle.field.specs.Answer.{incomplete, unknown_kind}
use Rattle.field.specs.Choice.{pick, demand}
use Rattle.field.specs.Field.{demand_bytes}
use Rattle.soundness.specs.Sound.{connections}

-- "Kind 1: a connection opens (1 byte). Kind 2: it leaves (1 byte). Kinds 64 to 127: a connection byte and kind minus 63 bytes that came in."
pub data Record : Type 0 where
  opens : (c : ℕ) → Record
  leaves : (c : ℕ) → Record
  came : (c : ℕ) (arrived : List ℕ) → Record

-- the record at the start of some bytes, with its size, or a refusal
pub data NextRecord : Type 0 where
  refused_record : (number : ℕ) → NextRecord
  found : Record → (size : ℕ) → NextRecord

abbrev pub opens_kind : ℕ
opens_kind = 1

abbrev pub leaves_kind : ℕ
leaves_kind = 2

-- "Kinds 64 to 127"
abbrev pub least_data_kind : ℕ
least_data_kind = 64

abbrev pub most_data_kind : ℕ
most_data_kind = 127

-- "Connection 16 is the plant's own code"
abbrev pub plant_connection : ℕ
plant_connection = connections

-- 0 to 15, and the plant's own code
abbrev pub recorded_connections : ℕ
recorded_connections = plant_connection + 1

-- a kind byte and a connection byte
abbrev pub record_head_size : ℕ
record_head_size = 2

-- "kind minus 63 bytes that came in"
abbrev pub data_kind_base : ℕ
data_kind_base = 63

-- at most
abbrev pub max_arrived : ℕ
max_arrived = 64

abbrev pub is_data : (kind : ℕ) → Bool
is_data kind = leb least_data_kind kind && leb kind most_data_kind

unfoldable pub known_kind : (kind : ℕ) → Bool
known_kind kind = eqb kind opens_kind || eqb kind leaves_kind || is_data kind

-- "a body of that kind's length", behind the connection byte
unfoldable pub data_size : (kind : ℕ) → ℕ
data_size kind = pick (is_data kind) (kind - data_kind_base) 0

-- "4 for .. a connection byte above 16 in a data record"
unfoldable pub known_connection : (kind c : ℕ) → Bool
known_connection kind c = pick (is_data kind) (leb c plant_connection) true

-- the record of a kind that is known
unfoldable pub record_of : (kind c : ℕ) (arrived : List ℕ) → Record
record_of kind c arrived = pick (eqb kind opens_kind) (opens c) (pick (eqb kind leaves_kind) (leaves c) (came c arrived))

-- "left to right 4 for an unknown kind or a connection byte above 16 in a data record, 1 for a cut record"
unfoldable pub next_record : List ℕ → NextRecord
next_record s =
    let kind = get_or s 0 0 in
    let c = get_or s 1 0 in
    demand_bytes 1 s (refused_record incomplete)
    (demand (known_kind kind) (refused_record unknown_kind)
    (demand_bytes record_head_size s (refused_record incomplete)
    (demand (known_connection kind c) (refused_record unknown_kind)
    (demand_bytes (record_head_size + data_size kind) s (refused_record incomplete)
    (found (record_of kind c (take (data_size kind) (drop record_head_size s))) (record_head_size + data_size kind))))))
