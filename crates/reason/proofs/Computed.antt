-- Reasons, computed: on memory for two entries, what is named of messages that meet each check, and where.
use mathlib.Core.Path.{◌≡◌, refl}
use mathlib.Core.List.{List, [], ◌∷◌, ◌++◌}
use Prim.Native.Nat.{ℕ, zero, suc}
use lib.ListN.{take, replicate}
use Rattle.field.specs.Choice.{pick}
use Rattle.field.specs.Octets.{decode16, encode16, overwrite_at, bytes_equal}
use Rattle.utf8.specs.Utf8.{after_first, after_byte, utf8_from, is_utf8}
use Rattle.text.specs.Text.{parse_text}
use Rattle.value.specs.Value.{known_type, parse_boolean, parse_double, parse_element, count_fits, elements, parse_array, parse_value, parse_lone}
use Rattle.message.specs.Layout.{Entry, update_bytes}
use Rattle.table.specs.Names.{holder, name_held, names_differ}
use Rattle.table.specs.Table.{TableMemory, entry_at, tabulate, entries_of, default_entry, heads_with_entry, bytes_with_entry, store_entry}
use Rattle.soundness.specs.Sound.{all_below, sound_entry, large_enough, sound_table, sound_marks}
use Rattle.protocol.specs.Step.{ServerMemory}
use Rattle.protocol.proofs.Computed.{stale}
use Rattle.reason.specs.Reason.{number_of, refused_at}
use Rattle.reason.specs.Checks.{text_checks, element_checks, element_size, elements_checks, array_checks, value_checks, assignment_checks, number_checks, update_checks, from_client, state_allows, behind_kind, checks}
use Rattle.reason.specs.Why.{first_failing, when_passed, why}
use Rattle.reason.specs.declared.Reason.{Reason}
use Rattle.reason.specs.declared.Reason.TheVariants.{KeepAlive, NameHeld, Equal, Older, Undefined, Applied, Done}

-- ---- memory for two entries: connection 0 is greeted, 1 and 15 are open, the others closed; a mark more is lent

abbrev marked : TableMemory → ServerMemory
marked table = record { table = table; marks = 2 ∷ 1 ∷ (replicate 13 0 ++ (1 ∷ 2 ∷ [])) }

abbrev none : TableMemory
none = record { heads = replicate 8 7; bytes = replicate 640 9; count = 0 }

-- an entry named `a`
abbrev entry : (type number : ℕ) (value : List ℕ) → Entry
entry type number value = record { name = 0x61 ∷ []; type = type; number = number; value = value }

abbrev one : Entry → ServerMemory
one e = marked (store_entry none e)

-- `a`, a Boolean with number 5
abbrev some : ServerMemory
some = one (entry 0 5 (1 ∷ []))

-- and `b`, a String with number 300
abbrev full : ServerMemory
full = marked (store_entry (store_entry none (entry 0 5 (1 ∷ []))) (record { name = 0x62 ∷ []; type = 2; number = 300; value = 0 ∷ 0 ∷ [] }))

-- ---- messages

-- an assignment of a new entry `c`, up to its value
abbrev new : (type : ℕ) → List ℕ → List ℕ
new type value = 0x10 ∷ 0 ∷ 1 ∷ 0x63 ∷ type ∷ 255 ∷ 255 ∷ 0 ∷ 9 ∷ value

-- an assignment of a Boolean with a name
abbrev named : ℕ → List ℕ
named byte = 0x10 ∷ 0 ∷ 1 ∷ byte ∷ 0 ∷ 255 ∷ 255 ∷ 0 ∷ 9 ∷ 1 ∷ []

-- ---- what is named

-- of several messages of a connection
unfoldable each : ServerMemory → (c : ℕ) → List (List ℕ) → List Reason
each mem c [] = []
each mem c (m ∷ ms) = why 2 mem c m ∷ each mem c ms

-- of a message of the greeted connection, cut behind each number of bytes from a first one on
unfoldable cuts : (n from : ℕ) → ServerMemory → List ℕ → List Reason
cuts zero from mem m = []
cuts (suc n) from mem m = why 2 mem 0 (take from m) ∷ cuts n (suc from) mem m

-- of an update of `a`, where the stored and the received number are these
unfoldable numbered : (stored received : ℕ) → Reason
numbered stored received = why 2 (one (entry 0 stored (1 ∷ []))) 0 (update_bytes 0 received (0 ∷ []))

-- 1 at a place
abbrev cut : (place : ℕ) → Reason
cut place = refused_at 1 place

record Computed : Type 0 where
  -- "Table (14), connection number (2), connection closed (3). Then the bytes": the first of several is named
  memory : (why 2 stale 99 [] ∷ why 2 (record { table = some.table; marks = replicate 15 1 }) 0 (0 ∷ [])
      ∷ why 2 (record { table = some.table; marks = replicate 15 1 ++ (3 ∷ []) }) 0 (0 ∷ []) ∷ why 3 some 0 (0 ∷ []) ∷ []) ≡
      (refused_at 14 0 ∷ refused_at 14 0 ∷ refused_at 14 0 ∷ refused_at 14 0 ∷ [])
  connection : (why 2 some 16 [] ∷ why 2 some 15 [] ∷ why 2 some 14 [] ∷ why 2 some 2 (5 ∷ []) ∷ []) ≡
      (refused_at 2 0 ∷ cut 0 ∷ refused_at 3 0 ∷ refused_at 3 0 ∷ [])
  -- "After the kind (4) comes the state for that kind (3)": kinds 0 to 4, 0x0F to 0x12 and 255, of a greeted connection and of one that is open
  kinds_greeted : each some 0 ((0 ∷ []) ∷ (1 ∷ []) ∷ (2 ∷ []) ∷ (3 ∷ []) ∷ (4 ∷ []) ∷ (0x0F ∷ []) ∷ (0x10 ∷ []) ∷ (0x11 ∷ []) ∷ (0x12 ∷ []) ∷ (255 ∷ []) ∷ []) ≡
      (KeepAlive ∷ refused_at 3 0 ∷ refused_at 4 0 ∷ refused_at 4 0 ∷ refused_at 4 0 ∷ refused_at 4 0 ∷ cut 1 ∷ cut 1 ∷ refused_at 4 0 ∷ refused_at 4 0 ∷ [])
  kinds_open : each some 1 ((0 ∷ []) ∷ (1 ∷ []) ∷ (2 ∷ []) ∷ (3 ∷ []) ∷ (4 ∷ []) ∷ (0x0F ∷ []) ∷ (0x10 ∷ []) ∷ (0x11 ∷ []) ∷ (0x12 ∷ []) ∷ (255 ∷ []) ∷ []) ≡
      (KeepAlive ∷ cut 1 ∷ refused_at 4 0 ∷ refused_at 4 0 ∷ refused_at 4 0 ∷ refused_at 4 0 ∷ refused_at 3 0 ∷ refused_at 3 0 ∷ refused_at 4 0 ∷ refused_at 4 0 ∷ [])
  -- a hello of any revision, cut and with a byte behind it; a keep alive with bytes behind it
  hellos : each some 15 ((1 ∷ 2 ∷ []) ∷ (1 ∷ 2 ∷ 0 ∷ []) ∷ (1 ∷ 3 ∷ 0 ∷ []) ∷ (1 ∷ 2 ∷ 0 ∷ 7 ∷ []) ∷ (0 ∷ 7 ∷ 7 ∷ []) ∷ []) ≡ (cut 1 ∷ Done ∷ Done ∷ Done ∷ KeepAlive ∷ [])
  -- "with 1 the first field not wholly there": kind, name's length, name, type, ID, number, the value's length, its bytes; and a byte behind it
  cut_assignment : cuts 14 0 some (new 2 (0 ∷ 2 ∷ 0x7A ∷ 0x7A ∷ 7 ∷ [])) ≡
      (cut 0 ∷ cut 1 ∷ cut 1 ∷ cut 3 ∷ cut 4 ∷ cut 5 ∷ cut 5 ∷ cut 7 ∷ cut 7 ∷ cut 9 ∷ cut 9 ∷ cut 11 ∷ cut 11 ∷ Done ∷ [])
  cut_update : cuts 8 0 some (0x11 ∷ 0 ∷ 0 ∷ 0 ∷ 6 ∷ 1 ∷ 7 ∷ []) ≡ (cut 0 ∷ cut 1 ∷ cut 1 ∷ cut 3 ∷ cut 3 ∷ cut 5 ∷ Applied 1 ∷ Applied 1 ∷ [])
  -- of each type, from the value's first byte on: an array's count, and each of its elements
  cut_boolean : cuts 2 9 some (new 0 (1 ∷ [])) ≡ (cut 9 ∷ Done ∷ [])
  cut_double : cuts 9 9 some (new 1 (replicate 8 255)) ≡ (replicate 8 (cut 9) ++ (Done ∷ []))
  cut_booleans : cuts 4 9 some (new 0x10 (2 ∷ 1 ∷ 0 ∷ [])) ≡ (cut 9 ∷ cut 10 ∷ cut 11 ∷ Done ∷ [])
  cut_doubles : cuts 18 9 some (new 0x11 (2 ∷ replicate 16 255)) ≡ (cut 9 ∷ (replicate 8 (cut 10) ++ (replicate 8 (cut 18) ++ (Done ∷ []))))
  cut_strings : cuts 8 9 some (new 0x12 (2 ∷ 0 ∷ 1 ∷ 0x7A ∷ 0 ∷ 1 ∷ 0x7A ∷ [])) ≡ (cut 9 ∷ cut 10 ∷ cut 10 ∷ cut 12 ∷ cut 13 ∷ cut 13 ∷ cut 15 ∷ Done ∷ [])
  -- the rule of each field: a name's length and bytes, a type, an ID; a Boolean, a String's length and bytes
  rules : each some 0 ((0x10 ∷ 0 ∷ 65 ∷ []) ∷ (0x10 ∷ 1 ∷ 0 ∷ []) ∷ (0x10 ∷ 0 ∷ 64 ∷ []) ∷ (0x10 ∷ 0 ∷ 1 ∷ 0xFF ∷ []) ∷ (0x10 ∷ 0 ∷ 1 ∷ 0x63 ∷ 3 ∷ []) ∷ (0x10 ∷ 0 ∷ 0 ∷ 0x13 ∷ [])
      ∷ (0x10 ∷ 0 ∷ 1 ∷ 0x63 ∷ 0 ∷ 255 ∷ 254 ∷ []) ∷ new 0 (2 ∷ []) ∷ new 2 (0 ∷ 255 ∷ []) ∷ new 2 (0 ∷ 254 ∷ []) ∷ new 2 (0 ∷ 1 ∷ 0x80 ∷ []) ∷ []) ≡
      (refused_at 10 1 ∷ refused_at 10 1 ∷ cut 3 ∷ refused_at 9 3 ∷ refused_at 7 4 ∷ refused_at 7 3
      ∷ refused_at 5 5 ∷ refused_at 8 9 ∷ refused_at 10 9 ∷ cut 11 ∷ refused_at 9 11 ∷ [])
  -- of arrays: a later Boolean; 255 Booleans, 31 and 32 Doubles; a later String that is too long with the first, one that is not, and one that is not UTF-8
  array_rules : each some 0 (new 0x10 (2 ∷ 1 ∷ 2 ∷ []) ∷ new 0x10 (255 ∷ []) ∷ new 0x11 (31 ∷ []) ∷ new 0x11 (32 ∷ [])
      ∷ new 0x12 (2 ∷ 0 ∷ 1 ∷ 0x7A ∷ 0 ∷ 251 ∷ []) ∷ new 0x12 (2 ∷ 0 ∷ 1 ∷ 0x7A ∷ 0 ∷ 250 ∷ []) ∷ new 0x12 (2 ∷ 0 ∷ 1 ∷ 0x7A ∷ 0 ∷ 1 ∷ 0x80 ∷ []) ∷ []) ≡
      (refused_at 8 11 ∷ cut 10 ∷ cut 10 ∷ refused_at 10 9 ∷ refused_at 10 13 ∷ cut 15 ∷ refused_at 9 15 ∷ [])
  -- "String Array, all empty | 127 elements | 128"
  empty_strings : each some 0 (new 0x12 (127 ∷ replicate 254 0) ∷ new 0x12 (128 ∷ replicate 256 0) ∷ []) ≡ (Done ∷ refused_at 10 264 ∷ [])
  -- of an update's ID, and of its value by the stored type
  update_rules : each full 0 ((0x11 ∷ 0 ∷ 2 ∷ []) ∷ (0x11 ∷ 1 ∷ 0 ∷ []) ∷ update_bytes 0 6 (2 ∷ []) ∷ update_bytes 1 301 (0 ∷ 255 ∷ []) ∷ update_bytes 1 301 (0 ∷ 1 ∷ 0x80 ∷ [])
      ∷ update_bytes 1 301 (0 ∷ 1 ∷ []) ∷ update_bytes 1 301 (0 ∷ []) ∷ update_bytes 1 301 (0 ∷ 1 ∷ 0x7A ∷ []) ∷ update_bytes 1 298 (0 ∷ 0 ∷ []) ∷ []) ≡
      (refused_at 6 1 ∷ refused_at 6 1 ∷ refused_at 8 5 ∷ refused_at 10 5 ∷ refused_at 9 7 ∷ cut 7 ∷ cut 5 ∷ Applied 1 ∷ Older 2 ∷ [])
  -- two that fail: the value before the name, and the number
  earlier : each full 0 (new 0 (2 ∷ []) ∷ (0x10 ∷ 0 ∷ 1 ∷ 0x61 ∷ 0 ∷ 0 ∷ 0 ∷ 0 ∷ 9 ∷ 1 ∷ []) ∷ (0x10 ∷ 0 ∷ 1 ∷ 0x61 ∷ 0 ∷ 255 ∷ 255 ∷ 0 ∷ 9 ∷ 2 ∷ []) ∷ update_bytes 0 4 (2 ∷ []) ∷ []) ≡
      (refused_at 8 9 ∷ refused_at 5 5 ∷ refused_at 8 9 ∷ refused_at 8 5 ∷ [])
  -- "Then duplicate .. (16), table full (11)": a held name in a full table, with another type too; a new one there, and where there is room
  names : each full 0 (named 0x61 ∷ named 0x62 ∷ named 0x63 ∷ []) ≡ (NameHeld 0 ∷ NameHeld 1 ∷ refused_at 11 0 ∷ [])
  names_with_room : each some 0 (named 0x61 ∷ named 0x62 ∷ []) ≡ (NameHeld 0 ∷ Done ∷ [])
  -- 01's table of comparisons, P1 to P10
  comparisons : (numbered 1 2 ∷ numbered 1 1 ∷ numbered 5 4 ∷ numbered 65535 0 ∷ numbered 0 65535
      ∷ numbered 0 32767 ∷ numbered 0 32768 ∷ numbered 32768 0 ∷ numbered 65535 32766 ∷ numbered 65535 32767 ∷ []) ≡
      (Applied 1 ∷ Equal ∷ Older 1 ∷ Applied 1 ∷ Older 1 ∷ Applied 32767 ∷ Undefined ∷ Undefined ∷ Applied 32767 ∷ Undefined ∷ [])
  -- both sides of the half range, each way and across the wrap
  distances : (numbered 0 32769 ∷ numbered 32769 0 ∷ numbered 32767 0 ∷ numbered 65535 32768 ∷ numbered 32768 65535 ∷ numbered 32766 65535 ∷ numbered 40000 10000 ∷ numbered 10000 40000 ∷ []) ≡
      (Older 32767 ∷ Applied 32767 ∷ Older 32767 ∷ Older 32767 ∷ Applied 32767 ∷ Older 32767 ∷ Older 30000 ∷ Applied 30000 ∷ [])
  -- "the number that goes with the reason"
  numbers : (number_of (refused_at 7 4) ∷ number_of KeepAlive ∷ number_of (NameHeld 3) ∷ number_of Equal ∷ number_of (Older 3) ∷ number_of Undefined ∷ number_of (Applied 3)
      ∷ number_of Done ∷ []) ≡ (7 ∷ 16 ∷ 16 ∷ 16 ∷ 16 ∷ 16 ∷ 0 ∷ 0 ∷ [])

computed : Computed
unfolding each cuts numbered pick decode16 encode16 overwrite_at bytes_equal after_first after_byte utf8_from is_utf8 parse_text known_type parse_boolean parse_double parse_element count_fits elements parse_array parse_value parse_lone update_bytes holder name_held names_differ entry_at tabulate entries_of default_entry heads_with_entry bytes_with_entry store_entry all_below sound_entry large_enough sound_table sound_marks text_checks element_checks element_size elements_checks array_checks value_checks assignment_checks number_checks update_checks from_client state_allows behind_kind checks first_failing when_passed why
computed =
    record {
      memory = refl;
      connection = refl;
      kinds_greeted = refl;
      kinds_open = refl;
      hellos = refl;
      cut_assignment = refl;
      cut_update = refl;
      cut_boolean = refl;
      cut_double = refl;
      cut_booleans = refl;
      cut_doubles = refl;
      cut_strings = refl;
      rules = refl;
      array_rules = refl;
      empty_strings = refl;
      update_rules = refl;
      earlier = refl;
      names = refl;
      names_with_room = refl;
      comparisons = refl;
      distances = refl;
      numbers = refl;
    }
