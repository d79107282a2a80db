-- "the reason named is true of this message": what must be so, for each reason. Proved in proofs/HoldsLaws.antt and proofs/OnlyLaws.antt.
use Rattle.std.specs.Prelude.{ℕ, ◌+◌, ◌≤◌, ◌<◌, false, ◌&&◌, List, ◌≡◌, ◌≢◌, length, get_or}
use Rattle.field.specs.Answer.{incomplete, connection_too_high, wrong_state, unknown_kind, table_full, unsound}
use Rattle.sequence.specs.SequenceNumber.{modulus, half, distance}
use Rattle.message.specs.Layout.{Entry, Message, keep_alive, hello, assignment, update, keep_alive_kind, hello_kind, assignment_kind, update_kind, kind_size, revision_length}
use Rattle.message.specs.Reader.{Bytes}
use Rattle.table.specs.Names.{name_held}
use Rattle.table.specs.Table.{default_entry, entries_of}
use Rattle.soundness.specs.Sound.{sound_table, sound_marks, connections, closed, open', greeted}
use Rattle.places.specs.MessageFails.{MessageFailsAt}
use Rattle.places.specs.PlaceTells.{client_ids}
use Rattle.protocol.specs.Judge.{new_id}
use Rattle.protocol.specs.Step.{ServerMemory}
use Rattle.protocol.specs.Kept.{SoundMemory}
use Rattle.protocol.specs.Taken.{StandsFirst, StateAllows}
use Rattle.reason.specs.Reason.{refused_at}
use Rattle.reason.specs.Why.{why}
use Rattle.reason.specs.declared.Reason.{Reason}
use Rattle.reason.specs.declared.Reason.TheVariants.{KeepAlive, NameHeld, Equal, Older, Undefined, Applied, Done}

-- the table and the marks are sound, and the connection is one
pub record Reached (limit : ℕ) (mem : ServerMemory) (c : ℕ) : Type 0 where
  pub sound : SoundMemory limit mem
  pub connection : c < connections

-- a message stands first, of a connection whose state allows it
pub record Stands (limit : ℕ) (mem : ServerMemory) (c : ℕ) (m : List ℕ) (x : Message) : Type 0 where
  pub reached : Reached limit mem c
  pub first : StandsFirst (entries_of mem.table) m x
  pub state : StateAllows (get_or mem.marks c 0) x

-- an update of a held ID does
pub record UpdateStands (limit : ℕ) (mem : ServerMemory) (c : ℕ) (m : List ℕ) : Type 0 where
  pub id : ℕ
  pub received : ℕ
  pub value : List ℕ
  pub stands : Stands limit mem c m (update id received value)

-- the number of the entry that has the ID
abbrev pub stored : {limit : ℕ} {mem : ServerMemory} {c : ℕ} {m : List ℕ} → UpdateStands limit mem c m → ℕ
stored {mem = mem} u = (get_or (entries_of mem.table) u.id default_entry).number

-- an assignment does, whose name no entry has
pub record NewNameStands (limit : ℕ) (mem : ServerMemory) (c : ℕ) (m : List ℕ) : Type 0 where
  pub entry : Entry
  pub stands : Stands limit mem c m (assignment new_id entry)
  pub new : name_held entry.name (entries_of mem.table) ≡ false

pub data HoldsOf (limit : ℕ) (mem : ServerMemory) (c : ℕ) (m : List ℕ) : Reason → Type 0 where
  -- "lent table unsound or too small"
  unsound_memory : (sound_table limit mem.table && sound_marks mem.marks) ≡ false → HoldsOf limit mem c m (refused_at unsound 0)
  -- "connection number above 15"
  no_connection : SoundMemory limit mem → connections ≤ c → HoldsOf limit mem c m (refused_at connection_too_high 0)
  -- "connection state does not allow this": it is closed; or "Hello: open connections only", "greeted only"
  connection_closed : Reached limit mem c → get_or mem.marks c 0 ≡ closed → HoldsOf limit mem c m (refused_at wrong_state 0)
  hello_not_open : Reached limit mem c → get_or m 0 0 ≡ hello_kind → get_or mem.marks c 0 ≢ open' → HoldsOf limit mem c m (refused_at wrong_state 0)
  assignment_not_greeted : Reached limit mem c → get_or m 0 0 ≡ assignment_kind → get_or mem.marks c 0 ≢ greeted → HoldsOf limit mem c m (refused_at wrong_state 0)
  update_not_greeted : Reached limit mem c → get_or m 0 0 ≡ update_kind → get_or mem.marks c 0 ≢ greeted → HoldsOf limit mem c m (refused_at wrong_state 0)
  -- the kind, and a hello's revision
  no_kind : Reached limit mem c → get_or mem.marks c 0 ≢ closed → length m < kind_size → HoldsOf limit mem c m (refused_at incomplete 0)
  kind_unknown : Reached limit mem c → get_or mem.marks c 0 ≢ closed → kind_size ≤ length m
      → get_or m 0 0 ≢ keep_alive_kind → get_or m 0 0 ≢ hello_kind → get_or m 0 0 ≢ assignment_kind → get_or m 0 0 ≢ update_kind → HoldsOf limit mem c m (refused_at unknown_kind 0)
  cut_revision : Reached limit mem c → get_or mem.marks c 0 ≡ open' → get_or m 0 0 ≡ hello_kind → length m < revision_length → HoldsOf limit mem c m (refused_at incomplete kind_size)
  -- the field of an assignment or update that begins at the place is not wholly there, or breaks the rule of the number; what is before it stands
  field_fails : {number place : ℕ} → Reached limit mem c → get_or mem.marks c 0 ≡ greeted → MessageFailsAt (client_ids (entries_of mem.table)) m number place
      → HoldsOf limit mem c m (refused_at number place)
  -- "table full"
  full : NewNameStands limit mem c m → limit ≤ length (entries_of mem.table) → HoldsOf limit mem c m (refused_at table_full 0)
  keep_alive_lem : Stands limit mem c m keep_alive → HoldsOf limit mem c m KeepAlive
  -- "a duplicate name with the holding ID"
  name_held_lem : {id : ℕ} (e : Entry) → Stands limit mem c m (assignment new_id e) → id < length (entries_of mem.table)
      → (get_or (entries_of mem.table) id default_entry).name ≡ e.name → HoldsOf limit mem c m (NameHeld id)
  -- "an update equal, older by a stated distance, undefined at 32,768, or applied with its distance"
  equal : (u : UpdateStands limit mem c m) → distance (stored u) u.received ≡ 0 → HoldsOf limit mem c m Equal
  older : {d : ℕ} (u : UpdateStands limit mem c m) → half < distance (stored u) u.received → distance u.received (stored u) ≡ d
      → HoldsOf limit mem c m (Older d)
  undefined : (u : UpdateStands limit mem c m) → distance (stored u) u.received ≡ half → HoldsOf limit mem c m Undefined
  applied : {d : ℕ} (u : UpdateStands limit mem c m) → distance (stored u) u.received ≡ d → 1 ≤ d → d < half → HoldsOf limit mem c m (Applied d)
  -- "another message done"
  hello_done : (revision : ℕ) → Stands limit mem c m (hello revision) → HoldsOf limit mem c m Done
  assignment_done : NewNameStands limit mem c m → length (entries_of mem.table) < limit → HoldsOf limit mem c m Done

-- for every limit, memory, connection and message the reason that is named holds
abbrev pub ReasonHolds : Type 0
ReasonHolds = (limit : ℕ) (mem : ServerMemory) (c : ℕ) (m : List ℕ) → Bytes m → HoldsOf limit mem c m (why limit mem c m)

-- and it is the only one
abbrev pub OnlyHolds : Type 0
OnlyHolds = (limit : ℕ) (mem : ServerMemory) (c : ℕ) (m : List ℕ) (r : Reason) → HoldsOf limit mem c m r → r ≡ why limit mem c m

-- so two different reasons never both hold
abbrev pub OneReason : Type 0
OneReason = (limit : ℕ) (mem : ServerMemory) (c : ℕ) (m : List ℕ) (r s : Reason) → HoldsOf limit mem c m r → HoldsOf limit mem c m s → r ≡ s

-- what the distances say of two numbers: with 0 they are equal; else those of both ways go once round, so an update that is older is so by 1 to 32,767
pub record BothWays (stored received : ℕ) : Type 0 where
  pub equal : distance stored received ≡ 0 → received ≡ stored
  pub round : distance stored received ≢ 0 → distance stored received + distance received stored ≡ modulus

abbrev pub Distances : Type 0
Distances = (stored received : ℕ) → stored < modulus → received < modulus → BothWays stored received
