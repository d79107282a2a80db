-- "Connection 16 is the plant's own code": what its bytes ask for.
use Rattle.std.specs.Prelude.{ℕ, List, get_or, eqb, Ok, Err}
use Rattle.field.specs.Answer.{incomplete, unknown_kind, wrong_id}
use Rattle.field.specs.Choice.{pick}
use Rattle.field.specs.Field.{demand_bytes}
use Rattle.message.specs.Layout.{Entry, kind_size, assignment_kind, update_kind}
use Rattle.message.specs.Read.{AssignmentRead, UpdateRead}
use Rattle.message.specs.Reader.{id_allowed, parse_assignment, name_in, value_in, update_value_in, assignment_length, update_length}
use Rattle.message.specs.declared.AllowedId.TheVariants.{Only}
use Rattle.table.specs.Table.{parse_held_update}
use Rattle.protocol.specs.Judge.{Call, local_create, local_write, new_id}

-- a refusal without a call, or a local call that the first size bytes ask for
pub data PlantMessage : Type 0 where
  refused_message : (number : ℕ) → PlantMessage
  asks : Call → (size : ℕ) → PlantMessage

-- "A local message that is neither form is a refused message, with 4 at its kind or ID"
abbrev pub plant_number : (number : ℕ) → ℕ
plant_number number = pick (eqb number wrong_id) unknown_kind number

-- "an assignment with ID 0xFFFF is a local create", "its number unused"
abbrev pub plant_create : List ℕ → AssignmentRead → PlantMessage
plant_create m (Err fault) = refused_message (plant_number fault.number)
plant_create m (Ok read) =
    asks (local_create (name_in read.name_length m) read.type_code (value_in read.name_length read.value_length m)) (assignment_length read.name_length read.value_length)

-- "an update a local write, its number unused"
abbrev pub plant_write : List ℕ → UpdateRead → PlantMessage
plant_write m (Err fault) = refused_message fault.number
plant_write m (Ok read) = asks (local_write read.id (update_value_in read.value_length m)) (update_length read.value_length)

unfoldable pub plant_message : List Entry → List ℕ → PlantMessage
plant_message es m =
    demand_bytes kind_size m (refused_message incomplete)
    (pick (eqb (get_or m 0 0) assignment_kind) (plant_create m (parse_assignment (id_allowed (Only new_id)) m))
    (pick (eqb (get_or m 0 0) update_kind) (plant_write m (parse_held_update es m))
    (refused_message unknown_kind)))
