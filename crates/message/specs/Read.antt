-- What reading a message answers: a refusal, or its fields.
use Rattle.std.specs.Prelude.{ℕ, Result, Ok}
use Rattle.field.specs.declared.Fault.{Fault}
use Rattle.message.specs.declared.Assignment.{Assignment}
use Rattle.message.specs.declared.Update.{Update}
use Rattle.message.specs.declared.Decoded.{Decoded}

abbrev pub AssignmentRead : Type 0
AssignmentRead = Result Assignment Fault

abbrev pub UpdateRead : Type 0
UpdateRead = Result Update Fault

abbrev pub Reading : Type 0
Reading = Result Decoded Fault

-- an assignment and an update with these fields
abbrev pub an_assignment : (type id number name_length value_length : ℕ) → AssignmentRead
an_assignment type id number name_length value_length =
    Ok (record { type_code = type; id = id; number = number; name_length = name_length; value_length = value_length })

abbrev pub an_update : (id number value_length : ℕ) → UpdateRead
an_update id number value_length = Ok (record { id = id; number = number; value_length = value_length })
