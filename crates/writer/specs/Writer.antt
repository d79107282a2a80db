-- "The message writer takes fields and checks kind (4), name, type, value, room (12); fields that the kind lacks are not looked at."
use Rattle.std.specs.Prelude.{ℕ, ◌≤◌, List, [], length, leb, eqb, Err, Ok}
use Rattle.field.specs.Answer.{done, unknown_kind, not_utf8, too_long, output_too_short}
use Rattle.field.specs.Choice.{pick, demand}
use Rattle.field.specs.Octets.{overwrite_at}
use Rattle.field.specs.Field.{fault_at, and_then, Parsed}
use Rattle.field.specs.Place.{reported_place, WithPlace}
use Rattle.field.specs.declared.Fault.{Fault}
use Rattle.answer.specs.declared.Answer.{Answer}
use Rattle.utf8.specs.Utf8.{is_utf8}
use Rattle.value.specs.Value.{parse_lone}
use Rattle.message.specs.Layout.{Entry, Message, keep_alive, hello, unsupported, hello_complete, assignment, update, layout, max_name_length, keep_alive_kind, hello_kind, unsupported_kind, hello_complete_kind, assignment_kind, update_kind}

-- the fields that are given; "An update's type is given to it; name and value are lent as for a local call"
pub record Fields : Type 0 where
  pub kind : ℕ
  pub revision : ℕ
  pub name : List ℕ
  pub type : ℕ
  pub id : ℕ
  pub number : ℕ
  pub value : List ℕ

-- the same with name and value as they are lent
abbrev pub lent_fields : (kind revision : ℕ) → List ℕ → (type id number : ℕ) → List ℕ → Fields
lent_fields kind revision name type id number value =
    record { kind = kind; revision = revision; name = name; type = type; id = id; number = number; value = value }

-- the entry that the fields of an assignment make
abbrev pub given_entry : Fields → Entry
given_entry f = record { name = f.name; type = f.type; number = f.number; value = f.value }

-- "A local name is lent without a prefix": 10, then 9
unfoldable pub check_name : List ℕ → Parsed
check_name name =
    demand (leb (length name) max_name_length) (Err (fault_at too_long 0))
    (demand (is_utf8 name) (Err (fault_at not_utf8 0))
    (Ok (length name)))

-- the fields' message, or the refusal of the first check that fails
pub data Checked : Type 0 where
  refused : Fault → Checked
  allowed : Message → Checked

-- name (10, then 9), type (7), value
unfoldable pub check_assignment : ℕ → Entry → Checked
check_assignment id e =
    and_then refused (check_name e.name) (λ _.
    and_then refused (parse_lone e.type e.value) (λ _.
    allowed (assignment id e)))

-- type (7), value
unfoldable pub check_update : (id number type : ℕ) → List ℕ → Checked
check_update id number type value = and_then refused (parse_lone type value) (λ _. allowed (update id number value))

-- kind (4), and the fields that it has
unfoldable pub check_by_kind : ℕ → Fields → Checked
check_by_kind kind f =
    pick (eqb kind keep_alive_kind) (allowed keep_alive)
    (pick (eqb kind hello_kind) (allowed (hello f.revision))
    (pick (eqb kind unsupported_kind) (allowed (unsupported f.revision))
    (pick (eqb kind hello_complete_kind) (allowed hello_complete)
    (pick (eqb kind assignment_kind) (check_assignment f.id (given_entry f))
    (pick (eqb kind update_kind) (check_update f.id f.number f.type f.value)
    (refused (fault_at unknown_kind 0)))))))

abbrev pub check : Fields → Checked
check f = check_by_kind f.kind f

-- how many bytes the message needs, or the refusal
abbrev pub needed_for : Checked → Parsed
needed_for (refused fault) = Err fault
needed_for (allowed m) = Ok (length (layout m))

abbrev pub bytes_of : Checked → List ℕ
bytes_of (refused fault) = []
bytes_of (allowed m) = layout m

-- the fields are allowed, and their message has room, as an inner function requires it
pub data Ready (room : ℕ) : Checked → Type 0 where
  ready : {m : Message} → length (layout m) ≤ room → Ready room (allowed m)

-- number, taken, sent and recipients; the output afterwards
pub record WriteResult : Type 0 where
  pub number : ℕ
  pub taken : ℕ
  pub sent : ℕ
  pub recipients : ℕ
  pub output : List ℕ

-- "A refusal (1 to 14) reports 0 bytes taken, 0 sent and no recipients, and changes no lent memory."
abbrev pub refusal : (number : ℕ) → List ℕ → WriteResult
refusal number out = record { number = number; taken = 0; sent = 0; recipients = 0; output = out }

-- "With 0 the first "sent" bytes of the output are the messages and the rest is unchanged"; "the message writer take 0"
abbrev pub sending : Message → List ℕ → WriteResult
sending m out = record { number = done; taken = 0; sent = length (layout m); recipients = 0; output = overwrite_at out 0 (layout m) }

-- what the checks come to, and "last the output room (12), given exactly when the output is shorter than what would be sent"
abbrev pub write_result : Checked → List ℕ → WriteResult
write_result (refused fault) out = refusal fault.number out
write_result (allowed m) out = demand (leb (length (layout m)) (length out)) (refusal output_too_short out) (sending m out)

-- the place of the field that failed, as the answer tells it: counted from the start of the name or value lent
abbrev pub place_of : Checked → ℕ
place_of (refused fault) = reported_place fault
place_of (allowed m) = 0

abbrev pub write_with_place : Checked → List ℕ → WithPlace WriteResult
write_with_place c out = record { result = write_result c out; place = place_of c }

-- an answer, with the output as the call leaves it
abbrev pub written : Answer → List ℕ → WithPlace WriteResult
written a out =
    record {
      result = record { number = a.number; taken = a.taken; sent = a.sent; recipients = a.recipients; output = out };
      place = a.place;
    }
