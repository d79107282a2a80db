-- Entries, and the six messages as bytes ("Layouts (001)").
use Rattle.std.specs.Prelude.{ℕ, ◌+◌, ◌≤◌, true, List, [], ◌∷◌, ◌++◌, ◌≡◌, length}
use Rattle.field.specs.Octets.{encode16}
use Rattle.utf8.specs.Utf8.{is_utf8}
use Rattle.value.specs.Value.{max_value_size, IsValue}

-- an entry of the table: its value is the encoded bytes, prefix or count included
pub record Entry : Type 0 where
  pub name : List ℕ
  pub type : ℕ
  pub number : ℕ
  pub value : List ℕ

-- kinds: "0x00 keep alive; 0x01 hello, revision (2); 0x02 unsupported, revision (2); 0x03 hello complete; 0x10 assignment: ..; 0x11 update: .."
abbrev pub keep_alive_kind : ℕ
keep_alive_kind = 0x00

abbrev pub hello_kind : ℕ
hello_kind = 0x01

abbrev pub unsupported_kind : ℕ
unsupported_kind = 0x02

abbrev pub hello_complete_kind : ℕ
hello_complete_kind = 0x03

abbrev pub assignment_kind : ℕ
assignment_kind = 0x10

abbrev pub update_kind : ℕ
update_kind = 0x11

-- "names of 0 to 64 bytes"
abbrev pub max_name_length : ℕ
max_name_length = 64

-- how many bytes a kind has, and so where the first field behind it stands
abbrev pub kind_size : ℕ
kind_size = 1

-- how many bytes a kind with a "revision (2)" has
abbrev pub revision_length : ℕ
revision_length = 3

-- where an assignment's name starts: behind its kind and the name's length (2)
abbrev pub assignment_name_start : ℕ
assignment_name_start = 3

-- "name, type (1), ID (2), number (2), value": where the fields behind a name start, counted from its end
abbrev pub id_behind_name : ℕ
id_behind_name = 1

abbrev pub number_behind_name : ℕ
number_behind_name = 3

abbrev pub value_behind_name : ℕ
value_behind_name = 5

-- what an assignment has beside its name and value
abbrev pub assignment_fixed : ℕ
assignment_fixed = 8

-- "update: ID (2), number (2), value": where the number and the value start
abbrev pub update_number_start : ℕ
update_number_start = 3

abbrev pub update_value_start : ℕ
update_value_start = 5

-- "The longest assignment is 328 bytes, the longest update 261"
abbrev pub longest_assignment : ℕ
longest_assignment = assignment_fixed + max_name_length + max_value_size

abbrev pub longest_update : ℕ
longest_update = update_value_start + max_value_size

-- "assignment: name, type (1), ID (2), number (2), value"; "Names are laid out as Strings"
unfoldable pub assignment_bytes : ℕ → Entry → List ℕ
assignment_bytes id e =
    assignment_kind ∷ (encode16 (length e.name) ++ (e.name ++ (e.type ∷ (encode16 id ++ (encode16 e.number ++ e.value)))))

-- "update: ID (2), number (2), value"
unfoldable pub update_bytes : ℕ → ℕ → List ℕ → List ℕ
update_bytes id number value = update_kind ∷ (encode16 id ++ (encode16 number ++ value))

-- a kind and a revision
unfoldable pub revision_bytes : ℕ → ℕ → List ℕ
revision_bytes kind revision = kind ∷ encode16 revision

pub data Message : Type 0 where
  keep_alive : Message
  hello : (revision : ℕ) → Message
  unsupported : (revision : ℕ) → Message
  hello_complete : Message
  assignment : (id : ℕ) → Entry → Message
  update : (id number : ℕ) (value : List ℕ) → Message

unfoldable pub layout : Message → List ℕ
layout keep_alive = keep_alive_kind ∷ []
layout (hello revision) = revision_bytes hello_kind revision
layout (unsupported revision) = revision_bytes unsupported_kind revision
layout hello_complete = hello_complete_kind ∷ []
layout (assignment id e) = assignment_bytes id e
layout (update id number value) = update_bytes id number value

-- "names and values that obey this paper"
pub record WellFormed (e : Entry) : Type 0 where
  pub name_fits : length e.name ≤ max_name_length
  pub name_text : is_utf8 e.name ≡ true
  pub value_whole : IsValue e.type e.value

-- a message whose name and value obey the rules; an update's type is t
abbrev pub WellFormedMessage : ℕ → Message → Type 0
WellFormedMessage t keep_alive = Unit {0}
WellFormedMessage t (hello revision) = Unit {0}
WellFormedMessage t (unsupported revision) = Unit {0}
WellFormedMessage t hello_complete = Unit {0}
WellFormedMessage t (assignment id e) = WellFormed e
WellFormedMessage t (update id number value) = IsValue t value
