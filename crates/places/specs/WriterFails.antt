-- "counted from the start of the .. name or value lent". Proved in proofs/WriterFailsLaws.antt.
use Rattle.std.specs.Prelude.{ℕ, ◌≤◌, ◌<◌, true, false, List, ◌≡◌, length, Err}
use Rattle.field.specs.Answer.{not_utf8, too_long}
use Rattle.field.specs.Place.{Told}
use Rattle.field.specs.declared.Fault.{Fault}
use Rattle.utf8.specs.Utf8.{is_utf8}
use Rattle.value.specs.Fails.{LoneFailsAt}
use Rattle.message.specs.Layout.{max_name_length, assignment_kind, update_kind}
use Rattle.writer.specs.Writer.{Fields, check_name, check, write_result, place_of}

-- "a text's bytes for 9, a .. lent name for 10": both are the name's first byte, since it "is lent without a prefix"
pub data NameFailsAt (name : List ℕ) : (number place : ℕ) → Type 0 where
  long_name : max_name_length < length name → NameFailsAt name too_long 0
  not_text : length name ≤ max_name_length → is_utf8 name ≡ false → NameFailsAt name not_utf8 0

abbrev pub NameFails : Type 0
NameFails = (name : List ℕ) (fault : Fault) → check_name name ≡ Err fault → NameFailsAt name fault.number fault.place

-- a name that obeys the rules
pub record RightName (name : List ℕ) : Type 0 where
  pub fits : length name ≤ max_name_length
  pub text : is_utf8 name ≡ true

-- name, then type and value, as they are lent to a call
pub data EntryFailsAt (name : List ℕ) (type : ℕ) (value : List ℕ) : (number place : ℕ) → Type 0 where
  in_name : {number place : ℕ} → NameFailsAt name number place → EntryFailsAt name type value number place
  in_value : {number place : ℕ} → RightName name → LoneFailsAt type value number place → EntryFailsAt name type value number place

-- the message writer
pub data FieldsFailAt (f : Fields) : (number place : ℕ) → Type 0 where
  in_assignment : {number place : ℕ} → f.kind ≡ assignment_kind → EntryFailsAt f.name f.type f.value number place → FieldsFailAt f number place
  in_update : {number place : ℕ} → f.kind ≡ update_kind → LoneFailsAt f.type f.value number place → FieldsFailAt f number place

abbrev pub WriterTells : Type 0
WriterTells = (f : Fields) (out : List ℕ) → Told (FieldsFailAt f) (write_result (check f) out).number (place_of (check f))
