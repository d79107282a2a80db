-- A message's fields as the C struct has them: a field that an answer does not use is 0.
use Rattle.message.specs.Read.{Reading}
use Rattle.std.specs.Prelude.{ℕ, Ok, Err}
use Rattle.field.specs.Place.{WithPlace}
use Rattle.message.specs.Layout.{keep_alive_kind, hello_kind, unsupported_kind, hello_complete_kind, assignment_kind, update_kind}
use Rattle.message.specs.Reader.{number_of, taken_of, place_of}
use Rattle.message.specs.declared.Decoded.TheVariants as D
use Rattle.fields.specs.declared.Fields.{Fields}

-- the answer's number, the message's fields, and the bytes taken
pub record MessageFields : Type 0 where
  pub number : ℕ
  pub kind : ℕ
  pub type : ℕ
  pub revision : ℕ
  pub id : ℕ
  pub entry_number : ℕ
  pub taken : ℕ
  pub name_length : ℕ
  pub value_length : ℕ

abbrev pub fields : (number kind type revision id entry_number taken name_length value_length : ℕ) → MessageFields
fields number kind type revision id entry_number taken name_length value_length =
    record {
      number = number;
      kind = kind;
      type = type;
      revision = revision;
      id = id;
      entry_number = entry_number;
      taken = taken;
      name_length = name_length;
      value_length = value_length;
    }

-- of a message with no entry in it
abbrev pub lone_fields : Reading → ℕ → ℕ → MessageFields
lone_fields d kind revision = fields (number_of d) kind 0 revision 0 0 (taken_of d) 0 0

-- with a refusal every field but the number is 0, and so is an update's type, since the message carries none
abbrev pub fields_of : Reading → MessageFields
fields_of (Err fault) = fields (number_of (Err fault)) 0 0 0 0 0 0 0 0
fields_of (Ok D.KeepAlive) = lone_fields (Ok D.KeepAlive) keep_alive_kind 0
fields_of (Ok (D.Hello revision)) = lone_fields (Ok (D.Hello revision)) hello_kind revision
fields_of (Ok (D.Unsupported revision)) = lone_fields (Ok (D.Unsupported revision)) unsupported_kind revision
fields_of (Ok D.HelloComplete) = lone_fields (Ok D.HelloComplete) hello_complete_kind 0
fields_of (Ok (D.Assignment read)) =
    let d : Reading = Ok (D.Assignment read) in
    fields (number_of d) assignment_kind read.type_code 0 read.id read.number (taken_of d) read.name_length read.value_length
fields_of (Ok (D.Update read)) =
    let d : Reading = Ok (D.Update read) in
    fields (number_of d) update_kind 0 0 read.id read.number (taken_of d) 0 read.value_length

-- with the place of the field that failed
abbrev pub fields_with_place : Reading → WithPlace MessageFields
fields_with_place d = record { result = fields_of d; place = place_of d }

-- what C's struct holds
abbrev pub fields_in : Fields → WithPlace MessageFields
fields_in r =
    record {
      result =
          fields
          r.number
          r.kind
          r.type_code
          r.revision
          r.id
          r.entry_number
          r.taken
          r.name_length
          r.value_length;
      place = r.place;
    }
