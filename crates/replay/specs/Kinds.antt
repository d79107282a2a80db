-- The kinds of records as an enum, by their bytes.
use Rattle.std.specs.Prelude.{ℕ, ◌-◌, Result, Ok, Err, ◌≡◌, true, false}
use Rattle.field.specs.declared.Refusal.{Refusal}
use Rattle.field.specs.declared.Refusal.TheVariants.{UnknownKind}
use Rattle.line_record.specs.Record.{opens_kind, leaves_kind, is_data, known_kind, data_kind_base}
use Rattle.replay.specs.declared.Kind.{Kind}
use Rattle.replay.specs.declared.Kind.TheVariants as K

-- what a byte is read as: the kind that has it, and "4 for an unknown kind" where there is none
pub data IsKindOf : ℕ → Result Kind Refusal → Type 0 where
  opening : IsKindOf opens_kind (Ok K.Opens)
  leaving : IsKindOf leaves_kind (Ok K.Leaves)
  bytes : {byte : ℕ} → is_data byte ≡ true → IsKindOf byte (Ok (K.Data (byte - data_kind_base)))
  unknown : {byte : ℕ} → known_kind byte ≡ false → IsKindOf byte (Err UnknownKind)

-- how many bytes came in
abbrev pub kind_data : Kind → ℕ
kind_data K.Opens = 0
kind_data K.Leaves = 0
kind_data (K.Data size) = size
