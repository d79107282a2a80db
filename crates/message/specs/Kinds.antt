-- The kinds as an enum, by their bytes.
use Rattle.std.specs.Prelude.{ℕ, ◌≢◌, Result, Ok, Err}
use Rattle.field.specs.declared.Refusal.{Refusal}
use Rattle.field.specs.declared.Refusal.TheVariants.{UnknownKind}
use Rattle.message.specs.Layout.{keep_alive_kind, hello_kind, unsupported_kind, hello_complete_kind, assignment_kind, update_kind}
use Rattle.message.specs.declared.Kind.{Kind}
use Rattle.message.specs.declared.Kind.TheVariants as K

abbrev pub kind_byte : Kind → ℕ
kind_byte K.KeepAlive = keep_alive_kind
kind_byte K.Hello = hello_kind
kind_byte K.Unsupported = unsupported_kind
kind_byte K.HelloComplete = hello_complete_kind
kind_byte K.Assignment = assignment_kind
kind_byte K.Update = update_kind

-- what a byte is read as: the kind that has it, and "message kind unknown" (4) where there is none
pub data IsKindOf : ℕ → Result Kind Refusal → Type 0 where
  known : (kind : Kind) → IsKindOf (kind_byte kind) (Ok kind)
  unknown : {byte : ℕ} → ((kind : Kind) → byte ≢ kind_byte kind) → IsKindOf byte (Err UnknownKind)
