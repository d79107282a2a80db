-- Laws of kinds and their bytes.
use Rattle.std.proofs.Common.{◌≡◌, refl, ℕ, List, length, Ok, Err}
use mathlib.Core.Logic.{◌≢◌}
use borrow.Author.Tests.{le-leb, ne_eqb}
use Rattle.field.specs.Choice.{pick}
use Rattle.field.specs.Field.{fault_at, octet_at}
use Rattle.field.specs.Refusal.{refusal_number}
use Rattle.field.specs.declared.Refusal.{Refusal}
use Rattle.field.specs.declared.Refusal.TheVariants.{UnknownKind}
use Rattle.field.proofs.FieldLaws.{octet_there}
use Rattle.message.specs.Kinds.{kind_byte, IsKindOf}
use Rattle.message.specs.Reader.{parse_by_kind, parse_message}
use Rattle.message.specs.declared.Kind.{Kind}
use Rattle.message.specs.declared.Kind.TheVariants as K

-- no other byte is a kind's
pub unknown_byte : (byte : ℕ) → byte ≢ 0x00 → byte ≢ 0x01 → byte ≢ 0x02 → byte ≢ 0x03 → byte ≢ 0x10 → byte ≢ 0x11 → IsKindOf byte (Err UnknownKind)
unknown_byte byte a b c d e f = IsKindOf.unknown go
  where
    go : (kind : Kind) → byte ≢ kind_byte kind
    go K.KeepAlive = a
    go K.Hello = b
    go K.Unsupported = c
    go K.HelloComplete = d
    go K.Assignment = e
    go K.Update = f

pub byte_of : {byte : ℕ} {kind : Kind} → IsKindOf byte (Ok kind) → byte ≡ kind_byte kind
byte_of (IsKindOf.known kind) = refl

pub unknown_of : {byte : ℕ} {refusal : Refusal} → IsKindOf byte (Err refusal) → (refusal ≡ UnknownKind) × ((kind : Kind) → byte ≢ kind_byte kind)
unknown_of (IsKindOf.unknown h) = (refl, h)

-- ---- a message by its first byte

pub kind_read : (update_type byte : ℕ) (m : List ℕ) (kind : Kind) → Ok byte ≡ octet_at m 0 → IsKindOf byte (Ok kind)
    → parse_by_kind (kind_byte kind) update_type m ≡ parse_message update_type m
unfolding parse_message pick
kind_read update_type byte m kind there is =
    let h = octet_there m 0 byte there in
    rw (le-leb 1 (length m) h.0, ← h.1, byte_of is) refl

pub unknown_read : (update_type byte : ℕ) (m : List ℕ) (refusal : Refusal) → Ok byte ≡ octet_at m 0 → IsKindOf byte (Err refusal)
    → Err (fault_at (refusal_number refusal) 0) ≡ parse_message update_type m
unfolding parse_message parse_by_kind pick
unknown_read update_type byte m refusal there is =
    let h = octet_there m 0 byte there in
    let u = unknown_of is in
    let other = u.1 in
    rw (
      le-leb 1 (length m) h.0,
      ← h.1,
      u.0,
      ne_eqb _ _ (other K.KeepAlive),
      ne_eqb _ _ (other K.Hello),
      ne_eqb _ _ (other K.Unsupported),
      ne_eqb _ _ (other K.HelloComplete),
      ne_eqb _ _ (other K.Assignment),
      ne_eqb _ _ (other K.Update),
    ) refl
