-- Laws of the record at the start of some bytes.
use Rattle.std.proofs.Common.{◌≡◌, refl, sym, true, false, List, ℕ, ◌+◌, ◌-◌, ◌≤◌, ◌<◌, arith, length, take, drop, get_or, Ok, Err, le-leb, Bool, ◌⊎◌, inl, inr}
use mathlib.Core.Bool.{and-eq-true_iff}
use lib.Dec.{leb}
use native.Mathlib.Decide.{dec_lt}
use borrow.Author.Tests.{lt-leb, leb-true, ne_eqb}
use Rattle.field.specs.Answer.{incomplete, unknown_kind}
use Rattle.field.specs.Choice.{pick}
use Rattle.field.specs.declared.Refusal.{Refusal}
use Rattle.field.specs.declared.Refusal.TheVariants.{UnknownKind}
use Rattle.line_record.specs.Record.{opens, leaves, came, refused_record, found, opens_kind, leaves_kind, least_data_kind, most_data_kind, data_kind_base, plant_connection, record_head_size, max_arrived, is_data, known_kind, data_size, known_connection, record_of, next_record}
use Rattle.replay.specs.declared.Kind.{Kind}
use Rattle.replay.specs.declared.Kind.TheVariants as K
use Rattle.replay.specs.Kinds.{IsKindOf, kind_data}

-- ---- kinds

-- "Kinds 64 to 127"
pub data_kind : (kind : ℕ) → is_data kind ≡ true → (least_data_kind ≤ kind) × (kind ≤ most_data_kind)
data_kind kind h =
    let both = (and-eq-true_iff (leb least_data_kind kind) (leb kind most_data_kind)).0 h in
    (leb-true least_data_kind kind both.0, leb-true kind most_data_kind both.1)

pub is_data_kind : (kind : ℕ) → least_data_kind ≤ kind → kind ≤ most_data_kind → is_data kind ≡ true
is_data_kind kind a b = rw (le-leb least_data_kind kind a, le-leb kind most_data_kind b)

not_data : (kind : ℕ) → (least_data_kind ≤ kind → most_data_kind < kind) → is_data kind ≡ false
not_data kind h = elim (dec_lt kind least_data_kind) [
  | yes l ↦ rw (lt-leb least_data_kind kind l)
  | no l ↦ rw (le-leb least_data_kind kind (omega (arith, l)), lt-leb kind most_data_kind (h (omega (arith, l))))
]

pub not_known : (kind : ℕ) → (kind ≡ opens_kind → ⊥) → (kind ≡ leaves_kind → ⊥) → (least_data_kind ≤ kind → most_data_kind < kind) → known_kind kind ≡ false
unfolding known_kind
not_known kind a b h = rw (ne_eqb kind opens_kind a, ne_eqb kind leaves_kind b, not_data kind h)

bool_cases : (b : Bool) → (b ≡ true) ⊎ (b ≡ false)
bool_cases true = inl refl
bool_cases false = inr refl

known_data : (kind : ℕ) → is_data kind ≡ true → known_kind kind ≡ true
unfolding known_kind
known_data kind h = let k = data_kind kind h in rw (ne_eqb kind opens_kind (λ e. omega (arith, e, k.0)), ne_eqb kind leaves_kind (λ e. omega (arith, e, k.0)), h)

pub known_of : {byte : ℕ} {kind : Kind} → IsKindOf byte (Ok kind) → known_kind byte ≡ true
unfolding known_kind
known_of IsKindOf.opening = refl
known_of IsKindOf.leaving = refl
known_of {byte = byte} (IsKindOf.bytes h) = known_data byte h

pub opens_of : {byte : ℕ} → IsKindOf byte (Ok K.Opens) → byte ≡ opens_kind
opens_of IsKindOf.opening = refl

pub leaves_of : {byte : ℕ} → IsKindOf byte (Ok K.Leaves) → byte ≡ leaves_kind
leaves_of IsKindOf.leaving = refl

pub data_of : {byte size : ℕ} → IsKindOf byte (Ok (K.Data size)) → (is_data byte ≡ true) × (size ≡ byte - data_kind_base)
data_of (IsKindOf.bytes h) = (h, refl)

pub unknown_of : {byte : ℕ} {refusal : Refusal} → IsKindOf byte (Err refusal) → (refusal ≡ UnknownKind) × (known_kind byte ≡ false)
unknown_of (IsKindOf.unknown h) = (refl, h)

pub size_is : (byte : ℕ) → is_data byte ≡ true → data_size byte ≡ byte - data_kind_base
unfolding data_size pick
size_is byte h = rw h

pub kind_size : {byte : ℕ} {kind : Kind} → IsKindOf byte (Ok kind) → kind_data kind ≡ data_size byte
unfolding data_size pick
kind_size IsKindOf.opening = refl
kind_size IsKindOf.leaving = refl
kind_size {byte = byte} (IsKindOf.bytes h) = sym (size_is byte h)

pub no_data : (byte : ℕ) → known_kind byte ≡ false → data_size byte ≡ 0
unfolding data_size pick known_kind
no_data byte h = elim (bool_cases (is_data byte)) [
  | inl d ↦ absurd (let k = known_data byte d in cc)
  | inr n ↦ rw n
]

pub few_data : (byte : ℕ) → data_size byte ≤ max_arrived
unfolding data_size pick
few_data byte = elim (bool_cases (is_data byte)) [
  | inl d ↦ (let k = data_kind byte d in rw d (omega (arith, k.1)))
  | inr n ↦ rw n (omega arith)
]

-- ---- reading

pub read_short : (s : List ℕ) → length s < 1 → refused_record incomplete ≡ next_record s
unfolding next_record pick
read_short s h = rw (lt-leb 1 (length s) h)

module _ (s : List ℕ) (byte : ℕ) (one : 1 ≤ length s) (k : byte ≡ get_or s 0 0) where
  pub read_unknown : known_kind byte ≡ false → refused_record unknown_kind ≡ next_record s
  unfolding next_record pick
  read_unknown u = rw (le-leb 1 (length s) one, ← k, u)

  pub read_cut : known_kind byte ≡ true → length s < record_head_size → refused_record incomplete ≡ next_record s
  unfolding next_record pick
  read_cut known h = rw (le-leb 1 (length s) one, ← k, known, lt-leb record_head_size (length s) h)

  module _ (c : ℕ) (two : record_head_size ≤ length s) (e : c ≡ get_or s 1 0) where
    pub read_opens : byte ≡ opens_kind → found (opens c) record_head_size ≡ next_record s
    unfolding next_record known_kind known_connection data_size record_of pick
    read_opens b = rw (le-leb 1 (length s) one, ← k, b, le-leb record_head_size (length s) two, ← e)

    pub read_leaves : byte ≡ leaves_kind → found (leaves c) record_head_size ≡ next_record s
    unfolding next_record known_kind known_connection data_size record_of pick
    read_leaves b = rw (le-leb 1 (length s) one, ← k, b, le-leb record_head_size (length s) two, ← e)

    module _ (d : is_data byte ≡ true) where
      pub read_other : plant_connection < c → refused_record unknown_kind ≡ next_record s
      unfolding next_record known_connection pick
      read_other h = rw (le-leb 1 (length s) one, ← k, known_data byte d, le-leb record_head_size (length s) two, ← e, d, lt-leb c plant_connection h)

      pub read_part : c ≤ plant_connection → length s < record_head_size + (byte - data_kind_base) → refused_record incomplete ≡ next_record s
      unfolding next_record known_connection pick
      read_part h short =
          rw (le-leb 1 (length s) one, ← k, known_data byte d, le-leb record_head_size (length s) two, ← e, size_is byte d, d, le-leb c plant_connection h, lt-leb (record_head_size + (byte - data_kind_base)) (length s) short)

      pub read_found : c ≤ plant_connection → record_head_size + (byte - data_kind_base) ≤ length s
          → found (came c (take (byte - data_kind_base) (drop record_head_size s))) (record_head_size + (byte - data_kind_base)) ≡ next_record s
      unfolding next_record known_connection record_of pick
      read_found h there =
          let l = data_kind byte d in
          rw (le-leb 1 (length s) one, ← k, known_data byte d, le-leb record_head_size (length s) two, ← e, size_is byte d, d, le-leb c plant_connection h, le-leb (record_head_size + (byte - data_kind_base)) (length s) there, ne_eqb byte opens_kind (λ z. omega (arith, z, l.0)), ne_eqb byte leaves_kind (λ z. omega (arith, z, l.0)))
