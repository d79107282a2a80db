-- The place of a refusal of what begins at a place of a message: it is within the message, or at that place.
use Rattle.std.proofs.Common.{ℕ, ◌+◌, ◌<◌, ◌^◌, List, length, drop, arith, length-drop}
use Rattle.field.specs.Field.{fault_of}
use Rattle.text.specs.Text.{parse_text}
use Rattle.text.proofs.TextLaws.{text_place}
use Rattle.value.specs.Value.{parse_value}
use Rattle.value.proofs.ValueLaws.{value_place_lem}

pub text_fits : (max_size at : ℕ) (m : List ℕ) → length m < 2 ^ 64 → at < 2 ^ 64 → at + (fault_of (parse_text max_size 0 (drop at m))).place < 2 ^ 64
text_fits max_size at m l h = omega (arith, text_place max_size 0 (drop at m), length-drop at m)

pub value_fits : (t at : ℕ) (m : List ℕ) → length m < 2 ^ 64 → at < 2 ^ 64 → at + (fault_of (parse_value t (drop at m))).place < 2 ^ 64
value_fits t at m l h = omega (arith, value_place_lem t (drop at m), length-drop at m)
