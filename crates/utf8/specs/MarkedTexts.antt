-- The marked texts, as one table (bytes, accepted?).
use Rattle.std.specs.Prelude.{ℕ, Bool, true, false, List, [], ◌∷◌, map, ◌≡◌}
use Rattle.utf8.specs.Utf8.{is_utf8}

pub record MarkedText : Type 0 where
  pub bytes : List ℕ
  pub accepted : Bool

abbrev pub row : (bytes : List ℕ) (accepted : Bool) → MarkedText
row bytes accepted = record { bytes = bytes; accepted = accepted }

abbrev pub marked_texts : List MarkedText
marked_texts =
    row (0xF4 ∷ 0x8F ∷ 0xBF ∷ 0xBF ∷ []) true  -- "F4 8F BF BF is accepted."
    ∷ row (0xC0 ∷ 0x80 ∷ []) false  -- "C0 80, ED A0 80 and F4 90 80 80 are refused."
    ∷ row (0xED ∷ 0xA0 ∷ 0x80 ∷ []) false
    ∷ row (0xF4 ∷ 0x90 ∷ 0x80 ∷ 0x80 ∷ []) false
    ∷ row (0x00 ∷ []) true  -- "A zero byte is text."
    ∷ row [] true  -- "An empty name is an ordinary name."
    ∷ []

-- of such a table the texts that are UTF-8 are those said to be
abbrev pub Accepted : List MarkedText → Type 0
Accepted table = map (λ (x : MarkedText). is_utf8 x.bytes) table ≡ map (λ (x : MarkedText). x.accepted) table

abbrev pub MarkedTextsHold : Type 0
MarkedTextsHold = Accepted marked_texts
