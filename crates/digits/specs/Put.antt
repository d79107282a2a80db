-- Text put into a lent buffer.
use Rattle.std.specs.Prelude.{ℕ, ◌+◌, min, List, ◌≡◌, length}
use Rattle.field.specs.Octets.{overwrite_at}
use Rattle.digits.specs.declared.Text.{Text}

-- text is stored in a buffer from a place on, as far as there is room, which gives now; it ends at end, or the buffer does
pub record Put (buffer : List ℕ) (at : ℕ) (text now : List ℕ) (end : ℕ) : Type 0 where
  pub stored : now ≡ overwrite_at buffer at text
  pub ended : end ≡ min (at + length text) (length buffer)

-- a buffer with the text so far, and where that ends
pub record Written : Type 0 where
  pub bytes : List ℕ
  pub end : ℕ

abbrev pub written : Text → Written
written t = record { bytes = t.bytes.now; end = t.end }

-- the same with text behind it, as far as there is room: what `Put` says, as a function
unfoldable pub with_text : Written → List ℕ → Written
with_text w text = record { bytes = overwrite_at w.bytes w.end text; end = min (w.end + length text) (length w.bytes) }

-- a call leaves text behind the text so far, in the buffer that was lent
pub record Puts (old new : Text) (text : List ℕ) : Type 0 where
  pub same : new.bytes.ghost_name ≡ old.bytes.ghost_name
  pub put : written new ≡ with_text (written old) text
