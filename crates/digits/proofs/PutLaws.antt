-- Laws of text put into a buffer.
use mathlib.Core.Path.{◌≡◌, refl, sym, ap, ◌∙◌}
use mathlib.Core.List.{List, [], ◌∷◌, ◌++◌}
use mathlib.Core.Bool.{Bool, true, false}
use Prim.Native.Nat.{ℕ, ◌+◌, ◌≤◌, ◌<◌, min}
use native.Mathlib.Omega.{arith}
use lib.Dec.{leb}
use borrow.Author.Tests.{leb-true, leb-false}
use native.Mathlib.Numerals.{add-one}
use lib.ListN.{length, take, get_or, length-append}
use lib.Seq.{take-suc}
use Rattle.std.proofs.lemmas.List.{set_past}
use Rattle.field.specs.Octets.{overwrite_at}
use Rattle.field.proofs.OverwriteLaws.{length_overwrite, overwrite_append}
use Rattle.digits.specs.Put.{Put, Puts, Written, written, with_text}
use Rattle.digits.specs.declared.Text.{Text}

-- stores behind the end change nothing
pub overwrite_past : (xs : List ℕ) (at : ℕ) (ys : List ℕ) → length xs ≤ at → overwrite_at xs at ys ≡ xs
unfolding overwrite_at
overwrite_past xs at [] h = refl
overwrite_past xs at (y ∷ ys) h = rw (set_past xs at y h) (overwrite_past xs (at + 1) ys (omega arith))

-- text behind text, where that ends, or where the buffer does
overwrite_next : (xs : List ℕ) (at end : ℕ) (s t : List ℕ) → end ≡ min (at + length s) (length xs)
    → overwrite_at (overwrite_at xs at s) end t ≡ overwrite_at xs at (s ++ t)
overwrite_next xs at end s t e = go (leb (at + length s) (length xs)) refl
  where
    go : (b : Bool) → leb (at + length s) (length xs) ≡ b → overwrite_at (overwrite_at xs at s) end t ≡ overwrite_at xs at (s ++ t)
    go true h =
        let l : at + length s ≤ length xs = leb-true _ _ h in
        overwrite_append xs at s t end (omega arith)
    go false h =
        let l : length xs < at + length s = leb-false _ _ h in
        let within : length (overwrite_at xs at s) ≤ end = simp length_overwrite (omega arith) in
        let beyond : length (overwrite_at xs at s) ≤ at + length s = simp length_overwrite (omega arith) in
        overwrite_past (overwrite_at xs at s) end t within
        ∙ sym (overwrite_past (overwrite_at xs at s) (at + length s) t beyond)
        ∙ overwrite_append xs at s t (at + length s) refl

-- ---- the text so far, and text behind it

pub with_text_next : (w : Written) (s t : List ℕ) → with_text (with_text w s) t ≡ with_text w (s ++ t)
unfolding with_text
with_text_next w s t i = record { bytes = overwrite_next w.bytes w.end _ s t refl i; end = ended i }
  where
    ended : min (min (w.end + length s) (length w.bytes) + length t) (length (overwrite_at w.bytes w.end s)) ≡ min (w.end + length (s ++ t)) (length w.bytes)
    ended = simp (length_overwrite, length-append) (omega arith)

pub puts_next : {a b c : Text} {s t : List ℕ} → Puts a b s → Puts b c t → Puts a c (s ++ t)
puts_next {s = s} {t = t} p q = record { same = q.same ∙ p.same; put = q.put ∙ ap (λ (w : Written). with_text w t) p.put ∙ with_text_next _ s t }

-- one more byte of a run
pub with_text_more : (w : Written) (s : List ℕ) (i : ℕ) → i < length s → with_text (with_text w (take i s)) (get_or s i 0 ∷ []) ≡ with_text w (take (i + 1) s)
with_text_more w s i h = rw (with_text_next, add-one, take-suc s i 0 h)

-- no text: it ends within the buffer
pub with_text_none : (w : Written) (e : ℕ) → e ≡ min w.end (length w.bytes) → record { bytes = w.bytes; end = e } ≡ with_text w []
unfolding with_text overwrite_at
with_text_none w e h i = record { bytes = w.bytes; end = ended i }
  where
    ended : e ≡ min (w.end + 0) (length w.bytes)
    ended = omega arith

-- the text ends within the buffer
pub puts_within : {a b : Text} {s : List ℕ} → Puts a b s → b.end ≤ length b.bytes.now
unfolding with_text
puts_within {a} {s = s} p = omega (arith, ap (λ (w : Written). w.end) p.put, ap (λ (w : Written). length w.bytes) p.put, length_overwrite a.bytes.now a.end s)

pub with_text_end : (w : Written) → w.end ≤ length w.bytes → with_text w [] ≡ w
with_text_end w h = sym (with_text_none w w.end (omega arith))

-- what a function takes that makes such calls in a row
pub ruleset putting = (with_text_next, with_text_end, puts_within)

-- ---- text whose last part is still to be put

-- the rest behind the text so far, which ends within the buffer, makes the whole behind the text of old
pub record Leads (old now : Text) (whole rest : List ℕ) : Type 0 where
  pub same : now.bytes.ghost_name ≡ old.bytes.ghost_name
  pub within : now.end ≤ length now.bytes.now
  pub leads : with_text (written now) rest ≡ with_text (written old) whole

-- one part more
pub leads_next : {a b c : Text} {whole part rest : List ℕ} → Leads a b whole (part ++ rest) → Puts b c part → Leads a c whole rest
leads_next {part} {rest} l p =
    record {
      same = p.same ∙ l.same;
      within = puts_within p;
      leads = ap (λ (w : Written). with_text w rest) p.put ∙ with_text_next _ part rest ∙ l.leads;
    }

-- text ends within the buffer
pub put_within : {buffer text now : List ℕ} {at end : ℕ} → Put buffer at text now end → end ≤ length now
put_within {buffer} {text} {at = at} p = omega (arith, p.ended, ap length p.stored ∙ length_overwrite buffer at text)
