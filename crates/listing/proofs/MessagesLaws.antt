-- Laws of the lines of a stream.
use mathlib.Core.Path.{◌≡◌, refl, sym, ap, ◌∙◌}
use mathlib.Core.Bool.{Bool, true, false}
use mathlib.Core.List.{List, ◌++◌}
use Prim.Native.Nat.{ℕ, zero, suc, ◌+◌, ◌-◌, ◌≤◌, ◌<◌, min}
use native.Mathlib.Omega.{arith}
use lib.Dec.{leb, ltb, eqb}
use lib.ListN.{length, take, drop, length-drop}
use lib.Seq.{take_all}
use borrow.Author.Tests.{leb-true, leb-false, lt-ltb, le-ltb, eq-eqb, ne_eqb, eqb-false}
use Rattle.field.specs.Choice.{pick}
use Rattle.field.proofs.ChoiceLaws.{pick_true, pick_false}
use Rattle.protocol.specs.Step.{ServerMemory, CallResult}
use Rattle.protocol.proofs.ProgressLaws.{call_progress}
use Rattle.listing.specs.Listing.{line_of, end_text, message_step, messages_text, stream_size, stream_of}
use Rattle.field.proofs.ChoiceLaws.{pick_cong}

-- what stands behind a message's line
abbrev rest_text : ℕ → ℕ → CallResult → List ℕ → List ℕ
rest_text most offset r rest = messages_text most (offset + r.taken) r.memory r.output (drop r.taken rest)

-- no bytes, no line
pub stream_end : (most offset : ℕ) (mem : ServerMemory) (output rest : List ℕ) → length rest ≡ 0
    → messages_text most offset mem output rest ≡ end_text offset mem.table.count
unfolding messages_text
stream_end zero offset mem output rest h = refl
stream_end (suc most) offset mem output rest h = pick_false _ _ (le-ltb 0 (length rest) (omega arith))

-- as many lines as there are bytes are enough
enough : (f g offset : ℕ) (mem : ServerMemory) (output rest : List ℕ) → length rest ≤ f → length rest ≤ g
    → messages_text f offset mem output rest ≡ messages_text g offset mem output rest
unfolding messages_text
enough zero g offset mem output rest h k = sym (stream_end g offset mem output rest (omega arith))
enough (suc f) zero offset mem output rest h k = stream_end (suc f) offset mem output rest (omega arith)
enough (suc f) (suc g) offset mem output rest h k =
    ap (λ (l : List ℕ). pick (ltb 0 (length rest)) (line_of offset r ++ l) (end_text offset mem.table.count))
    (pick_cong (eqb r.taken 0) refl (λ t. enough f g _ _ _ _ (shorter f h (eqb-false _ _ t)) (shorter g k (eqb-false _ _ t))))
  where
    r : CallResult
    r = message_step mem output rest

    shorter : (n : ℕ) → length rest ≤ suc n → (r.taken ≡ 0 → ⊥) → length (drop r.taken rest) ≤ n
    shorter n l ne = simp length-drop (omega arith)

-- the first message's line, and what follows
first_line : (most offset : ℕ) (mem : ServerMemory) (output rest : List ℕ) → 0 < length rest
    → messages_text (suc most) offset mem output rest
    ≡ line_of offset (message_step mem output rest)
    ++ pick (eqb (message_step mem output rest).taken 0) (end_text offset (message_step mem output rest).memory.table.count) (rest_text most offset (message_step mem output rest) rest)
unfolding messages_text
first_line most offset mem output rest h = pick_true _ _ (lt-ltb 0 (length rest) h)

module _ (offset : ℕ) (mem : ServerMemory) (output rest : List ℕ) (h : 0 < length rest) where
  first : messages_text (length rest) offset mem output rest
      ≡ line_of offset (message_step mem output rest)
      ++ pick (eqb (message_step mem output rest).taken 0) (end_text offset (message_step mem output rest).memory.table.count) (rest_text (length rest - 1) offset (message_step mem output rest) rest)
  first = enough (length rest) (suc (length rest - 1)) offset mem output rest (omega arith) (omega arith) ∙ first_line (length rest - 1) offset mem output rest h

  -- a message that takes bytes
  pub message_taken : ((message_step mem output rest).taken ≡ 0 → ⊥)
      → messages_text (length rest) offset mem output rest
      ≡ line_of offset (message_step mem output rest) ++ rest_text (length rest - (message_step mem output rest).taken) offset (message_step mem output rest) rest
  message_taken ne =
      let t = (message_step mem output rest).taken in
      first
      ∙ ap (λ (l : List ℕ). line_of offset (message_step mem output rest) ++ l)
      (pick_false _ _ (ne_eqb t 0 ne) ∙ enough (length rest - 1) (length rest - t) _ _ _ _ (simp length-drop (omega arith)) (simp length-drop (omega arith)))

  -- a refusal
  pub message_refused : (message_step mem output rest).taken ≡ 0
      → messages_text (length rest) offset mem output rest ≡ line_of offset (message_step mem output rest) ++ end_text offset (message_step mem output rest).memory.table.count
  message_refused z = first ∙ ap (λ (l : List ℕ). line_of offset (message_step mem output rest) ++ l) (pick_true _ _ (eq-eqb (message_step mem output rest).taken 0 z))

-- no bytes are left
pub messages_end : (offset : ℕ) (mem : ServerMemory) (output left : List ℕ) → length left ≡ 0
    → messages_text (length left) offset mem output left ≡ end_text offset mem.table.count
messages_end offset mem output left h = stream_end (length left) offset mem output left h

module _ (offset : ℕ) (mem : ServerMemory) (output left : List ℕ) (r : CallResult) (step : r ≡ message_step mem output left) (some : 0 < length left) where
  -- a message's line, and what stands behind it
  pub messages_next : (r.taken ≡ 0 → ⊥)
      → messages_text (length left) offset mem output left
      ≡ line_of offset r ++ messages_text (length (drop r.taken left)) (offset + r.taken) r.memory r.output (drop r.taken left)
  messages_next ne =
      let e : length left - r.taken ≡ length (drop r.taken left) = simp length-drop refl in
      rw (← e, step) (message_taken offset mem output left some (λ z. ne (ap (λ (x : CallResult). x.taken) step ∙ z)))

  -- a refusal's line, and the end line
  pub messages_refused : r.taken ≡ 0 → messages_text (length left) offset mem output left ≡ line_of offset r ++ end_text offset r.memory.table.count
  messages_refused z = rw step (message_refused offset mem output left some (ap (λ (x : CallResult). x.taken) (sym step) ∙ z))

  -- a message takes no more than what is left of the stream
  pub takes_left : r.taken ≤ length left
  takes_left = rw step (call_progress 64 mem 0 left output).takes_there

pub ruleset messages = (messages_end, messages_next, messages_refused, takes_left)

-- the part of the input that is lent
pub stream_part : (input : List ℕ) (n : ℕ) → n ≡ min (length input) stream_size → take n input ≡ stream_of input
unfolding stream_of
stream_part input n e = go (leb stream_size (length input)) refl
  where
    go : (b : Bool) → leb stream_size (length input) ≡ b → take n input ≡ take stream_size input
    go true t = let l : stream_size ≤ length input = leb-true _ _ t in let k : n ≡ stream_size = omega arith in rw k refl
    go false t =
        let l : length input < stream_size = leb-false _ _ t in
        take_all n input (omega arith) ∙ sym (take_all stream_size input (omega arith))
