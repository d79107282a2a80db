-- Laws of a connection's slot: bytes that came in, and what of them is moved to its start.
use Rattle.std.proofs.Common.{◌≡◌, sym, ap, ◌∙◌, true, false, List, ◌++◌, ℕ, ◌+◌, ◌-◌, ◌≤◌, arith, length, take, drop, length-append, length-drop}
use mathlib.Core.List.{append_assoc}
use lib.Seq.{paste, length-take-le, take_at}
use Rattle.std.proofs.lemmas.List.Edits.{take-paste}
use Rattle.field.specs.Octets.{overwrite_at}
use Rattle.field.proofs.ChoiceLaws.{pick_true, pick_false}
use Rattle.field.proofs.OctetsLaws.{take_drop}
use Rattle.field.proofs.OverwriteLaws.{length_overwrite, overwrite_eq}
use Rattle.protocol.specs.Step.{ServerMemory}
use Rattle.line_record.specs.Held.{Kept, Settled, keeping, is_closed, settle, gather, longest_incomplete}
use Rattle.line_record.proofs.HeldLaws.{gather_short}

-- ---- bytes that came in

pub moved_down : (s : List ℕ) (from end : ℕ) → from ≤ end → end ≤ length s → (s' : List ℕ) → s' ≡ paste s 0 (drop from s) (end - from)
    → take (end - from) s' ≡ take (end - from) (drop from s)
moved_down s from end within there s' pasted =
    let n = end - from in
    let same : n ≡ 0 + n = omega arith in
    rw pasted
    (ap (λ (k : ℕ). take k (paste s 0 (drop from s) n)) same ∙ take-paste s 0 (drop from s) n (omega (arith, there)) (omega (arith, within, there, length-drop from s)))

module _ (limit : ℕ) (mem : ServerMemory) (c : ℕ) (slot arrived : List ℕ) (size : ℕ) where
  -- what the connection holds afterwards, and memory
  abbrev gathered : Kept
  gathered = (gather limit mem c (take size slot) arrived).kept

  -- "data for a closed connection is dropped"
  pub kept_closed : is_closed mem.marks c ≡ true → keeping mem (take size slot) ≡ gathered
  unfolding gather
  kept_closed k = ap (λ (s : Settled). s.kept) (sym (pick_true _ _ k))

  -- what is held is short
  pub kept_short : (mem' : ServerMemory) (n : ℕ) (slot' : List ℕ) → keeping mem' (take n slot') ≡ gathered → size ≤ longest_incomplete → size ≤ length slot
      → n ≤ length slot' → n ≤ longest_incomplete
  kept_short mem' n slot' e short there room =
      let held = ap (λ (k : Kept). length k.held) e in
      omega (arith, held, length-take-le n slot' room, gather_short limit mem c (take size slot) arrived (omega (arith, length-take-le size slot there)))

  module _ (slot' : List ℕ) (copied : slot' ≡ overwrite_at slot size arrived) (fits : size + length arrived ≤ length slot) where
    -- the bytes that calls are made on, as they are lent
    abbrev lent_bytes : List ℕ
    lent_bytes = take (size + length arrived) slot'

    all_held : lent_bytes ≡ take size slot ++ arrived
    all_held =
        let front : length (take size slot ++ arrived) ≡ size + length arrived =
        length-append (take size slot) arrived ∙ omega (arith, length-take-le size slot (omega arith)) in
        rw (copied, overwrite_eq slot size arrived fits, ← append_assoc (take size slot) arrived (drop (size + length arrived) slot))
        (take_at (take size slot ++ arrived) (drop (size + length arrived) slot) (size + length arrived) front)

    -- what is still held is moved to the start of the slot
    pub kept_moved : is_closed mem.marks c ≡ false → (mem' : ServerMemory) (at : ℕ)
        → keeping mem' (drop at lent_bytes) ≡ (settle (length lent_bytes) limit mem c lent_bytes).kept
        → at ≤ size + length arrived
        → (slot'' : List ℕ) → take (size + length arrived - at) slot'' ≡ take (size + length arrived - at) (drop at slot')
        → keeping mem' (take (size + length arrived - at) slot'') ≡ gathered
    unfolding gather
    kept_moved open' mem' at k within slot'' moved =
        let n = size + length arrived - at in
        let sum : at + n ≡ size + length arrived = omega arith in
        let part : take n (drop at slot') ≡ drop at lent_bytes = take_drop at n slot' ∙ rw sum in
        ap (keeping mem') (moved ∙ part) ∙ k ∙ ap (λ (held : List ℕ). (settle (length held) limit mem c held).kept) all_held
        ∙ ap (λ (s : Settled). s.kept) (sym (pick_false _ _ open'))
