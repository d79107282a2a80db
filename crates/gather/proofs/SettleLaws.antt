-- Laws of the calls on a connection's bytes: what one message comes to, and the loop over all of them.
use mathlib.Core.Path.{◌≡◌, refl, sym, ap, ◌∙◌}
use mathlib.Core.Bool.{true, false}
use mathlib.Core.List.{List, []}
use Prim.Native.Nat.{ℕ, zero, suc, ◌+◌, ◌-◌, ◌≤◌, ◌<◌}
use native.Mathlib.Omega.{arith}
use lib.Dec.{eqb}
use lib.ListN.{length, drop, length-drop}
use lib.Seq.{drop-drop, drop-length}
use borrow.Author.Tests.{le-leb, lt-leb, eq-eqb, ne_eqb}
use Rattle.field.specs.Answer.{incomplete}
use Rattle.field.specs.Refusal.{refusal_number}
use Rattle.field.specs.declared.Refusal.{Refusal}
use Rattle.field.specs.declared.Refusal.TheVariants as R
use Rattle.field.proofs.ChoiceLaws.{pick_true, pick_false}
use Rattle.answer.specs.Answers.{goes_on}
use Rattle.soundness.specs.Sound.{connections}
use Rattle.soundness.proofs.SoundLaws.{marks_facts}
use Rattle.protocol.specs.Step.{ServerMemory}
use Rattle.protocol.specs.Run.{memory_after_run}
use Rattle.protocol.specs.Kept.{SoundMemory}
use Rattle.protocol.specs.Effect.{Effect}
use Rattle.effect.specs.Lent.{outcome_number}
use Rattle.effect.specs.declared.Outcome.{Outcome}
use Rattle.effect.specs.declared.Outcome.TheVariants as O
use Rattle.line_record.specs.Held.{message_effect, Kept, Settled, keeping, is_closed, leaving, settle}
use Rattle.line_record.proofs.HeldLaws.{effect_sound, effect_takes}
use Rattle.line_record.proofs.RunLaws.{no_bytes}

-- ---- one message

-- nothing is left
spent : (most limit : ℕ) (mem : ServerMemory) (c : ℕ) (held : List ℕ) → length held ≡ 0 → (settle most limit mem c held).kept ≡ keeping mem held
unfolding settle
spent zero limit mem c held e = refl
spent (suc most) limit mem c held e =
    ap (λ (s : Settled). s.kept) (pick_false _ _ (lt-leb 1 (length held) (omega arith))) ∙ ap (keeping mem) (sym (no_bytes held e))

module _ (most limit : ℕ) (mem : ServerMemory) (c : ℕ) (held : List ℕ) (some : 1 ≤ length held) (r : Effect) (made : r ≡ message_effect limit mem c held) where
  abbrev after : Kept
  after = (settle (suc most) limit mem c held).kept

  cut : r.number ≡ incomplete → after ≡ keeping r.memory held
  unfolding settle
  cut e = rw made (ap (λ (s : Settled). s.kept) (pick_true _ _ (le-leb 1 (length held) some) ∙ pick_true _ _ (eq-eqb _ _ (rw made at e))))

  module _ (whole : r.number ≡ incomplete → ⊥) where
    judged : eqb (message_effect limit mem c held).number incomplete ≡ false
    judged = ne_eqb _ _ (rw made at whole)

    refused : goes_on r.number ≡ false → after ≡ keeping (memory_after_run limit r.memory (leaving c)) []
    unfolding settle
    refused g =
        rw made
        (ap (λ (s : Settled). s.kept) (pick_true _ _ (le-leb 1 (length held) some) ∙ pick_false _ _ judged ∙ pick_false _ _ (rw made at g)))

    module _ (g : goes_on r.number ≡ true) where
      closed : is_closed r.memory.marks c ≡ true → after ≡ keeping r.memory []
      unfolding settle
      closed k =
          rw made
          (ap (λ (s : Settled). s.kept)
          (pick_true _ _ (le-leb 1 (length held) some) ∙ pick_false _ _ judged ∙ pick_true _ _ (rw made at g) ∙ pick_true _ _ (rw made at k)))

      goes_on_lem : is_closed r.memory.marks c ≡ false → after ≡ (settle most limit r.memory c (drop r.taken held)).kept
      unfolding settle
      goes_on_lem k =
          rw made
          (ap (λ (s : Settled). s.kept)
          (pick_true _ _ (le-leb 1 (length held) some) ∙ pick_false _ _ judged ∙ pick_true _ _ (rw made at g) ∙ pick_false _ _ (rw made at k)))

-- ---- what the code answers

-- no other refusal is the number 1
pub cut_only : (r : Refusal) → refusal_number r ≡ incomplete → r ≡ R.Incomplete
cut_only R.Incomplete e = refl
cut_only R.ConnectionTooHigh e = absurd (omega (arith, e))
cut_only R.WrongState e = absurd (omega (arith, e))
cut_only R.UnknownKind e = absurd (omega (arith, e))
cut_only R.WrongId e = absurd (omega (arith, e))
cut_only R.UnknownId e = absurd (omega (arith, e))
cut_only R.UnknownType e = absurd (omega (arith, e))
cut_only R.BadBoolean e = absurd (omega (arith, e))
cut_only R.NotUtf8 e = absurd (omega (arith, e))
cut_only R.TooLong e = absurd (omega (arith, e))
cut_only R.TableFull e = absurd (omega (arith, e))
cut_only R.OutputTooShort e = absurd (omega (arith, e))
cut_only R.NameTaken e = absurd (omega (arith, e))
cut_only R.Unsound e = absurd (omega (arith, e))
cut_only R.BadFilling e = absurd (omega (arith, e))

pub taken_whole : (o : Outcome) → outcome_number o ≡ incomplete → ⊥
taken_whole O.Done e = omega (arith, e)
taken_whole O.Ignored e = omega (arith, e)

pub taken_goes_on : (o : Outcome) → goes_on (outcome_number o) ≡ true
taken_goes_on O.Done = refl
taken_goes_on O.Ignored = refl

-- ---- the loop

-- the calls on the bytes from a place on come to what the calls on all come to
pub record Reached (limit c : ℕ) (held : List ℕ) (mem₀ mem : ServerMemory) (at : ℕ) : Type 0 where
  pub within : at ≤ length held
  pub sound : SoundMemory limit mem
  pub most : ℕ
  pub enough : length held ≤ most + at
  pub kept_is : (settle most limit mem c (drop at held)).kept ≡ (settle (length held) limit mem₀ c held).kept

pub reached_start : (limit c : ℕ) (held : List ℕ) (mem : ServerMemory) → SoundMemory limit mem → Reached limit c held mem mem 0
reached_start limit c held mem s = record { within = omega arith; sound = s; most = length held; enough = omega arith; kept_is = refl }

module _ {limit c : ℕ} {held : List ℕ} {mem₀ mem : ServerMemory} {at : ℕ} (l : Reached limit c held mem₀ mem at) where
  -- what all calls come to
  abbrev all : Kept
  all = (settle (length held) limit mem₀ c held).kept

  pub kept_spent : length held ≤ at → keeping mem (drop at held) ≡ all
  kept_spent h = sym (spent l.most limit mem c (drop at held) (simp length-drop (omega arith))) ∙ l.kept_is

  module _ (more : at < length held) (r : Effect) (made : r ≡ message_effect limit mem c (drop at held)) where
    some : 1 ≤ length (drop at held)
    some = simp length-drop (omega arith)

    -- what the first message comes to
    ends : (k : Kept) → (settle (suc (l.most - 1)) limit mem c (drop at held)).kept ≡ k → k ≡ all
    ends k e =
        let one : l.most ≡ suc (l.most - 1) = omega (arith, l.enough) in
        sym e ∙ rw one at l.kept_is

    pub sound_after : SoundMemory limit r.memory
    sound_after = rw made (effect_sound limit mem c (drop at held) l.sound)

    pub marks_after : connections ≤ length r.memory.marks
    marks_after = (marks_facts r.memory.marks sound_after.marks).0

    pub kept_cut : r.number ≡ incomplete → keeping r.memory (drop at held) ≡ all
    kept_cut e = ends _ (cut (l.most - 1) limit mem c (drop at held) some r made e)

    module _ (whole : r.number ≡ incomplete → ⊥) where
      pub kept_refused : goes_on r.number ≡ false → (after : ServerMemory) → after ≡ memory_after_run limit r.memory (leaving c)
          → keeping after (drop (length held) held) ≡ all
      kept_refused g after e =
          rw (e, drop-length held) (ends _ (refused (l.most - 1) limit mem c (drop at held) some r made whole g))

      module _ (g : goes_on r.number ≡ true) where
        pub kept_closed : is_closed r.memory.marks c ≡ true → keeping r.memory (drop (length held) held) ≡ all
        kept_closed k = rw (drop-length held) (ends _ (closed (l.most - 1) limit mem c (drop at held) some r made whole g k))

        -- the message takes a byte at least, and no more than there are
        pub takes : (1 ≤ r.taken) × (at + r.taken ≤ length held)
        takes =
            let t : (1 ≤ r.taken) × (r.taken ≤ length (drop at held)) = rw made (effect_takes limit mem c (drop at held) (rw made at g)) in
            (t.0, omega (arith, t.1, length-drop at held))

        pub reached_on : is_closed r.memory.marks c ≡ false → Reached limit c held mem₀ r.memory (at + r.taken)
        reached_on k =
            record {
              within = takes.1;
              sound = sound_after;
              most = l.most - 1;
              enough = omega (arith, l.enough, takes.0);
              kept_is = rw (← drop-drop r.taken at held) (ends _ (goes_on_lem (l.most - 1) limit mem c (drop at held) some r made whole g k));
            }
