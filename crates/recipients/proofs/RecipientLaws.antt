-- Laws of the set of recipients.
use Rattle.std.specs.Prelude.{Option, Some, None}
use mathlib.Core.Path.{◌≡◌, refl, sym, ap, ◌∙◌}
use mathlib.Core.Bool.{Bool, true, false, and-false}
use mathlib.Core.List.{List}
use Prim.Native.Nat.{ℕ, zero, suc, ◌+◌, ◌-◌, ◌*◌, ◌/◌, ◌%◌, ◌^◌, ◌≤◌, ◌<◌}
use native.Mathlib.Nat.{not-suc-le-zero, zero-mul, one-mul, add-mul-div_right, add-mul-mod_self_right, div-eq_of_lt, pow-suc, mul_assoc, mul_comm}
use native.Mathlib.Decide.{dec_lt}
use native.Mathlib.Numerals.{add-one}
use native.Mathlib.Omega.{arith}
use lib.Dec.{eqb}
use lib.Pow.{pow_pos, pow-add}
use lib.ListN.{get_or}
use borrow.Author.Tests.{eq-eqb, ne_eqb}
use Rattle.field.specs.Choice.{pick}
use Rattle.recipients.specs.Recipients.{greeted_but, is_greeted_but, nobody, sender, all_greeted, other_greeted, is_recipient, bit_set, test_bit, recipient_set, RecipientBit, GreetedReceives}

-- ---- one bit more

pub bits_none : (p : ℕ → Bool) → bit_set 0 p ≡ 0
unfolding bit_set
bits_none p = refl

pub bits_more : (n : ℕ) (p : ℕ → Bool) → bit_set (n + 1) p ≡ bit_set n p + pick (p n) (2 ^ n) 0
unfolding bit_set
bits_more n p = ap (λ (k : ℕ). bit_set k p) (add-one n)

pub power_more : (n : ℕ) → 2 ^ (n + 1) ≡ 2 ^ n * 2
power_more n = ap (λ (k : ℕ). 2 ^ k) (add-one n) ∙ pow-suc 2 n

pub weight_most : (b : Bool) (n : ℕ) → pick b n 0 ≤ n
unfolding pick
weight_most true n = omega arith
weight_most false n = omega arith

pub bits_lt : (n : ℕ) (p : ℕ → Bool) → bit_set n p < 2 ^ n
unfolding bit_set
bits_lt zero p = omega arith
bits_lt (suc n) p = omega (arith, bits_lt n p, weight_most (p n) (2 ^ n), pow-suc 2 n)

-- ---- sets by their members

pub bits_same : (n : ℕ) (p q : ℕ → Bool) → ((c : ℕ) → c < n → p c ≡ q c) → bit_set n p ≡ bit_set n q
unfolding bit_set
bits_same zero p q h = refl
bits_same (suc n) p q h = rw (bits_same n p q (λ c l. h c (omega arith)), h n (omega arith))

-- no member
pub bits_empty : (n : ℕ) (p : ℕ → Bool) → ((c : ℕ) → c < n → p c ≡ false) → bit_set n p ≡ 0
unfolding bit_set pick
bits_empty zero p h = refl
bits_empty (suc n) p h = rw (bits_empty n p (λ c l. h c (omega arith)), h n (omega arith))

-- one member
pub bits_single : (n c : ℕ) → c < n → bit_set n (λ i. eqb i c) ≡ 2 ^ c
unfolding bit_set pick
bits_single zero c h = absurd (not-suc-le-zero h)
bits_single (suc n) c h = elim (dec_lt c n) [
  | yes l ↦ (
      let other : eqb n c ≡ false = ne_eqb n c (λ e. absurd (omega arith)) in
      rw (bits_single n c l, other) (omega arith))
  | no l ↦ (
      let e : n ≡ c = omega (arith, l) in
      let none : bit_set n (λ i. eqb i c) ≡ 0 = bits_empty n (λ i. eqb i c) (λ i k. ne_eqb i c (λ q. absurd (omega arith))) in
      rw (none, eq-eqb n c e, e) (omega arith))
]

-- ---- what a reader of the set finds

weight_times : (b : Bool) (n : ℕ) → pick b n 0 ≡ pick b 1 0 * n
unfolding pick
weight_times true n = sym (one-mul n)
weight_times false n = sym (zero-mul n)

bit_mod : (b : Bool) → pick b 1 0 % 2 ≡ pick b 1 0
unfolding pick
bit_mod true = refl
bit_mod false = refl

bit_test : (b : Bool) → eqb (pick b 1 0) 1 ≡ b
unfolding pick
bit_test true = refl
bit_test false = refl

-- 2 ^ n as an even multiple of 2 ^ c
power_split : (w n c : ℕ) → c < n → w * 2 ^ n ≡ w * 2 ^ (n - c - 1) * 2 * 2 ^ c
power_split w n c h =
    let e : n ≡ (n - c - 1) + suc c = omega arith in
    ap (λ (k : ℕ). w * 2 ^ k) e
    ∙ ap (λ (k : ℕ). w * k) (pow-add 2 (n - c - 1) (suc c) ∙ ap (λ (k : ℕ). 2 ^ (n - c - 1) * k) (pow-suc 2 c ∙ mul_comm (2 ^ c) 2))
    ∙ sym (mul_assoc w (2 ^ (n - c - 1)) (2 * 2 ^ c))
    ∙ sym (mul_assoc (w * 2 ^ (n - c - 1)) 2 (2 ^ c))

bit_at : (n : ℕ) (p : ℕ → Bool) (c : ℕ) → c < n → bit_set n p / 2 ^ c % 2 ≡ pick (p c) 1 0
unfolding bit_set
bit_at zero p c h = absurd (not-suc-le-zero h)
bit_at (suc n) p c h = elim (dec_lt c n) [
  | yes l ↦ rw (weight_times (p n) (2 ^ n), power_split (pick (p n) 1 0) n c l, add-mul-div_right (bit_set n p) (pick (p n) 1 0 * 2 ^ (n - c - 1) * 2) (pow_pos c), add-mul-mod_self_right (bit_set n p / 2 ^ c) (pick (p n) 1 0 * 2 ^ (n - c - 1)) 2) (bit_at n p c l)
  | no l ↦ (
      let e : c ≡ n = omega (arith, l) in
      let z : bit_set n p / 2 ^ n + pick (p n) 1 0 ≡ pick (p n) 1 0 = omega (arith, div-eq_of_lt (bits_lt n p)) in
      rw (e, weight_times (p n) (2 ^ n), add-mul-div_right (bit_set n p) (pick (p n) 1 0) (pow_pos n), z) (bit_mod (p n)))
]

pub bit_tested : (n : ℕ) (p : ℕ → Bool) (c : ℕ) → c < n → test_bit (bit_set n p) c ≡ p c
unfolding test_bit
bit_tested n p c h = rw (bit_at n p c h) (bit_test (p c))

-- ---- recipients

pub recipient_bit : RecipientBit
unfolding recipient_set
recipient_bit to marks c h = bit_tested 16 (is_recipient to marks) c h

pub greeted_receive : GreetedReceives
greeted_receive marks c h =
    record {
      greeted_do = λ g. recipient_bit all_greeted marks c h ∙ rw (eq-eqb _ _ g);
      others_do = λ d g n. recipient_bit (other_greeted d) marks c h ∙ rw (eq-eqb _ _ g, ne_eqb _ _ n);
      no_one_else = λ n. (recipient_bit all_greeted marks c h ∙ rw (ne_eqb _ _ n), λ d. recipient_bit (other_greeted d) marks c h ∙ rw (ne_eqb _ _ n));
      sender_left_out = recipient_bit (other_greeted c) marks c h ∙ rw (eq-eqb c c refl) (and-false (eqb (get_or marks c 0) 2));
    }

pub nobody_set : (marks : List ℕ) → recipient_set nobody marks ≡ 0
unfolding recipient_set
nobody_set marks = bits_empty 16 (is_recipient nobody marks) (λ c h. refl)

pub sender_set : (marks : List ℕ) (c : ℕ) → c < 16 → recipient_set (sender c) marks ≡ 2 ^ c
unfolding recipient_set
sender_set marks c h = bits_single 16 c h

-- a connection is to receive where its mark and number say so
pub greeted_bit : (left_out : Option ℕ) (marks : List ℕ) (c : ℕ) → is_greeted_but left_out (get_or marks c 0) c ≡ is_recipient (greeted_but left_out) marks c
greeted_bit None marks c = refl
greeted_bit (Some d) marks c = refl
