-- What loading and storing heads comes to: the numbers of the first 64 heads, and back.
use mathlib.Core.Path.{◌≡◌, refl, sym, ◌∙◌, ap, subst}
use Prim.Native.Nat.{ℕ, zero, suc, ◌+◌, ◌*◌, ◌<◌, ◌≤◌}
use native.Mathlib.Nat.{not-suc-le-zero, eq-or-lt_of_le, le_of_suc-le-suc}
use native.Mathlib.Numerals.{add-one}
use native.Mathlib.Omega.{arith}
use mathlib.Core.Logic.{◌⊎◌, inl, inr}
use mathlib.Core.List.{List, [], ◌∷◌}
use lib.ListN.{length, get_or, set, take, drop, length-set, length-take, length-drop, length-replicate}
use lib.Seq.{get_or-set_same, get_or-set_other, get_or-take, get_or-drop, ext_get_or}
use Rattle.table.specs.Table.{max_entries}
use Rattle.heads.specs.declared.Head.{Head}
use Rattle.heads.specs.Heads.{head_numbers, numbers, flat_heads, no_head, with_head, head_at, loaded, stored}

pub length_loaded : (k : ℕ) (hs : List Head) (flat : List ℕ) → length (loaded k hs flat) ≡ length flat
unfolding loaded
length_loaded zero hs flat = refl
length_loaded (suc k) hs flat = simp (length-set, length_loaded k hs flat)

pub length_stored : (k : ℕ) (flat : List ℕ) (hs : List Head) → length (stored k flat hs) ≡ length hs
unfolding stored
length_stored zero flat hs = refl
length_stored (suc k) flat hs = simp (length-set, length_stored k flat hs)

-- one more, as the code counts
pub loaded_next : (i : ℕ) (hs : List Head) (flat : List ℕ) → with_head (loaded i hs flat) i (get_or hs i no_head) ≡ loaded (i + 1) hs flat
unfolding loaded
loaded_next i hs flat = rw (add-one i)

pub stored_next : (i : ℕ) (flat : List ℕ) (hs : List Head) → set (stored i flat hs) i (head_at flat i) ≡ stored (i + 1) flat hs
unfolding stored
stored_next i flat hs = rw (add-one i)

module _ (f : List ℕ) (i : ℕ) (h : Head) where
  abbrev f₁ : List ℕ
  f₁ = set f (i * 4) h.name_length

  abbrev f₂ : List ℕ
  f₂ = set f₁ (i * 4 + 1) h.value_length

  abbrev f₃ : List ℕ
  f₃ = set f₂ (i * 4 + 2) h.type_code

  -- a number that is none of the four is as it was
  past : (j : ℕ) → (j < i * 4) ⊎ (i * 4 + 3 < j) → get_or (with_head f i h) j 0 ≡ get_or f j 0
  past j o = get_or-set_other f₃ (i * 4 + 3) j h.number 0 (λ e. apart 3 (omega arith) e) ∙ get_or-set_other f₂ (i * 4 + 2) j h.type_code 0 (λ e. apart 2 (omega arith) e) ∙ get_or-set_other f₁ (i * 4 + 1) j h.value_length 0 (λ e. apart 1 (omega arith) e) ∙ get_or-set_other f (i * 4) j h.name_length 0 (λ e. apart 0 (omega arith) (e ∙ plus))
    where
      plus : i * 4 ≡ i * 4 + 0
      plus = omega arith

      apart : (c : ℕ) → c < 4 → j ≡ i * 4 + c → ⊥
      apart c l e = elim o [ inl a ↦ (omega arith) | inr a ↦ (omega arith) ]

  -- the four
  same : i * 4 + 3 < length f → head_at (with_head f i h) i ≡ h
  same w = λ t. record { name_length = n₀ t; value_length = n₁ t; type_code = n₂ t; number = n₃ t }
    where
      l₁ : length f₁ ≡ length f
      l₁ = length-set f (i * 4) h.name_length

      l₂ : length f₂ ≡ length f
      l₂ = length-set f₁ (i * 4 + 1) h.value_length ∙ l₁

      l₃ : length f₃ ≡ length f
      l₃ = length-set f₂ (i * 4 + 2) h.type_code ∙ l₂

      n₀ : get_or (with_head f i h) (i * 4) 0 ≡ h.name_length
      n₀ = get_or-set_other f₃ (i * 4 + 3) (i * 4) h.number 0 (λ e. omega arith) ∙ get_or-set_other f₂ (i * 4 + 2) (i * 4) h.type_code 0 (λ e. omega arith) ∙ get_or-set_other f₁ (i * 4 + 1) (i * 4) h.value_length 0 (λ e. omega arith) ∙ get_or-set_same f (i * 4) h.name_length 0 (omega arith)

      n₁ : get_or (with_head f i h) (i * 4 + 1) 0 ≡ h.value_length
      n₁ = get_or-set_other f₃ (i * 4 + 3) (i * 4 + 1) h.number 0 (λ e. omega arith) ∙ get_or-set_other f₂ (i * 4 + 2) (i * 4 + 1) h.type_code 0 (λ e. omega arith) ∙ get_or-set_same f₁ (i * 4 + 1) h.value_length 0 (omega (arith, l₁))

      n₂ : get_or (with_head f i h) (i * 4 + 2) 0 ≡ h.type_code
      n₂ = get_or-set_other f₃ (i * 4 + 3) (i * 4 + 2) h.number 0 (λ e. omega arith) ∙ get_or-set_same f₂ (i * 4 + 2) h.type_code 0 (omega (arith, l₂))

      n₃ : get_or (with_head f i h) (i * 4 + 3) 0 ≡ h.number
      n₃ = get_or-set_same f₃ (i * 4 + 3) h.number 0 (omega (arith, l₃))

  -- the four of a head before it
  before : (j : ℕ) → j < i → head_at (with_head f i h) j ≡ head_at f j
  before j l = λ t. record { name_length = past (j * 4) (inl (omega arith)) t; value_length = past (j * 4 + 1) (inl (omega arith)) t; type_code = past (j * 4 + 2) (inl (omega arith)) t; number = past (j * 4 + 3) (inl (omega arith)) t }

  -- the four of a head behind it
  behind : (j : ℕ) → i < j → head_at (with_head f i h) j ≡ head_at f j
  behind j l = λ t. record { name_length = past (j * 4) (inr (omega arith)) t; value_length = past (j * 4 + 1) (inr (omega arith)) t; type_code = past (j * 4 + 2) (inr (omega arith)) t; number = past (j * 4 + 3) (inr (omega arith)) t }

pub order : (i k : ℕ) → (i < k) ⊎ (k ≤ i)
order i zero = inr (omega arith)
order i (suc k) = elim (order i k) [ inl m ↦ inl (omega arith) | inr m ↦ elim (eq-or-lt_of_le m) [ inl e ↦ inl (omega arith) | inr o ↦ inr (omega arith) ] ]

split : {i k : ℕ} → i < suc k → (i ≡ k) ⊎ (i < k)
split l = eq-or-lt_of_le (le_of_suc-le-suc l)

pub loaded_at : (k : ℕ) (hs : List Head) (flat : List ℕ) → k * 4 ≤ length flat → (i : ℕ) → i < k → head_at (loaded k hs flat) i ≡ get_or hs i no_head
unfolding loaded
loaded_at zero hs flat w i l = absurd (not-suc-le-zero l)
loaded_at (suc k) hs flat w i l = elim (split l) [
  | inl e ↦ subst (λ (j : ℕ). head_at (with_head (loaded k hs flat) k (get_or hs k no_head)) j ≡ get_or hs j no_head) (sym e) (same (loaded k hs flat) k (get_or hs k no_head) (omega (arith, length_loaded k hs flat)))
  | inr m ↦ before (loaded k hs flat) k (get_or hs k no_head) i m ∙ loaded_at k hs flat (omega arith) i m
]

pub stored_past : (k : ℕ) (flat : List ℕ) (hs : List Head) (j : ℕ) → k ≤ j → get_or (stored k flat hs) j no_head ≡ get_or hs j no_head
unfolding stored
stored_past zero flat hs j l = refl
stored_past (suc k) flat hs j l = get_or-set_other (stored k flat hs) k j (head_at flat k) no_head (λ e. omega arith) ∙ stored_past k flat hs j (omega arith)

pub stored_at : (k : ℕ) (flat : List ℕ) (hs : List Head) → k ≤ length hs → (i : ℕ) → i < k → get_or (stored k flat hs) i no_head ≡ head_at flat i
unfolding stored
stored_at zero flat hs w i l = absurd (not-suc-le-zero l)
stored_at (suc k) flat hs w i l = elim (split l) [
  | inl e ↦ subst (λ (j : ℕ). get_or (set (stored k flat hs) k (head_at flat k)) j no_head ≡ head_at flat j) (sym e) (get_or-set_same (stored k flat hs) k (head_at flat k) no_head (omega (arith, length_stored k flat hs)))
  | inr m ↦ get_or-set_other (stored k flat hs) k i (head_at flat k) no_head (λ e. omega arith) ∙ stored_at k flat hs (omega arith) i m
]

-- ---- the numbers are the heads'

-- what holds of all four numbers of each head holds of each number
each_number : (P : ℕ → Type 0) (k : ℕ) → ((i : ℕ) → i < k → P (i * 4) × P (i * 4 + 1) × P (i * 4 + 2) × P (i * 4 + 3)) → (j : ℕ) → j < k * 4 → P j
each_number P zero f j l = absurd (not-suc-le-zero l)
each_number P (suc k) f j l = elim (order j (k * 4)) [
  | inl m ↦ each_number P k (λ i b. f i (omega arith)) j m
  | inr m ↦ elim (eq-or-lt_of_le m) [
    | inl e ↦ subst P e (f k (omega arith)).0
    | inr m₁ ↦ elim (order j (k * 4 + 2)) [
      | inl b ↦ (let e : k * 4 + 1 ≡ j = omega arith in subst P e (f k (omega arith)).1)
      | inr b ↦ elim (order j (k * 4 + 3)) [
        | inl d ↦ (let e : k * 4 + 2 ≡ j = omega arith in subst P e (f k (omega arith)).2)
        | inr d ↦ (let e : k * 4 + 3 ≡ j = omega arith in subst P e (f k (omega arith)).3)
      ]
    ]
  ]
]

-- numbers of k heads are the same where each head is
same_heads : (k : ℕ) (xs ys : List ℕ) → length xs ≡ k * 4 → length ys ≡ k * 4 → ((i : ℕ) → i < k → head_at xs i ≡ head_at ys i) → xs ≡ ys
same_heads k xs ys l m f = ext_get_or 0 xs ys (l ∙ sym m) (λ j b. each_number (λ (i : ℕ). get_or xs i 0 ≡ get_or ys i 0) k (λ i c. let e = f i c in (ap (λ (h : Head). h.name_length) e, ap (λ (h : Head). h.value_length) e, ap (λ (h : Head). h.type_code) e, ap (λ (h : Head). h.number) e)) j (omega (arith, l)))

length_numbers : (hs : List Head) → length (numbers hs) ≡ length hs * 4
unfolding numbers
length_numbers [] = refl
length_numbers (h ∷ hs) = omega (arith, length_numbers hs)

numbers_at : (hs : List Head) (i : ℕ) → head_at (numbers hs) i ≡ get_or hs i no_head
unfolding numbers
numbers_at [] i = refl
numbers_at (h ∷ hs) zero = refl
numbers_at (h ∷ hs) (suc i) = next ∙ numbers_at hs i
  where
    past : (j k : ℕ) → j ≡ suc (suc (suc (suc k))) → get_or (h.name_length ∷ h.value_length ∷ h.type_code ∷ h.number ∷ numbers hs) j 0 ≡ get_or (numbers hs) k 0
    past j k e = rw e refl

    next : head_at (h.name_length ∷ h.value_length ∷ h.type_code ∷ h.number ∷ numbers hs) (suc i) ≡ head_at (numbers hs) i
    next = λ t. record { name_length = past (suc i * 4) (i * 4) (omega arith) t; value_length = past (suc i * 4 + 1) (i * 4 + 1) (omega arith) t; type_code = past (suc i * 4 + 2) (i * 4 + 2) (omega arith) t; number = past (suc i * 4 + 3) (i * 4 + 3) (omega arith) t }

flat_heads_at : (hs : List Head) (i : ℕ) → i < max_entries → head_at (flat_heads hs) i ≡ get_or hs i no_head
unfolding flat_heads
flat_heads_at hs i l = numbers_at (take max_entries hs) i ∙ get_or-take max_entries hs i no_head l

-- too few heads, too few numbers
pub length_few : (hs : List Head) → length hs < max_entries → length (flat_heads hs) < head_numbers
unfolding flat_heads
length_few hs few = simp (length_numbers, length-take) (omega arith)

module _ (hs : List Head) (enough : max_entries ≤ length hs) where
  length_enough : (xs : List Head) → length xs ≡ length hs → length (flat_heads xs) ≡ head_numbers
  unfolding flat_heads
  length_enough xs e = simp (length_numbers, length-take) (omega arith)

  -- a head past the first max_entries is as it was
  pub store_rest : (f : List ℕ) → drop max_entries (stored max_entries f hs) ≡ drop max_entries hs
  store_rest f = ext_get_or no_head (drop max_entries (stored max_entries f hs)) (drop max_entries hs) (simp (length-drop, length_stored))
      (λ i l. get_or-drop max_entries (stored max_entries f hs) i no_head ∙ stored_past max_entries f hs (max_entries + i) (omega arith) ∙ sym (get_or-drop max_entries hs i no_head))

-- the heads as they are loaded into any numbers, as many as a table has
pub loaded_all : (hs : List Head) (xs : List ℕ) → max_entries ≤ length hs → length xs ≡ head_numbers → loaded max_entries hs xs ≡ flat_heads hs
loaded_all hs xs enough len =
    same_heads
    max_entries
    (loaded max_entries hs xs)
    (flat_heads hs)
    (length_loaded max_entries hs xs ∙ len)
    (length_enough hs enough hs refl)
    (λ i l. loaded_at max_entries hs xs (omega (arith, len)) i l ∙ sym (flat_heads_at hs i l))

-- the numbers that a call left, stored
pub store_all : (hs : List Head) (f : List ℕ) → max_entries ≤ length hs → length f ≡ head_numbers → flat_heads (stored max_entries f hs) ≡ f
store_all hs f enough len =
    same_heads
    max_entries
    (flat_heads (stored max_entries f hs))
    f
    (length_enough hs enough (stored max_entries f hs) (length_stored max_entries f hs))
    len
    (λ i l. flat_heads_at (stored max_entries f hs) i l ∙ stored_at max_entries f hs enough i l)

-- ---- what `load` and `store` have made when their loops end

pub loaded_end : (i : ℕ) (hs : List Head) (xs flat : List ℕ) → flat ≡ loaded i hs xs
    → i ≤ max_entries → max_entries ≤ i → max_entries ≤ length hs → length xs ≡ head_numbers → flat ≡ flat_heads hs
loaded_end i hs xs flat l low high enough len =
    let e : i ≡ max_entries = omega arith in
    (rw e at l) ∙ loaded_all hs xs enough len

pub stored_end : (i : ℕ) (hs hs' : List Head) (f : List ℕ) → hs' ≡ stored i f hs
    → i ≤ max_entries → max_entries ≤ i → max_entries ≤ length hs → length f ≡ head_numbers → flat_heads hs' ≡ f
stored_end i hs hs' f l low high enough len =
    let e : i ≡ max_entries = omega arith in
    let at_end : hs' ≡ stored max_entries f hs = rw e at l in
    rw at_end (store_all hs f enough len)

pub past_end : (i : ℕ) (hs hs' : List Head) (f : List ℕ) → hs' ≡ stored i f hs
    → i ≤ max_entries → max_entries ≤ i → max_entries ≤ length hs → drop max_entries hs' ≡ drop max_entries hs
past_end i hs hs' f l low high enough =
    let e : i ≡ max_entries = omega arith in
    let at_end : hs' ≡ stored max_entries f hs = rw e at l in
    rw at_end (store_rest hs enough f)

pub ruleset loading = (loaded_next, length_loaded, loaded_end, length-replicate)

pub ruleset storing = (stored_next, length_stored, stored_end, past_end)
