-- The rows of the ABNF at the places of a text: what its first character leaves.
use Rattle.std.proofs.Common.{◌≡◌, ℕ, zero, suc, ◌+◌, ◌-◌, ◌<◌, ◌≤◌, ◌⊎◌, true, false, List, [], ◌∷◌, length, get_or, take, drop, drop-cons, add-one, refl, sym, ap, ◌∙◌, inl, inr, arith, rules, le-leb}
use Rattle.std.proofs.lemmas.Bool.{cases_lt, lt-leb}
use Rattle.std.proofs.lemmas.Bool.Decides.{nat_tests}
use Rattle.std.proofs.lemmas.List.{get_or-take, get_or-drop, take_rest, drop-drop}
use Rattle.std.specs.Str.{IsAscii}
use Rattle.field.specs.Choice.{pick}
use Rattle.utf8.specs.Utf8.{Expected, Boundary, Tail, Invalid, after_first, after_byte, still_to_come, utf8_from}
use Rattle.utf8.specs.Rows.{IsTailFirst}
use Rattle.utf8.proofs.CharactersLaws.{first_byte, row_of_1, asked_byte, invalid_stays}

-- one byte further
pub utf8_step : (e : Expected) (s : List ℕ) (i : ℕ) → i < length s → utf8_from e (drop i s) ≡ utf8_from (after_byte e (get_or s i 0)) (drop (i + 1) s)
unfolding utf8_from
utf8_step e s i h = rw (add-one, drop-cons s i 0 h)

pub past_first : (s : List ℕ) (e : Expected) → 0 < length s → after_first (get_or s 0 0) ≡ e → utf8_from Boundary s ≡ utf8_from e (drop 1 s)
unfolding after_byte
past_first s e some is = utf8_step Boundary s 0 some ∙ ap (λ t. utf8_from t (drop 1 s)) is

pub past_asked : (low high n i : ℕ) (s : List ℕ) → i < length s → low ≤ get_or s i 0 → get_or s i 0 ≤ high → utf8_from (Tail low high n) (drop i s) ≡ utf8_from (still_to_come n) (drop (i + 1) s)
past_asked low high n i s h least most = rw (add-one, drop-cons s i 0 h) (asked_byte low high n (get_or s i 0) (drop (suc i) s) least most)

-- a byte that is not asked for
not_asked_byte : (low high n b : ℕ) (s : List ℕ) → (b < low) ⊎ (high < b) → utf8_from (Tail low high n) (b ∷ s) ≡ false
unfolding utf8_from after_byte pick
not_asked_byte low high n b s out = elim (cases_lt b low) [
  | inl l ↦ rw (lt-leb low b l) (invalid_stays s)
  | inr l ↦ rw (le-leb low b l, lt-leb b high (omega arith)) (invalid_stays s)
]

pub not_asked : (low high n i : ℕ) (s : List ℕ) → i < length s → (get_or s i 0 < low) ⊎ (high < get_or s i 0) → utf8_from (Tail low high n) (drop i s) ≡ false
not_asked low high n i s h out = rw (drop-cons s i 0 h) (not_asked_byte low high n (get_or s i 0) (drop (suc i) s) out)

next_tail : (n : ℕ) → 0 < n → still_to_come n ≡ Tail 0x80 0xBF (n - 1)
unfolding pick
next_tail n some = grind (arith, nat_tests)

-- fewer bytes than are asked for
pub too_short : (low high n : ℕ) (s : List ℕ) → length s ≤ n → utf8_from (Tail low high n) s ≡ false
unfolding utf8_from pick
too_short low high n [] h = refl
too_short low high zero (b ∷ s) h = absurd (omega arith)
too_short low high (suc n) (b ∷ s) h = elim (cases_lt b low) [
  | inl l ↦ not_asked_byte low high (suc n) b s (inl l)
  | inr l ↦ elim (cases_lt high b) [
    | inl u ↦ not_asked_byte low high (suc n) b s (inr u)
    | inr u ↦ asked_byte low high (suc n) b s l u ∙ rw (next_tail (suc n) (omega arith)) (too_short 0x80 0xBF (suc n - 1) s (omega arith))
  ]
]

-- at most two bytes are asked for behind the second
more_of : Expected → ℕ
more_of Boundary = 0
more_of (Tail low high n) = n
more_of Invalid = 0

few : (b : ℕ) → more_of (after_first b) ≤ 2
unfolding more_of after_first pick
few b = grind (arith, nat_tests)

pub few_more : (b low high n : ℕ) → after_first b ≡ Tail low high n → n ≤ 2
unfolding more_of
few_more b low high n is = rw (ap more_of is) at (few b)

-- ---- from a place on

-- all bytes to come are of UTF8-tail
pub past_tail : (s : List ℕ) (i n : ℕ) → i < length s → 0 < n → (0x80 ≤ get_or s i 0) × (get_or s i 0 ≤ 0xBF) → utf8_from (still_to_come n) (drop i s) ≡ utf8_from (still_to_come (n - 1)) (drop (i + 1) s)
past_tail s i n some more tail = rw (next_tail n more) (past_asked 0x80 0xBF (n - 1) i s some tail.0 tail.1)

pub no_tail : (s : List ℕ) (i n : ℕ) → i < length s → 0 < n → (get_or s i 0 < 0x80) ⊎ (0xBF < get_or s i 0) → utf8_from (still_to_come n) (drop i s) ≡ false
no_tail s i n some more out = rw (next_tail n more) (not_asked 0x80 0xBF (n - 1) i s some out)

pub last_tail : (s : List ℕ) (n : ℕ) → n ≡ 0 → utf8_from (still_to_come n) s ≡ utf8_from Boundary s
unfolding pick
last_tail s n none = rw none refl

-- no row
pub no_first : (s : List ℕ) → 0 < length s → Invalid ≡ after_first (get_or s 0 0) → utf8_from Boundary s ≡ false
no_first s some is = past_first s _ some (sym is) ∙ invalid_stays (drop 1 s)

-- nothing left is whole characters
pub nothing_left : (s : List ℕ) → length s ≡ 0 → utf8_from Boundary s ≡ true
unfolding utf8_from
nothing_left [] none = refl
nothing_left (b ∷ s) none = absurd (omega arith)

-- a front of ASCII
pub past_ascii : (s : List ℕ) (n : ℕ) → n ≤ length s → IsAscii (take n s) → utf8_from Boundary s ≡ utf8_from Boundary (drop n s)
past_ascii s zero enough ascii = refl
past_ascii [] (suc n) enough ascii = refl
past_ascii (b ∷ s) (suc n) enough ascii =
    first_byte b s Boundary (row_of_1 b (ascii 0)) ∙ past_ascii s n (omega arith) (λ i. ascii (suc i))

-- two runs that meet or overlap
pub ascii_of_ends : (s : List ℕ) (from to : ℕ) → from ≤ to → IsAscii (drop from s) → IsAscii (take to s) → IsAscii s
ascii_of_ends s from to meet end front i = elim (cases_lt i to) [
  | inl l ↦ rw (get_or-take to s i 0) at (front i)
  | inr l ↦ let e : from + (i - from) ≡ i = omega arith in rw (get_or-drop from s (i - from) 0, e) at (end (i - from))
]

-- ---- what the code's `&rest[i..]` leaves

abbrev from_place : ℕ → List ℕ → List ℕ
from_place i s = take (length s - i) (drop i s)

pub ascii_left : (s : List ℕ) (n : ℕ) → 0 < length s → Boundary ≡ after_first (get_or s 0 0) → n ≤ length (from_place 1 s) → IsAscii (take n (from_place 1 s))
    → utf8_from Boundary s ≡ utf8_from Boundary (from_place n (from_place 1 s))
ascii_left s n some is within ascii =
    past_first s _ some (sym is) ∙ ap (utf8_from Boundary) (sym (take_rest s 1)) ∙ past_ascii (from_place 1 s) n within ascii
    ∙ ap (utf8_from Boundary) (sym (take_rest (from_place 1 s) n))

pub row_left : (s : List ℕ) (low high n : ℕ) → 0 < length s → Tail low high n ≡ after_first (get_or s 0 0) → IsTailFirst low high n (from_place 1 s)
    → utf8_from Boundary s ≡ utf8_from Boundary (from_place (2 + n) s)
row_left s low high n some is first =
    let behind : drop (1 + n) (from_place 1 s) ≡ from_place (2 + n) s = ap (drop (1 + n)) (take_rest s 1) ∙ search (rules, drop-drop, take_rest) in
    past_first s _ some (sym is) ∙ ap (utf8_from (Tail low high n)) (sym (take_rest s 1)) ∙ first.leaves ∙ ap (utf8_from Boundary) behind

pub row_wrong : (s : List ℕ) (low high n : ℕ) → 0 < length s → Tail low high n ≡ after_first (get_or s 0 0) → utf8_from (Tail low high n) (from_place 1 s) ≡ false
    → utf8_from Boundary s ≡ false
row_wrong s low high n some is wrong = past_first s _ some (sym is) ∙ ap (utf8_from (Tail low high n)) (sym (take_rest s 1)) ∙ wrong
