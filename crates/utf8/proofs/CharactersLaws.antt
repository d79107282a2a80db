-- The ABNF takes exactly the encodings of characters.
use Rattle.std.proofs.Common.{◌≡◌, ℕ, zero, suc, ◌+◌, ◌-◌, ◌*◌, ◌/◌, ◌<◌, ◌≤◌, ◌⊎◌, true, false, List, [], ◌∷◌, ◌++◌, length, length-append, refl, sym, ap, ◌∙◌, inl, inr, arith, lt-ltb, le-ltb, le-leb}
use Rattle.std.proofs.lemmas.Bool.{cases_lt, cases_Bool, and_parts, lt-leb, false≢true}
use Rattle.std.proofs.lemmas.Bool.Decides.{nat_tests}
use Rattle.std.proofs.lemmas.Str.{encode_ascii, IsUtf8-nil, IsUtf8-from_ascii, length-encode, len_utf8_bounds}
use Rattle.std.specs.Str.{IsUtf8, IsAscii}
use lib.Utf8.{scalar, scalars, encode, encodes, next, low_scalar, scalar_cases}
use Rattle.field.specs.Choice.{pick}
use Rattle.utf8.specs.Utf8.{Expected, Boundary, Tail, Invalid, after_first, after_byte, still_to_come, utf8_from, is_utf8}
use Rattle.utf8.specs.Characters.{CharactersExactly}

-- ---- the rows, by the first byte

-- the second byte's range in the rows of three bytes, and in those of four
abbrev RangeOf3 : ℕ → ℕ → ℕ → Type 0
RangeOf3 x low high =
    ((x ≡ 0xE0) × (low ≡ 0xA0) × (high ≡ 0xBF))
    ⊎ (((0xE1 ≤ x) × (x ≤ 0xEC) × (low ≡ 0x80) × (high ≡ 0xBF))
    ⊎ (((x ≡ 0xED) × (low ≡ 0x80) × (high ≡ 0x9F))
    ⊎ ((0xEE ≤ x) × (x ≤ 0xEF) × (low ≡ 0x80) × (high ≡ 0xBF))))

abbrev RangeOf4 : ℕ → ℕ → ℕ → Type 0
RangeOf4 x low high =
    ((x ≡ 0xF0) × (low ≡ 0x90) × (high ≡ 0xBF))
    ⊎ (((0xF1 ≤ x) × (x ≤ 0xF3) × (low ≡ 0x80) × (high ≡ 0xBF))
    ⊎ ((x ≡ 0xF4) × (low ≡ 0x80) × (high ≡ 0x8F)))

-- x asks for a second byte of such a range, and then n more
record Row (Range : ℕ → ℕ → ℕ → Type 0) (x n : ℕ) : Type 0 where
  low : ℕ
  high : ℕ
  range : Range x low high
  is : after_first x ≡ Tail low high n

pub row_of_1 : (x : ℕ) → x < 0x80 → after_first x ≡ Boundary
unfolding after_first pick
row_of_1 x most = grind (arith, nat_tests)

row_of_2 : (x : ℕ) → 0xC2 ≤ x → x < 0xE0 → after_first x ≡ Tail 0x80 0xBF 0
unfolding after_first pick
row_of_2 x least most = grind (arith, nat_tests)

row_of_3 : (x : ℕ) → 0xE0 ≤ x → x < 0xF0 → Row RangeOf3 x 1
unfolding after_first pick
row_of_3 x least most = elim (cases_lt x 0xE1) [
  | inl a ↦ record { low = 0xA0; high = 0xBF; range = inl (omega arith, refl, refl); is = grind (arith, nat_tests) }
  | inr a ↦ elim (cases_lt x 0xED) [
    | inl b ↦ record { low = 0x80; high = 0xBF; range = inr (inl (a, omega arith, refl, refl)); is = grind (arith, nat_tests) }
    | inr b ↦ elim (cases_lt x 0xEE) [
      | inl c ↦ record { low = 0x80; high = 0x9F; range = inr (inr (inl (omega arith, refl, refl))); is = grind (arith, nat_tests) }
      | inr c ↦ record { low = 0x80; high = 0xBF; range = inr (inr (inr (c, omega arith, refl, refl))); is = grind (arith, nat_tests) }
    ]
  ]
]

row_of_4 : (x : ℕ) → 0xF0 ≤ x → x < 0xF5 → Row RangeOf4 x 2
unfolding after_first pick
row_of_4 x least most = elim (cases_lt x 0xF1) [
  | inl a ↦ record { low = 0x90; high = 0xBF; range = inl (omega arith, refl, refl); is = grind (arith, nat_tests) }
  | inr a ↦ elim (cases_lt x 0xF4) [
    | inl b ↦ record { low = 0x80; high = 0xBF; range = inr (inl (a, omega arith, refl, refl)); is = grind (arith, nat_tests) }
    | inr b ↦ record { low = 0x80; high = 0x8F; range = inr (inr (omega arith, refl, refl)); is = grind (arith, nat_tests) }
  ]
]

no_row : (x : ℕ) → ((0x80 ≤ x) × (x < 0xC2)) ⊎ (0xF5 ≤ x) → after_first x ≡ Invalid
unfolding after_first pick
no_row x out = grind (arith, nat_tests)

-- ---- byte by byte

pub first_byte : (x : ℕ) (s : List ℕ) (e : Expected) → after_first x ≡ e → utf8_from Boundary (x ∷ s) ≡ utf8_from e s
unfolding utf8_from after_byte
first_byte x s e is = ap (λ t. utf8_from t s) is

pub asked_byte : (low high n b : ℕ) (s : List ℕ) → low ≤ b → b ≤ high → utf8_from (Tail low high n) (b ∷ s) ≡ utf8_from (still_to_come n) s
unfolding utf8_from after_byte pick
asked_byte low high n b s least most = rw (le-leb low b least, le-leb b high most)

tail_byte : (n c : ℕ) (s : List ℕ) → utf8_from (Tail 0x80 0xBF n) (next c ∷ s) ≡ utf8_from (still_to_come n) s
tail_byte n c s = asked_byte 0x80 0xBF n (next c) s (omega arith) (omega arith)

pub invalid_stays : (s : List ℕ) → utf8_from Invalid s ≡ false
unfolding utf8_from after_byte
invalid_stays [] = refl
invalid_stays (b ∷ s) = invalid_stays s

-- ---- the bytes of a character

bytes_of_2 : (c : ℕ) → 0x80 ≤ c → c < 0x800 → encode c ≡ (0xC0 + c / 64) ∷ next c ∷ []
unfolding encode
bytes_of_2 c low high = rw (le-ltb c 128 low, lt-ltb c 2048 high)

bytes_of_3 : (c : ℕ) → 0x800 ≤ c → c < 0x10000 → encode c ≡ (0xE0 + c / 4096) ∷ next (c / 64) ∷ next c ∷ []
unfolding encode
bytes_of_3 c low high = rw (le-ltb c 128 (omega arith), le-ltb c 2048 low, lt-ltb c 65536 high)

bytes_of_4 : (c : ℕ) → 0x10000 ≤ c → encode c ≡ (0xF0 + c / 262144) ∷ next (c / 4096) ∷ next (c / 64) ∷ next c ∷ []
unfolding encode
bytes_of_4 c low = rw (le-ltb c 128 (omega arith), le-ltb c 2048 (omega arith), le-ltb c 65536 low)

-- ---- from characters to rows

past_char : (c : ℕ) (s : List ℕ) → scalar c ≡ true → utf8_from Boundary (encode c ++ s) ≡ utf8_from Boundary s
unfolding pick
past_char c s ok =
    let range = scalar_cases c ok in
    elim (cases_lt c 0x80) [
      | inl a ↦ rw (encode_ascii c a) (first_byte c s _ (row_of_1 c a))
      | inr a ↦ elim (cases_lt c 0x800) [
        | inl b ↦ rw (bytes_of_2 c a b) (first_byte _ _ _ (row_of_2 _ (omega arith) (omega arith)) ∙ tail_byte 0 c s)
        | inr b ↦ elim (cases_lt c 0x10000) [
          | inl d ↦
              let r = row_of_3 (0xE0 + c / 4096) (omega arith) (omega arith) in
              rw (bytes_of_3 c b d)
              (first_byte _ _ _ r.is ∙ asked_byte r.low r.high 1 (next (c / 64)) (next c ∷ s) (omega arith) (omega arith) ∙ tail_byte 0 c s)
          | inr d ↦
              let r = row_of_4 (0xF0 + c / 262144) (omega arith) (omega arith) in
              rw (bytes_of_4 c d)
              (first_byte _ _ _ r.is ∙ asked_byte r.low r.high 2 (next (c / 4096)) (next (c / 64) ∷ next c ∷ s) (omega arith) (omega arith)
              ∙ tail_byte 1 (c / 64) (next c ∷ s) ∙ tail_byte 0 c s)
        ]
      ]
    ]

of_characters : (cs : List ℕ) → scalars cs ≡ true → utf8_from Boundary (encodes cs) ≡ true
unfolding utf8_from
of_characters [] ok = refl
of_characters (c ∷ cs) ok = let p = and_parts (scalar c) (scalars cs) ok in past_char c (encodes cs) p.0 ∙ of_characters cs p.1

-- ---- from rows to characters

-- where a byte is asked for, it is there and in its range
record Asked (low high n : ℕ) (s : List ℕ) : Type 0 where
  byte : ℕ
  rest : List ℕ
  is : byte ∷ rest ≡ s
  least : low ≤ byte
  most : byte ≤ high
  goes_on : utf8_from (still_to_come n) rest ≡ true

asked : (low high n : ℕ) (s : List ℕ) → utf8_from (Tail low high n) s ≡ true → Asked low high n s
unfolding utf8_from after_byte pick
asked low high n [] h = absurd (false≢true h)
asked low high n (b ∷ s) h = elim (cases_lt b low) [
  | inl l ↦ absurd (false≢true (sym (invalid_stays s) ∙ (rw (lt-leb low b l) at h)))
  | inr l ↦ elim (cases_lt high b) [
    | inl u ↦ absurd (false≢true (sym (invalid_stays s) ∙ (rw (le-leb low b l, lt-leb b high u) at h)))
    | inr u ↦ record { byte = b; rest = s; is = refl; least = l; most = u; goes_on = rw (le-leb low b l, le-leb b high u) at h }
  ]
]

-- a row is the bytes of one character
record FirstChar (s : List ℕ) : Type 0 where
  char : ℕ
  rest : List ℕ
  is_scalar : scalar char ≡ true
  spelt : encode char ++ rest ≡ s
  goes_on : utf8_from Boundary rest ≡ true

high_scalar : (c : ℕ) → 0xE000 ≤ c → c < 0x110000 → scalar c ≡ true
high_scalar c low high = rw (le-ltb c 55296 (omega arith), le-leb 57344 c low, lt-ltb c 1114112 high)

char_of_2 : (x : ℕ) (s : List ℕ) → 0xC2 ≤ x → x < 0xE0 → utf8_from (Tail 0x80 0xBF 0) s ≡ true → FirstChar (x ∷ s)
unfolding pick
char_of_2 x s least most h =
    let a = asked 0x80 0xBF 0 s h in
    let c = (x - 0xC0) * 64 + (a.byte - 0x80) in
    let p : 0xC0 + c / 64 ≡ x = omega arith in
    let q : next c ≡ a.byte = omega arith in
    record {
      char = c;
      rest = a.rest;
      is_scalar = low_scalar c (omega arith);
      spelt = rw (bytes_of_2 c (omega arith) (omega arith), p, q, a.is);
      goes_on = a.goes_on;
    }

char_of_3 : (x low high : ℕ) (s : List ℕ) → RangeOf3 x low high → utf8_from (Tail low high 1) s ≡ true → FirstChar (x ∷ s)
unfolding pick
char_of_3 x low high s range h =
    let a = asked low high 1 s h in
    let b = asked 0x80 0xBF 0 a.rest a.goes_on in
    let c = (x - 0xE0) * 4096 + (a.byte - 0x80) * 64 + (b.byte - 0x80) in
    let p : 0xE0 + c / 4096 ≡ x = omega arith in
    let q : next (c / 64) ≡ a.byte = omega arith in
    let r : next c ≡ b.byte = omega arith in
    record {
      char = c;
      rest = b.rest;
      is_scalar = elim (cases_lt c 0xD800) [ inl d ↦ low_scalar c d | inr d ↦ high_scalar c (omega arith) (omega arith) ];
      spelt = rw (bytes_of_3 c (omega arith) (omega arith), p, q, r, b.is, a.is);
      goes_on = b.goes_on;
    }

char_of_4 : (x low high : ℕ) (s : List ℕ) → RangeOf4 x low high → utf8_from (Tail low high 2) s ≡ true → FirstChar (x ∷ s)
unfolding pick
char_of_4 x low high s range h =
    let a = asked low high 2 s h in
    let b = asked 0x80 0xBF 1 a.rest a.goes_on in
    let d = asked 0x80 0xBF 0 b.rest b.goes_on in
    let c = (x - 0xF0) * 262144 + (a.byte - 0x80) * 4096 + (b.byte - 0x80) * 64 + (d.byte - 0x80) in
    let p : 0xF0 + c / 262144 ≡ x = omega arith in
    let q : next (c / 4096) ≡ a.byte = omega arith in
    let e : c / 64 ≡ (x - 0xF0) * 4096 + (a.byte - 0x80) * 64 + (b.byte - 0x80) = omega arith in
    let r : next (c / 64) ≡ b.byte = rw e (omega arith) in
    let t : next c ≡ d.byte = omega arith in
    record {
      char = c;
      rest = d.rest;
      is_scalar = high_scalar c (omega arith) (omega arith);
      spelt = rw (bytes_of_4 c (omega arith), p, q, r, t, d.is, b.is, a.is);
      goes_on = d.goes_on;
    }

first_char : (x : ℕ) (s : List ℕ) → utf8_from Boundary (x ∷ s) ≡ true → FirstChar (x ∷ s)
first_char x s h =
    let after : (e : Expected) → after_first x ≡ e → utf8_from e s ≡ true = λ e is. sym (first_byte x s e is) ∙ h in
    let refused : ((0x80 ≤ x) × (x < 0xC2)) ⊎ (0xF5 ≤ x) → ⊥ = λ out. false≢true (sym (invalid_stays s) ∙ after Invalid (no_row x out)) in
    elim (cases_lt x 0x80) [
      | inl a ↦ record { char = x; rest = s; is_scalar = low_scalar x (omega arith); spelt = rw (encode_ascii x a); goes_on = after Boundary (row_of_1 x a) }
      | inr a ↦ elim (cases_lt x 0xC2) [
        | inl b ↦ absurd (refused (inl (a, b)))
        | inr b ↦ elim (cases_lt x 0xE0) [
          | inl c ↦ char_of_2 x s b c (after _ (row_of_2 x b c))
          | inr c ↦ elim (cases_lt x 0xF0) [
            | inl d ↦ let r = row_of_3 x c d in char_of_3 x r.low r.high s r.range (after _ r.is)
            | inr d ↦ elim (cases_lt x 0xF5) [
              | inl e ↦ let r = row_of_4 x d e in char_of_4 x r.low r.high s r.range (after _ r.is)
              | inr e ↦ absurd (refused (inr e))
            ]
          ]
        ]
      ]
    ]

-- n is at least the number of bytes
to_characters : (n : ℕ) (s : List ℕ) → length s ≤ n → utf8_from Boundary s ≡ true → IsUtf8 s
to_characters n [] l h = IsUtf8-nil
to_characters zero (x ∷ s) l h = absurd (omega arith)
to_characters (suc n) (x ∷ s) l h =
    let f = first_char x s h in
    let shorter : length f.rest ≤ n = omega (arith, ap length f.spelt, length-append (encode f.char) f.rest, length-encode f.char, len_utf8_bounds f.char) in
    let u = to_characters n f.rest shorter f.goes_on in
    (f.char ∷ u.0, (rw f.is_scalar u.1.0, rw u.1.1 f.spelt))

pub characters_exactly : CharactersExactly
unfolding is_utf8
characters_exactly s = (to_characters (length s) s (omega arith), λ u. rw (← u.1.1) (of_characters u.0 u.1.0))

-- what the two tests of `is_utf8` say
pub ascii_utf8 : (s : List ℕ) → IsAscii s → is_utf8 s ≡ true
ascii_utf8 s ascii = (characters_exactly s).1 (IsUtf8-from_ascii s ascii)

pub characters_utf8 : (s : List ℕ) → IsUtf8 s → is_utf8 s ≡ true
characters_utf8 s = (characters_exactly s).1

pub not_utf8 : (s : List ℕ) → ¬ (IsUtf8 s) → is_utf8 s ≡ false
not_utf8 s other = elim (cases_Bool (is_utf8 s)) [ inl t ↦ absurd (other ((characters_exactly s).0 t)) | inr f ↦ f ]
