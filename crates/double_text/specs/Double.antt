-- A Double as text that a person can read, with all its digits.
use Rattle.std.specs.Prelude.{ℕ, zero, suc, ◌+◌, ◌-◌, ◌*◌, ◌/◌, ◌%◌, ◌^◌, max, ◌||◌, ◌&&◌, List, [], ◌∷◌, ◌++◌, drop, get_or, leb, ltb, eqb}
use Rattle.field.specs.Choice.{pick}
use Rattle.field.specs.Octets.{decode16}
use Rattle.digits.specs.Digits.{decimal_text}

-- ---- sign, exponent and fraction of the 64 bits

abbrev pub sign_of : List ℕ → ℕ
sign_of s = get_or s 0 0 / 128

abbrev pub exponent_of : List ℕ → ℕ
exponent_of s = decode16 s / 16 % 2048

-- the number that n bytes are, big endian, behind a number that stands before them
unfoldable pub joined_to : (front n : ℕ) → List ℕ → ℕ
joined_to front zero s = front
joined_to front (suc n) s = joined_to (front * 256 + get_or s 0 0) n (drop 1 s)

abbrev pub fraction_of : List ℕ → ℕ
fraction_of s = joined_to (get_or s 1 0 % 16) 6 (drop 2 s)

-- how many bits the fraction has
abbrev pub fraction_bits : ℕ
fraction_bits = 52

-- the exponent of an infinity, and of every NaN
abbrev pub special_exponent : ℕ
special_exponent = 2047

-- the exponent with which a Double is its significand
abbrev pub whole_exponent : ℕ
whole_exponent = 1075

-- ---- digits

-- a Double is written in decimal where its significand is divided by 2 ^ 61 at most
abbrev pub most_places : ℕ
most_places = 61

-- the digits of r / 2 ^ k, which is less than 1, behind the point: k at most, and none for 0
unfoldable pub binary_digits : (k r : ℕ) → List ℕ
binary_digits zero r = []
binary_digits (suc k) r = pick (eqb r 0) [] ((48 + r * 5 / 2 ^ k) ∷ binary_digits k (r * 5 % 2 ^ k))

-- m / 2 ^ k in decimal, with all its digits: `12.5`, `3.0`
unfoldable pub decimal_over : (m k : ℕ) → List ℕ
decimal_over m k =
    decimal_text (m / 2 ^ k) ++ (46 ∷ [])
    ++ pick (eqb (m % 2 ^ k) 0) (48 ∷ []) (binary_digits k (m % 2 ^ k))

-- ---- the whole text

-- a finite Double is m x 2 ^ (e - 1075), or with the exponent 0 as with 1, without the bit in front
unfoldable pub significand : (e fraction : ℕ) → ℕ
significand e fraction = pick (eqb e 0) fraction (2 ^ fraction_bits + fraction)

-- `0.0`; in decimal from 2 ^ -9 up to 2 ^ 53; `M*2^X` or `M*2^-X` beyond
unfoldable pub finite_text : (e m : ℕ) → List ℕ
finite_text e m =
    pick (eqb m 0) (48 ∷ 46 ∷ 48 ∷ [])
    (pick (leb (whole_exponent - most_places) e && leb e whole_exponent) (decimal_over m (whole_exponent - e))
    (pick (ltb whole_exponent e) (decimal_text m ++ (42 ∷ 50 ∷ 94 ∷ []) ++ decimal_text (e - whole_exponent))
    (decimal_text m ++ (42 ∷ 50 ∷ 94 ∷ 45 ∷ []) ++ decimal_text (whole_exponent - max e 1))))

-- `inf`, or `NaN`
unfoldable pub special_text : (fraction : ℕ) → List ℕ
special_text fraction = pick (eqb fraction 0) (105 ∷ 110 ∷ 102 ∷ []) (78 ∷ 97 ∷ 78 ∷ [])

-- `-`, or nothing; a NaN has no sign
unfoldable pub sign_text : (sign e fraction : ℕ) → List ℕ
sign_text sign e fraction = pick (eqb sign 0 || (eqb e special_exponent && ltb 0 fraction)) [] (45 ∷ [])

unfoldable pub double_text : List ℕ → List ℕ
double_text s =
    let e = exponent_of s in
    let f = fraction_of s in
    sign_text (sign_of s) e f ++ pick (eqb e special_exponent) (special_text f) (finite_text e (significand e f))
