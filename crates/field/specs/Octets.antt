-- Numbers of two bytes, bytes stored into a lent output, and bytes compared.
use Rattle.std.specs.Prelude.{List, [], ◌∷◌, ℕ, ◌+◌, ◌*◌, ◌/◌, ◌%◌, Bool, true, false, ◌&&◌, get_or, set, eqb}

-- "All numbers are big endian": the number that the first two bytes are
unfoldable pub decode16 : List ℕ → ℕ
decode16 s = get_or s 0 0 * 256 + get_or s 1 0

unfoldable pub encode16 : ℕ → List ℕ
encode16 n = n / 256 ∷ n % 256 ∷ []

-- xs with ys stored, byte by byte, from index at on; the rest is unchanged
unfoldable pub overwrite_at : List ℕ → ℕ → List ℕ → List ℕ
overwrite_at xs at [] = xs
overwrite_at xs at (y ∷ ys) = overwrite_at (set xs at y) (at + 1) ys

-- two lists of bytes are equal "byte for byte"
unfoldable pub bytes_equal : List ℕ → List ℕ → Bool
bytes_equal [] [] = true
bytes_equal [] (y ∷ ys) = false
bytes_equal (x ∷ xs) [] = false
bytes_equal (x ∷ xs) (y ∷ ys) = eqb x y && bytes_equal xs ys
