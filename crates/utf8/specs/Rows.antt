-- What the code's `Expected` means, and what a row's bytes behind its first leave.
use Rattle.std.specs.Prelude.{ℕ, ◌+◌, ◌≤◌, ◌≡◌, List, length, drop}
use Rattle.utf8.specs.Utf8.{Expected, Boundary, Tail, Invalid, utf8_from}
use Rattle.utf8.specs.declared.Expected.{Expected as Asked}
use Rattle.utf8.specs.declared.Expected.TheVariants.{Boundary as AskedBoundary, Tail as AskedTail, Invalid as AskedInvalid}

abbrev pub meant : Asked → Expected
meant AskedBoundary = Boundary
meant (AskedTail low high n) = Tail low high n
meant AskedInvalid = Invalid

-- the bytes begin with one from low to high and n of UTF8-tail: what stands behind these decides
pub record IsTailFirst (low high n : ℕ) (s : List ℕ) : Type 0 where
  pub enough : 1 + n ≤ length s
  pub leaves : utf8_from (Tail low high n) s ≡ utf8_from Boundary (drop (1 + n) s)
