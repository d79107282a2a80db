-- Laws of the reader that its code cites.
use Rattle.std.specs.Prelude.{Err, Ok}
use mathlib.Core.Path.{◌≡◌}
use mathlib.Core.Bool.{Bool, true, false}
use mathlib.Core.List.{List}
use Prim.Native.Nat.{ℕ, ◌+◌, ◌≤◌, ◌<◌}
use native.Mathlib.Omega.{arith}
use lib.ListN.{length, drop, get_or, length-drop}
use borrow.Author.Tests.{le-leb, lt-leb}
use Rattle.field.specs.Answer.{incomplete, wrong_id, unknown_id}
use Rattle.field.specs.Choice.{pick, demand}
use Rattle.field.specs.Octets.{decode16}
use Rattle.field.specs.Field.{fault_at, moved_by, Parsed}
use Rattle.text.specs.Text.{parse_text}
use Rattle.text.proofs.TextLaws.{TextIs, text_is}
use Rattle.value.specs.Value.{known_type}
use Rattle.reader.specs.Reader.{parse_text_at}
use Rattle.message.specs.Reader.{parse_name, parse_behind_id, parse_after_name, parse_behind_update_id, parse_update}

-- a name that was read has its prefix, and its bytes are there
pub name_taken_lem : (m : List ℕ) (n : ℕ) → parse_name m ≡ Ok n → (2 ≤ n) × (1 + n ≤ length m)
unfolding parse_text_at
name_taken_lem m n e = go (parse_text 66 0 (drop 1 m)) (text_is 66 0 (drop 1 m)) e
  where
    go : (r : Parsed) → TextIs 66 0 (drop 1 m) r → moved_by 1 r ≡ Ok n → (2 ≤ n) × (1 + n ≤ length m)
    go (Err fault) t q = let z : ◌≡◌ {A = ℕ} 0 1 = cc in absurd (omega arith)
    go (Ok k) (TextIs.taken a b c u f) q = let k-is : k ≡ n = cc in (omega arith, omega (arith, length-drop 1 m))

-- what is left to decide once an assignment's type and ID are there, and its type is known
pub after_id : (allowed : ℕ → Bool) (at t id : ℕ) (m : List ℕ) → at + 3 ≤ length m → t ≡ get_or m at 0 → known_type t ≡ true → id ≡ decode16 (drop (at + 1) m)
    → parse_after_name allowed at m ≡ demand (allowed id) (Err (fault_at wrong_id (at + 1))) (parse_behind_id at t id m)
unfolding parse_after_name pick
after_id allowed at t id m h e k i = rw (le-leb (at + 1) (length m) (omega arith), ← e, k, le-leb (at + 3) (length m) h, ← i)

-- ---- an update whose ID was read by itself

module _ (held : ℕ → Bool) (type_of : ℕ → ℕ) (m : List ℕ) where
  pub update_short : length m < 3 → parse_update held type_of m ≡ Err (fault_at incomplete 1)
  unfolding parse_update pick
  update_short h = rw (lt-leb 3 (length m) h)

  pub update_unknown : (id : ℕ) → 3 ≤ length m → id ≡ decode16 (drop 1 m) → held id ≡ false → parse_update held type_of m ≡ Err (fault_at unknown_id 1)
  unfolding parse_update pick
  update_unknown id h e k = rw (le-leb 3 (length m) h, ← e, k)

  -- the ID is held: what stands behind it is read with its type
  pub update_held : (id t : ℕ) → 3 ≤ length m → id ≡ decode16 (drop 1 m) → held id ≡ true → t ≡ type_of id
      → parse_update held type_of m ≡ parse_behind_update_id id t m
  unfolding parse_update pick
  update_held id t h e k q = rw (le-leb 3 (length m) h, ← e, k, ← q)
