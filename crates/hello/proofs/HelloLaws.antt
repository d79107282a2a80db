-- Laws of the answer to a hello.
use mathlib.Core.Path.{◌≡◌, refl, sym, ap, ◌∙◌}
use mathlib.Core.List.{List, [], ◌∷◌, ◌++◌, append_assoc, append-nil}
use Prim.Native.Nat.{ℕ, zero, suc, ◌+◌, ◌-◌, ◌*◌, ◌≤◌, ◌<◌}
use native.Mathlib.Nat.{not-suc-le-zero, add-zero}
use native.Mathlib.Decide.{dec_lt}
use native.Mathlib.Numerals.{add-one}
use native.Mathlib.Omega.{arith}
use lib.ListN.{length, take, drop, length-append}
use Rattle.field.specs.Octets.{overwrite_at}
use Rattle.field.proofs.OverwriteLaws.{overwrite_part}
use Rattle.message.specs.Layout.{Entry, assignment_bytes, longest_assignment}
use Rattle.message.proofs.ReadBack.{length_assignment, longest_assignment_lem}
use Rattle.table.specs.Table.{name_length_field, value_length_field, head_field, entry_at, Readable, tabulate}
use Rattle.table.proofs.TabulateLaws.{length_tabulate}
use Rattle.table.proofs.SearchLaws.{name_length_lem, value_length_lem, has_name, has_value, readable_less}
use Rattle.hello.specs.Hello.{hello_answer, HelloLength}

-- ---- the answer as a loop writes it

-- the assignments of the first n entries
unfoldable pub assignments_below : ℕ → (ℕ → Entry) → List ℕ
assignments_below zero f = []
assignments_below (suc n) f = assignments_below n f ++ assignment_bytes n (f n)

pub below_none : (f : ℕ → Entry) → assignments_below 0 f ≡ []
unfolding assignments_below
below_none f = refl

pub below_more : (n : ℕ) (f : ℕ → Entry) → assignments_below (n + 1) f ≡ assignments_below n f ++ assignment_bytes n (f n)
unfolding assignments_below
below_more n f = ap (λ (k : ℕ). assignments_below k f) (add-one n)

assignments : ℕ → List Entry → List ℕ
assignments id [] = []
assignments id (e ∷ es) = assignment_bytes id e ++ assignments (suc id) es

hello_assignments : (id : ℕ) (es : List Entry) → hello_answer id es ≡ assignments id es ++ (3 ∷ [])
unfolding hello_answer assignments
hello_assignments id [] = refl
hello_assignments id (e ∷ es) =
    rw (hello_assignments (suc id) es) (sym (append_assoc (assignment_bytes id e) (assignments (suc id) es) (3 ∷ [])))

assignments_last : (id : ℕ) (es : List Entry) (e : Entry) → assignments id (es ++ (e ∷ [])) ≡ assignments id es ++ assignment_bytes (id + length es) e
unfolding assignments
assignments_last id [] e = rw (add-zero id) (append-nil (assignment_bytes id e))
assignments_last id (x ∷ es) e =
    let k : suc id + length es ≡ id + suc (length es) = omega arith in
    rw (assignments_last (suc id) es e, k) (sym (append_assoc (assignment_bytes id x) (assignments (suc id) es) (assignment_bytes (id + suc (length es)) e)))

below_assignments : (n : ℕ) (f : ℕ → Entry) → assignments_below n f ≡ assignments 0 (tabulate n f)
unfolding assignments_below tabulate assignments
below_assignments zero f = refl
below_assignments (suc n) f =
    let k : 0 + length (tabulate n f) ≡ n = omega (arith, length_tabulate n f) in
    rw (assignments_last 0 (tabulate n f) (f n), k, below_assignments n f)

-- the assignments, then 0x03
pub hello_below : (n : ℕ) (f : ℕ → Entry) → hello_answer 0 (tabulate n f) ≡ assignments_below n f ++ (3 ∷ [])
hello_below n f =
    hello_assignments 0 (tabulate n f) ∙ ap (λ (b : List ℕ). b ++ (3 ∷ [])) (sym (below_assignments n f))

-- ---- how long it is

pub length_below_more : (n : ℕ) (f : ℕ → Entry) → length (assignments_below (n + 1) f) ≡ length (assignments_below n f) + length (assignment_bytes n (f n))
length_below_more n f = rw (below_more n f) (length-append (assignments_below n f) (assignment_bytes n (f n)))

pub length_hello_below : (n : ℕ) (f : ℕ → Entry) → length (hello_answer 0 (tabulate n f)) ≡ length (assignments_below n f) + 1
length_hello_below n f = rw (hello_below n f) (length-append (assignments_below n f) (3 ∷ []))

-- what is written so far is no longer than what is written in the end
pub length_below_mono : (i n : ℕ) (f : ℕ → Entry) → i < n → length (assignments_below (i + 1) f) ≤ length (assignments_below n f)
unfolding assignments_below
length_below_mono i zero f h = absurd (not-suc-le-zero h)
length_below_mono i (suc n) f h = elim (dec_lt i n) [
  | yes l ↦ omega (arith, length_below_mono i n f l, length-append (assignments_below n f) (assignment_bytes n (f n)))
  | no l ↦ (
      let e : i ≡ n = omega (arith, l) in
      rw e (omega (arith, length_below_more n f, length-append (assignments_below n f) (assignment_bytes n (f n)))))
]

pub length_hello : HelloLength
unfolding hello_answer
length_hello id [] d h = omega arith
length_hello id (e ∷ es) d h =
    omega (arith, length-append (assignment_bytes id e) (hello_answer (suc id) es), longest_assignment_lem id e (h 0 (omega arith)), length_hello (suc id) es d (λ i l. h (suc i) (omega arith)))

-- ---- the entries of a lent table

-- an assignment's length, by the heads alone
pub length_entry : (n : ℕ) (heads bytes : List ℕ) (i : ℕ) → Readable n heads bytes → i < n
    → length (assignment_bytes i (entry_at heads bytes i)) ≡ head_field heads i name_length_field + head_field heads i value_length_field + 8
length_entry n heads bytes i r l =
    let name = name_length_lem heads bytes i (has_name heads bytes i r.named l) in
    let value = value_length_lem heads bytes i (has_value heads bytes i r l) in
    omega (arith, length_assignment i (entry_at heads bytes i), name, value)

pub entry_most : (n : ℕ) (heads bytes : List ℕ) (i : ℕ) → Readable n heads bytes → i < n → length (assignment_bytes i (entry_at heads bytes i)) ≤ longest_assignment
entry_most n heads bytes i r l = omega (arith, length_entry n heads bytes i r l, r.named.names_fit i l, r.values_fit i l)

-- at most 328 bytes an entry
pub length_below_most : (n : ℕ) (heads bytes : List ℕ) → Readable n heads bytes → length (assignments_below n (entry_at heads bytes)) ≤ longest_assignment * n
unfolding assignments_below
length_below_most zero heads bytes r = omega arith
length_below_most (suc n) heads bytes r =
    omega (arith, length_below_most n heads bytes (readable_less n (omega arith) r), entry_most (suc n) heads bytes n r (omega arith), length-append (assignments_below n (entry_at heads bytes)) (assignment_bytes n (entry_at heads bytes n)))

-- ---- a message stored in what is left of the output from e on, seen in the whole

pub overwrite_rest : (d l zs : List ℕ) (e : ℕ) → e + length zs ≤ length d → l ≡ overwrite_at (take (length d - e) (drop e d)) 0 zs
    → take e d ++ (l ++ drop (length d - e) (drop e d)) ≡ overwrite_at d e zs
overwrite_rest d l zs e room h =
    let k : e + 0 ≡ e = omega arith in
    rw h (overwrite_part d e (length d - e) 0 zs (omega arith) (omega arith) ∙ rw k)

-- ---- room for what is left of the answer

pub room_for_next : (n id end k : ℕ) (f : ℕ → Entry) → id < n → end ≡ length (assignments_below id f) → length (hello_answer 0 (tabulate n f)) ≤ k
    → end + length (assignment_bytes id (f id)) + 1 ≤ k
room_for_next n id end k f l e h = omega (arith, length_hello_below n f, length_below_more id f, length_below_mono id n f l)

pub room_for_last : (n end k : ℕ) (f : ℕ → Entry) → end ≡ length (assignments_below n f) → length (hello_answer 0 (tabulate n f)) ≤ k → end + 1 ≤ k
room_for_last n end k f e h = omega (arith, length_hello_below n f)
