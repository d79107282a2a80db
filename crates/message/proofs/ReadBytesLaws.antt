-- The bytes that a message was read from are its layout: each field stands at its place, and the rest behind it.
use mathlib.Core.Path.{◌≡◌, refl, sym, ap, ◌∙◌}
use mathlib.Core.List.{List, [], ◌∷◌, ◌++◌, append_assoc}
use Prim.Native.Nat.{ℕ, suc, ◌+◌, ◌/◌, ◌%◌, ◌≤◌}
use native.Mathlib.Nat.{div-add-mod', mod-lt}
use native.Mathlib.Numerals.{add-one}
use native.Mathlib.Omega.{arith}
use lib.ListN.{length, take, drop, get_or, take-append-drop}
use lib.Seq.{drop-cons, drop-drop, drop-append_seam}
use Rattle.field.specs.Octets.{decode16, encode16}
use Rattle.field.proofs.OctetsLaws.{decode_at}
use Rattle.message.specs.Layout.{Entry, assignment, update, assignment_bytes, update_bytes, revision_bytes, layout, assignment_kind, update_kind}
use Rattle.message.specs.Reader.{update_value_in, Bytes, BeginsWith, entry_in}
use Rattle.message.proofs.TakenLaws.{part_length, AssignmentFields}

-- what stands behind the first bytes is the rest
begins : (a r m : List ℕ) → m ≡ a ++ r → m ≡ a ++ drop (length a) m
begins a r m e = e ∙ ap (λ (s : List ℕ). a ++ s) (sym (drop-append_seam a r) ∙ ap (drop (length a)) (sym e))

-- ---- a field stands at its place, and what is behind it

module _ (m : List ℕ) (k next : ℕ) where
  octet_then : next ≡ k + 1 → next ≤ length m → drop k m ≡ get_or m k 0 ∷ drop next m
  octet_then e h =
      let n : next ≡ suc k = e ∙ add-one k in
      rw n (drop-cons m k 0 (omega arith))

  part_then : (n : ℕ) → next ≡ k + n → drop k m ≡ take n (drop k m) ++ drop next m
  part_then n e = rw (e, ← (drop-drop n k m)) (sym (take-append-drop n (drop k m)))

number_then : (m : List ℕ) (k next : ℕ) → Bytes m → next ≡ k + 2 → next ≤ length m → drop k m ≡ encode16 (decode16 (drop k m)) ++ drop next m
unfolding encode16
number_then m k next b e h =
    let n = decode16 (drop k m) in
    let high : n / 256 ≡ get_or m k 0 = omega (arith, decode_at m k, div-add-mod' n 256, mod-lt n {m = 256} (omega arith), b (k + 1)) in
    let low : n % 256 ≡ get_or m (k + 1) 0 = omega (arith, decode_at m k, div-add-mod' n 256, mod-lt n {m = 256} (omega arith), b (k + 1)) in
    let first = octet_then m k (k + 1) refl (omega arith) in
    let second = octet_then m (k + 1) next (omega arith) h in
    rw (high, low) (first ∙ ap (λ (l : List ℕ). get_or m k 0 ∷ l) second)

-- ---- an assignment

assignment_then : (id : ℕ) (e : Entry) (rest : List ℕ)
    → assignment_bytes id e ++ rest ≡ assignment_kind ∷ (encode16 (length e.name) ++ (e.name ++ (e.type ∷ (encode16 id ++ (encode16 e.number ++ (e.value ++ rest))))))
unfolding assignment_bytes encode16
assignment_then id e rest = rw (append_assoc e.name (e.type ∷ (encode16 id ++ (encode16 e.number ++ e.value))) rest)

pub assignment_stands : (m : List ℕ) (n t id number v : ℕ) → Bytes m → get_or m 0 0 ≡ assignment_kind → AssignmentFields m n t id number → 8 + n + v ≤ length m
    → BeginsWith m (assignment id (entry_in n t number v m))
unfolding layout
assignment_stands m n t id number v b k f h =
    let kind = octet_then m 0 1 refl (omega arith) in
    let name_length_lem = number_then m 1 3 b refl (omega arith) in
    let name = part_then m 3 (3 + n) n refl in
    let type = octet_then m (3 + n) (3 + n + 1) refl (omega arith) in
    let id-there = number_then m (3 + n + 1) (3 + n + 3) b (omega arith) (omega arith) in
    let number_there = number_then m (3 + n + 3) (8 + n) b (omega arith) (omega arith) in
    let value = part_then m (8 + n) (8 + n + v) v refl in
    let whole : m ≡ assignment_kind ∷ (encode16 n ++ (take n (drop 3 m) ++ (t ∷ (encode16 id ++ (encode16 number ++ (take v (drop (8 + n) m) ++ drop (8 + n + v) m)))))) = cc in
    begins (assignment_bytes id (entry_in n t number v m)) (drop (8 + n + v) m) m
    (whole ∙ sym (rw (part_length 3 n m (omega arith)) at (assignment_then id (entry_in n t number v m) (drop (8 + n + v) m))))

-- ---- an update

update_then : (id number : ℕ) (value rest : List ℕ) → update_bytes id number value ++ rest ≡ update_kind ∷ (encode16 id ++ (encode16 number ++ (value ++ rest)))
unfolding update_bytes encode16
update_then id number value rest = refl

pub update_stands : (m : List ℕ) (id number v : ℕ) → Bytes m → get_or m 0 0 ≡ update_kind → id ≡ decode16 (drop 1 m) → number ≡ decode16 (drop 3 m) → 5 + v ≤ length m
    → BeginsWith m (update id number (update_value_in v m))
unfolding layout
update_stands m id number v b k i q h =
    let kind = octet_then m 0 1 refl (omega arith) in
    let id-there = number_then m 1 3 b refl (omega arith) in
    let number_there = number_then m 3 5 b refl (omega arith) in
    let value = part_then m 5 (5 + v) v refl in
    let whole : m ≡ update_kind ∷ (encode16 id ++ (encode16 number ++ (take v (drop 5 m) ++ drop (5 + v) m))) = cc in
    begins (update_bytes id number (update_value_in v m)) (drop (5 + v) m) m (whole ∙ sym (update_then id number (update_value_in v m) (drop (5 + v) m)))

-- ---- the others

pub revision_stands : (m : List ℕ) (kind : ℕ) → Bytes m → get_or m 0 0 ≡ kind → 3 ≤ length m
    → m ≡ revision_bytes kind (decode16 (drop 1 m)) ++ drop (length (revision_bytes kind (decode16 (drop 1 m)))) m
unfolding revision_bytes encode16
revision_stands m kind b k h = rw (← k) (octet_then m 0 1 refl (omega arith) ∙ ap (λ (l : List ℕ). get_or m 0 0 ∷ l) (number_then m 1 3 b refl h))

pub kind_stands : (m : List ℕ) (kind : ℕ) → get_or m 0 0 ≡ kind → 1 ≤ length m → m ≡ (kind ∷ []) ++ drop 1 m
kind_stands m kind k h = rw (← k) (octet_then m 0 1 refl h)
