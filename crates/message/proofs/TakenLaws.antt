-- What is known of an assignment or an update that was read: its bytes are there, and its name and value obey the rules.
use Rattle.message.specs.Read.{AssignmentRead, UpdateRead, an_assignment, an_update}
use Rattle.std.specs.Prelude.{Err, Ok}
use mathlib.Core.Path.{◌≡◌, refl}
use mathlib.Core.Bool.{Bool, true}
use mathlib.Core.List.{List}
use Prim.Native.Nat.{ℕ, ◌+◌, ◌-◌, ◌≤◌}
use native.Mathlib.Omega.{arith}
use lib.ListN.{length, take, drop, get_or, length-take, length-drop}
use lib.Seq.{drop-drop}
use borrow.Author.Tests.{leb-true}
use Rattle.field.specs.Octets.{decode16}
use Rattle.field.specs.Field.{moved_by, and_then, Parsed}
use Rattle.field.specs.declared.Fault.{Fault}
use Rattle.field.proofs.ChoiceLaws.{by_test}
use Rattle.utf8.specs.Utf8.{is_utf8}
use Rattle.text.specs.Text.{parse_text}
use Rattle.text.proofs.TextLaws.{TextIs, text_is}
use Rattle.value.specs.Value.{max_value_size, parse_value, IsValue}
use Rattle.value.proofs.ValueLaws.{value_fits, value_small, value_whole}
use Rattle.reader.specs.Reader.{parse_text_at, parse_value_at}
use Rattle.message.specs.Layout.{WellFormed, max_name_length}
use Rattle.message.specs.Reader.{parse_behind_id, parse_after_name, parse_assignment, parse_behind_update_id, parse_update, entry_in}

-- ---- an assignment

-- its fields are those at their places; n is its name's length
pub record AssignmentFields (m : List ℕ) (n t id number : ℕ) : Type 0 where
  pub name_is : n ≡ decode16 (drop 1 m)
  pub type_is : t ≡ get_or m (3 + n) 0
  pub id_is : id ≡ decode16 (drop (3 + n + 1) m)
  pub number_is : number ≡ decode16 (drop (3 + n + 3) m)

pub data AssignmentIs (allowed : ℕ → Bool) (m : List ℕ) : AssignmentRead → Type 0 where
  refused : {fault : Fault} → AssignmentIs allowed m (Err fault)
  taken : {n t id q v : ℕ} → allowed id ≡ true → 8 + n + v ≤ length m → ((number : ℕ) → WellFormed (entry_in n t number v m))
      → AssignmentFields m n t id q → AssignmentIs allowed m (an_assignment t id q n v)

-- a name of n bytes behind the kind
record NameAt (m : List ℕ) (n : ℕ) : Type 0 where
  name_fits : n ≤ 64
  name_text : is_utf8 (take n (drop 3 m)) ≡ true

value_is : (allowed : ℕ → Bool) (m : List ℕ) (n t id q : ℕ) → NameAt m n → AssignmentFields m n t id q → allowed id ≡ true → 3 + n + 5 ≤ length m
    → AssignmentIs allowed m (and_then Err (parse_value_at t (3 + n + 5) m) (λ v. an_assignment t id q n v))
unfolding parse_value_at
value_is allowed m n t id q name fields a there = go (parse_value t (drop (3 + n + 5) m)) refl
  where
    go : (r : Parsed) → parse_value t (drop (3 + n + 5) m) ≡ r
        → AssignmentIs allowed m (and_then Err (moved_by (3 + n + 5) r) (λ v. an_assignment t id q n v))
    go (Err fault) e = refused
    go (Ok v) e =
        let eight : 3 + n + 5 ≡ 8 + n = omega arith in
        let f : parse_value t (drop (8 + n) m) ≡ Ok v = rw eight at e in
        let all_there : 8 + n + v ≤ length m = omega (arith, value_fits t (drop (8 + n) m) v f, length-drop (8 + n) m) in
        taken {t = t} a all_there (λ number.
        record {
          name_fits = omega (arith, length-take n (drop 3 m), name.name_fits);
          name_text = name.name_text;
          value_whole = value_whole t (drop (8 + n) m) v f;
        }) fields

after_name_is : (allowed : ℕ → Bool) (m : List ℕ) (n : ℕ) → NameAt m n → n ≡ decode16 (drop 1 m) → AssignmentIs allowed m (parse_after_name allowed (3 + n) m)
unfolding parse_after_name parse_behind_id
after_name_is allowed m n name e =
    let n_is : 3 + n - 3 ≡ n = omega arith in
    rw n_is
    (by_test P _ _ _ (λ _.
    by_test P _ _ _ (λ _.
    by_test P _ _ _ (λ _.
    by_test P _ _ _ (λ a.
    by_test P _ _ _ (λ h. value_is allowed m n _ _ _ name (record { name_is = e; type_is = refl; id_is = refl; number_is = refl }) a (leb-true _ _ h))
    (λ _. refused)) (λ _. refused)) (λ _. refused)) (λ _. refused)) (λ _. refused))
  where
    P : AssignmentRead → Type 0
    P = AssignmentIs allowed m

pub assignment_is : (allowed : ℕ → Bool) (m : List ℕ) → AssignmentIs allowed m (parse_assignment allowed m)
unfolding parse_assignment parse_text_at
assignment_is allowed m = go (parse_text 66 0 (drop 1 m)) (text_is 66 0 (drop 1 m))
  where
    go : (r : Parsed) → TextIs 66 0 (drop 1 m) r → AssignmentIs allowed m (and_then Err (moved_by 1 r) (λ size. parse_after_name allowed (1 + size) m))
    go (Err fault) f = refused
    go (Ok k) (TextIs.taken e l h u f) =
        let n = decode16 (drop 1 m) in
        let place : 1 + k ≡ 3 + n = omega arith in
        let name : is_utf8 (take n (drop 3 m)) ≡ true = rw (drop-drop 2 1 m) at u in
        rw place
        (after_name_is allowed m n (record { name_fits = omega arith; name_text = name }) refl)

pub assignment_taken : (allowed : ℕ → Bool) (m : List ℕ) (n t id q v : ℕ) → parse_assignment allowed m ≡ an_assignment t id q n v
    → (allowed id ≡ true) × (8 + n + v ≤ length m) × ((number : ℕ) → WellFormed (entry_in n t number v m))
assignment_taken allowed m n t id q v e = go (rw e at (assignment_is allowed m))
  where
    go : AssignmentIs allowed m (an_assignment t id q n v) → (allowed id ≡ true) × (8 + n + v ≤ length m) × ((number : ℕ) → WellFormed (entry_in n t number v m))
    go (AssignmentIs.taken a h w f) = (a, h, w)

-- ---- an update

pub data UpdateIs (held : ℕ → Bool) (type_of : ℕ → ℕ) (m : List ℕ) : UpdateRead → Type 0 where
  refused : {fault : Fault} → UpdateIs held type_of m (Err fault)
  taken : {id q v : ℕ} → held id ≡ true → 5 + v ≤ length m → IsValue (type_of id) (take v (drop 5 m)) → id ≡ decode16 (drop 1 m) → q ≡ decode16 (drop 3 m)
      → UpdateIs held type_of m (an_update id q v)

pub update_is : (held : ℕ → Bool) (type_of : ℕ → ℕ) (m : List ℕ) → UpdateIs held type_of m (parse_update held type_of m)
unfolding parse_behind_update_id parse_update parse_value_at
update_is held type_of m =
    by_test P _ _ _ (λ _. by_test P _ _ _ (λ h. by_test P _ _ _ (λ l. go h (leb-true _ _ l) _ refl)
    (λ _. UpdateIs.refused)) (λ _. UpdateIs.refused)) (λ _. UpdateIs.refused)
  where
    P : UpdateRead → Type 0
    P = UpdateIs held type_of m

    go : held (decode16 (drop 1 m)) ≡ true → 5 ≤ length m → (r : Parsed) → parse_value (type_of (decode16 (drop 1 m))) (drop 5 m) ≡ r
        → P (and_then Err (moved_by 5 r) (λ v. an_update (decode16 (drop 1 m)) (decode16 (drop 3 m)) v))
    go h l (Err fault) e = UpdateIs.refused
    go h l (Ok v) e =
        let all_there : 5 + v ≤ length m = omega (arith, value_fits (type_of (decode16 (drop 1 m))) (drop 5 m) v e, length-drop 5 m) in
        UpdateIs.taken h all_there (value_whole (type_of (decode16 (drop 1 m))) (drop 5 m) v e) refl refl

pub update_taken : (held : ℕ → Bool) (type_of : ℕ → ℕ) (m : List ℕ) (id q v : ℕ) → parse_update held type_of m ≡ an_update id q v
    → (held id ≡ true) × (5 + v ≤ length m) × IsValue (type_of id) (take v (drop 5 m))
update_taken held type_of m id q v e = go (rw e at (update_is held type_of m))
  where
    go : UpdateIs held type_of m (an_update id q v) → (held id ≡ true) × (5 + v ≤ length m) × IsValue (type_of id) (take v (drop 5 m))
    go (UpdateIs.taken a h w i n) = (a, h, w)

-- ---- how long name and value are

pub part_length : (from n : ℕ) (m : List ℕ) → from + n ≤ length m → length (take n (drop from m)) ≡ n
part_length from n m h = simp (length-take, length-drop) (omega arith)

pub assignment_fits : (allowed : ℕ → Bool) (m : List ℕ) (n t id q v : ℕ) → parse_assignment allowed m ≡ an_assignment t id q n v
    → (8 + n + v ≤ length m) × (n ≤ max_name_length) × (v ≤ max_value_size)
assignment_fits allowed m n t id q v e =
    let w = assignment_taken allowed m n t id q v e in
    let f = w.2 0 in
    (w.1, omega (arith, f.name_fits, part_length 3 n m (omega (arith, w.1))), omega (arith, value_small t (take v (drop (8 + n) m)) (length (take v (drop (8 + n) m))) f.value_whole, part_length (8 + n) v m w.1))

pub update_fits : (held : ℕ → Bool) (type_of : ℕ → ℕ) (m : List ℕ) (id q v : ℕ) → parse_update held type_of m ≡ an_update id q v
    → (held id ≡ true) × (5 + v ≤ length m) × (v ≤ max_value_size)
update_fits held type_of m id q v e =
    let w = update_taken held type_of m id q v e in
    (w.0, w.1, omega (arith, value_small (type_of id) (take v (drop 5 m)) (length (take v (drop 5 m))) w.2, part_length 5 v m w.1))
