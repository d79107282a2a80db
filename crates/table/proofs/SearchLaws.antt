-- Laws of the entries in a lent table, and of the search over their names.
use mathlib.Core.Path.{◌≡◌, refl, sym, ◌∙◌}
use mathlib.Core.Bool.{Bool, true, false, not, ◌&&◌, true≢false}
use mathlib.Core.List.{List}
use Prim.Native.Nat.{ℕ, ◌+◌, ◌≤◌, ◌<◌}
use native.Mathlib.Numerals.{add-one}
use native.Mathlib.Omega.{arith}
use lib.ListN.{length, drop, length-drop}
use lib.Seq.{length-take-le}
use borrow.Author.Tests.{ltb-true, le-ltb, lt-ltb}
use Rattle.message.specs.Layout.{Entry}
use Rattle.field.specs.Octets.{bytes_equal}
use Rattle.std.proofs.lemmas.Bool.{false_from_ne_true}
use Rattle.field.proofs.EqualLaws.{bytes_equal_true, bytes_equal_false, equal_bytes}
use Rattle.std.specs.Option.{is_some}
use Rattle.std.specs.Prelude.{Some, None}
use mathlib.Core.Logic.{◌≢◌}
use Rattle.field.specs.Choice.{pick}
use Rattle.table.specs.Names.{holder, name_held, names_differ, entry_named}
use Rattle.table.specs.Table.{TableMemory, name_length_field, value_length_field, name_start, value_start, head_field, HasName, HasValue, entry_at, Holds, Named, Readable, tabulate, entries_of}
use Rattle.table.proofs.NamesLaws.{holder_found, holder_absent, holder_most, holder_first, held_at, differ_last, differ_at, at_differ}
use Rattle.table.proofs.TabulateLaws.{length_tabulate, get_d_tabulate, length_entries}

-- ---- an entry that is within memory

module _ (heads bytes : List ℕ) (i : ℕ) where
  pub name_length_lem : HasName i heads bytes → length (entry_at heads bytes i).name ≡ head_field heads i name_length_field
  unfolding entry_at
  name_length_lem h =
      length-take-le (head_field heads i name_length_field) (drop (name_start i) bytes) (omega (arith, length-drop (name_start i) bytes))

  pub value_length_lem : HasValue i heads bytes → length (entry_at heads bytes i).value ≡ head_field heads i value_length_field
  unfolding entry_at
  value_length_lem h =
      length-take-le (head_field heads i value_length_field) (drop (value_start i) bytes) (omega (arith, length-drop (value_start i) bytes))

  pub has_name : {n : ℕ} → Named n heads bytes → i < n → HasName i heads bytes
  has_name m l = omega (arith, m.names_fit i l, m.holds.heads_hold, m.holds.bytes_hold)

  pub has_value : {n : ℕ} → Readable n heads bytes → i < n → HasValue i heads bytes
  has_value r l = omega (arith, r.values_fit i l, r.named.holds.heads_hold, r.named.holds.bytes_hold)

  -- the entry, by what accessors answer
  pub entry_parts : (name : List ℕ) (type number : ℕ) (value : List ℕ) → name ≡ (entry_at heads bytes i).name → type ≡ (entry_at heads bytes i).type
      → number ≡ (entry_at heads bytes i).number → value ≡ (entry_at heads bytes i).value
      → record { name = name; type = type; number = number; value = value } ≡ entry_at heads bytes i
  unfolding entry_at
  entry_parts name type number value n t q v = λ j. record { name = n j; type = t j; number = q j; value = v j }

-- ---- the search

-- none of the first n has the name
pub holder_below : (name : List ℕ) (f : ℕ → Entry) (n : ℕ) → ((i : ℕ) → i < n → bytes_equal (f i).name name ≡ false) → holder name (tabulate n f) ≡ n
holder_below name f n h =
    holder_absent name (tabulate n f) (f 0) (λ i l.
    let b : i < n = omega (arith, length_tabulate n f) in rw (get_d_tabulate n f i (f 0) b) (h i b))
    ∙ length_tabulate n f

-- it is entry id's, and none before it has it
pub holder_at : (name : List ℕ) (f : ℕ → Entry) (n id : ℕ) → id < n → ((i : ℕ) → i < id → bytes_equal (f i).name name ≡ false)
    → bytes_equal (f id).name name ≡ true → holder name (tabulate n f) ≡ id
holder_at name f n id l h t =
    holder_first name (tabulate n f) (f 0) id (omega (arith, length_tabulate n f))
    (λ i m.
    let b : i < n = omega arith in rw (get_d_tabulate n f i (f 0) b) (h i m))
    (rw (get_d_tabulate n f id (f 0) l) t)

-- ---- names that all differ, by their places

pub differ_below : (n : ℕ) (f : ℕ → Entry) → names_differ (tabulate n f) ≡ true → (i j : ℕ) → i < j → j < n → (f i).name ≡ (f j).name → ⊥
differ_below n f h i j l m e =
    let b : j < length (tabulate n f) = omega (arith, length_tabulate n f) in
    differ_at (tabulate n f) (f 0) h i j l b (rw (get_d_tabulate n f i (f 0) (omega arith), get_d_tabulate n f j (f 0) m) e)

-- and the way back
pub below_differ : (n : ℕ) (f : ℕ → Entry) → ((i j : ℕ) → i < j → j < n → (f i).name ≡ (f j).name → ⊥) → names_differ (tabulate n f) ≡ true
below_differ n f h =
    at_differ (tabulate n f) (f 0) (λ i j l m e.
    let b : j < n = omega (arith, length_tabulate n f) in
    h i j l b (rw (get_d_tabulate n f i (f 0) (omega arith), get_d_tabulate n f j (f 0) b) at e))

-- ---- a name held by the first n entries, by their places

pub absent_below : (name : List ℕ) (f : ℕ → Entry) (n : ℕ) → ((i : ℕ) → i < n → bytes_equal (f i).name name ≡ false) → name_held name (tabulate n f) ≡ false
unfolding name_held
absent_below name f n h = le-ltb (holder name (tabulate n f)) (length (tabulate n f)) (omega (arith, holder_below name f n h, length_tabulate n f))

pub held_below : (name : List ℕ) (f : ℕ → Entry) (n i : ℕ) → i < n → bytes_equal (f i).name name ≡ true → name_held name (tabulate n f) ≡ true
held_below name f n i l e = go (name_held name (tabulate n f)) refl
  where
    go : (t : Bool) → name_held name (tabulate n f) ≡ t → t ≡ true
    go true q = refl
    go false q = absurd (true≢false (sym e ∙ rw (get_d_tabulate n f i (f 0) l) at (held_at name (tabulate n f) (f 0) i q (omega (arith, length_tabulate n f)))))

-- one entry more
pub differ_next : (i : ℕ) (f : ℕ → Entry) → names_differ (tabulate (i + 1) f) ≡ (names_differ (tabulate i f) && not (name_held (f i).name (tabulate i f)))
unfolding tabulate
differ_next i f = rw add-one (differ_last (tabulate i f) (f i))

-- entry i's name is held by one before it
pub differ_held : (n : ℕ) (f : ℕ → Entry) (i : ℕ) → i < n → name_held (f i).name (tabulate i f) ≡ true → names_differ (tabulate n f) ≡ false
unfolding name_held
differ_held n f i l t = false_from_ne_true (names_differ (tabulate n f)) (λ d. differ_below n f d (holder (f i).name (tabulate i f)) i h l same)
  where
    h : holder (f i).name (tabulate i f) < i
    h = omega (arith, ltb-true (holder (f i).name (tabulate i f)) (length (tabulate i f)) t, length_tabulate i f)

    same : (f (holder (f i).name (tabulate i f))).name ≡ (f i).name
    same =
        bytes_equal_true (f (holder (f i).name (tabulate i f))).name (f i).name
        (rw (get_d_tabulate i f (holder (f i).name (tabulate i f)) (f 0) h) at (holder_found (f i).name (tabulate i f) (f 0) (omega (arith, h, length_tabulate i f))))

-- ---- fewer entries

module _ {n : ℕ} {heads bytes : List ℕ} (i : ℕ) (l : i ≤ n) where
  pub holds_less : Holds n heads bytes → Holds i heads bytes
  holds_less h = record { heads_hold = omega (arith, h.heads_hold); bytes_hold = omega (arith, h.bytes_hold) }

  pub named_less : Named n heads bytes → Named i heads bytes
  named_less m = record { holds = holds_less m.holds; names_fit = λ j k. m.names_fit j (omega arith) }

  pub readable_less : Readable n heads bytes → Readable i heads bytes
  readable_less r =
      record {
        named = named_less r.named;
        values_fit = λ j k. r.values_fit j (omega arith);
        types_fit = λ j k. r.types_fit j (omega arith);
      }

-- ---- what the search's answer says of the entries of a table

pub found_held : (table : TableMemory) (name : List ℕ) (id : ℕ) → id ≡ holder name (entries_of table) → id < table.count → name_held name (entries_of table) ≡ true
unfolding name_held
found_held table name id e h = rw (← e, length_entries table) (lt-ltb id table.count h)

pub not_found : (table : TableMemory) (name : List ℕ) (id : ℕ) → id ≡ holder name (entries_of table) → table.count ≤ id → name_held name (entries_of table) ≡ false
unfolding name_held
not_found table name id e h = rw (← e, length_entries table) (le-ltb id table.count h)

pub found_most : (table : TableMemory) (name : List ℕ) (id : ℕ) → id ≡ holder name (entries_of table) → id ≤ table.count
found_most table name id e = rw e (omega (arith, holder_most name (entries_of table), length_entries table))

-- ---- the search by the places passed

pub named_at : (name : List ℕ) (f : ℕ → Entry) (n id : ℕ) → id < n → ((i : ℕ) → i < id → (f i).name ≢ name) → (f id).name ≡ name
    → Some id ≡ entry_named name (tabulate n f)
unfolding name_held pick
named_at name f n id l before here =
    let at_id = holder_at name f n id l (λ i m. bytes_equal_false (f i).name name (before i m)) (equal_bytes (f id).name name here) in
    rw (at_id, length_tabulate n f, lt-ltb id n l) refl

pub named_nowhere : (name : List ℕ) (f : ℕ → Entry) (n : ℕ) → ((i : ℕ) → i < n → (f i).name ≢ name) → None ≡ entry_named name (tabulate n f)
unfolding pick
named_nowhere name f n other = rw (absent_below name f n (λ i m. bytes_equal_false (f i).name name (other i m))) refl

pub named_is_some : (name : List ℕ) (es : List Entry) → is_some (entry_named name es) ≡ name_held name es
unfolding pick
named_is_some name es = go (name_held name es)
  where
    go : (held : Bool) → is_some (pick held (Some (holder name es)) None) ≡ held
    go true = refl
    go false = refl
