-- Heads as flat numbers, four each: "A head has the lengths, type and number".
use Rattle.std.specs.Prelude.{ℕ, zero, suc, ◌+◌, ◌*◌, ◌<◌, ◌≤◌, ◌≡◌, Bool, true, false, List, [], ◌∷◌, get_or, set, take, drop, length}
use Rattle.std.specs.Fn.{Mut, CalledAt, CalledAtMut}
use Rattle.std.proofs.Common.{Bor, MutBor}
use Rattle.table.specs.Table.{max_entries, head_size, value_length_field, type_field, number_field}
use Rattle.heads.specs.declared.Head.{Head}

-- the numbers of all heads of a table
abbrev pub head_numbers : ℕ
head_numbers = head_size * max_entries

-- the numbers of each head, one after the other
unfoldable pub numbers : List Head → List ℕ
numbers [] = []
numbers (h ∷ hs) = h.name_length ∷ h.value_length ∷ h.type_code ∷ h.number ∷ numbers hs

-- the numbers of the heads that a table has: "64 entry heads"
unfoldable pub flat_heads : List Head → List ℕ
flat_heads hs = numbers (take max_entries hs)

-- what is read where there is no head
abbrev pub no_head : Head
no_head = record { name_length = 0; value_length = 0; type_code = 0; number = 0 }

-- the numbers with those of head i
abbrev pub with_head : List ℕ → ℕ → Head → List ℕ
with_head flat i h =
    set
    (set (set (set flat (i * head_size) h.name_length) (i * head_size + value_length_field) h.value_length) (i * head_size + type_field) h.type_code)
    (i * head_size + number_field)
    h.number

-- head i, of its numbers
abbrev pub head_at : List ℕ → ℕ → Head
head_at flat i =
    record {
      name_length = get_or flat (i * head_size) 0;
      value_length = get_or flat (i * head_size + value_length_field) 0;
      type_code = get_or flat (i * head_size + type_field) 0;
      number = get_or flat (i * head_size + number_field) 0;
    }

-- numbers, with those of the first k heads in their place
unfoldable pub loaded : ℕ → List Head → List ℕ → List ℕ
loaded zero hs flat = flat
loaded (suc k) hs flat = with_head (loaded k hs flat) k (get_or hs k no_head)

-- heads, the first k of them made of numbers
unfoldable pub stored : ℕ → List ℕ → List Head → List Head
stored zero flat hs = hs
stored (suc k) flat hs = set (stored k flat hs) k (head_at flat k)

-- ---- a call made on the numbers of a table's heads: by f, which then is f', it answers r, and heads hs become hs'

-- too few heads: no call is made
pub record NotMade {F R : Type 0} (unsound : R) (f : F) (hs : List Head) (r : R) (f' : F) (hs' : List Head) : Type 0 where
  pub few : length hs < max_entries
  pub unsound_answered : r ≡ unsound
  pub same_call : f' ≡ f
  pub same_heads : hs' ≡ hs

-- the numbers that the call left are the heads', where its answer says that heads may have changed; otherwise heads are as they were
pub record Made {F R : Type 0} (g : Mut F (MutBor (List ℕ) × Unit {0}) (R × (MutBor (List ℕ) × Unit {0}))) (changes : R → Bool)
    (f : F) (hs : List Head) (r : R) (f' : F) (hs' : List Head) : Type 0 where
  pub enough : max_entries ≤ length hs
  pub flat : List ℕ
  pub called : CalledAtMut g f (flat_heads hs) r f' flat
  pub numbers : length flat ≡ head_numbers
  pub changed : changes r ≡ true → flat_heads hs' ≡ flat
  pub unchanged : changes r ≡ false → hs' ≡ hs
  pub past : drop max_entries hs' ≡ drop max_entries hs

-- a call that only reads heads
pub record MadeToRead {F R : Type 0} (g : Mut F (Bor (List ℕ) × Unit {0}) R) (f : F) (hs : List Head) (r : R) (f' : F) : Type 0 where
  pub enough : max_entries ≤ length hs
  pub called : CalledAt g f (flat_heads hs) r f'
