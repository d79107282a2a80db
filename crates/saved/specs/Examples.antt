-- The saved form of one table, and what reading it answers where a byte of it is another: computed.
use Rattle.std.specs.Prelude.{ℕ, List, [], ◌∷◌, ◌++◌, ◌≡◌, take, drop, set, replicate, Err, Ok}
use Rattle.field.specs.Field.{fault_at}
use Rattle.message.specs.Layout.{Entry}
use Rattle.saved.specs.Form.{saved_form}
use Rattle.saved.specs.Reading.{Reading, read_saved}

-- the entry "a", Boolean true, number 2
abbrev pub example_entry : Entry
example_entry = record { name = 97 ∷ []; type = 0; number = 2; value = 1 ∷ [] }

-- count 1; kind 2, name length 1, the name and 63 zeros, type 0, number 2, value length 1, the value and 255 zeros
abbrev pub example_form : List ℕ
example_form = 1 ∷ 1 ∷ 2 ∷ 1 ∷ 97 ∷ (replicate 63 0 ++ (0 ∷ 0 ∷ 2 ∷ 0 ∷ 1 ∷ 1 ∷ replicate 255 0))

abbrev pub FormOfExample : Type 0
FormOfExample = saved_form (example_entry ∷ []) ≡ example_form

-- what is read where byte k is x
abbrev pub read_with : (k x : ℕ) → Reading
read_with k x = read_saved 64 (set example_form k x)

pub record ReadingsOfExample : Type 0 where
  pub whole : read_saved 64 example_form ≡ Ok (example_entry ∷ [])
  pub number : read_with 69 3 ≡ Ok (record { name = 97 ∷ []; type = 0; number = 770; value = 1 ∷ [] } ∷ [])
  -- the first record: kind, count, bytes behind the last one
  pub first_kind : read_with 0 3 ≡ Err (fault_at 4 0)
  pub count_above : read_with 1 65 ≡ Err (fault_at 10 1)
  pub count_short : read_with 1 0 ≡ Err (fault_at 10 2)
  pub bytes_left : read_saved 64 (example_form ++ (0 ∷ [])) ≡ Err (fault_at 10 329)
  -- an entry's: kind, name, type, lengths, value, each filling at its first byte
  pub entry_kind_lem : read_with 2 1 ≡ Err (fault_at 4 2)
  pub name_length_lem : read_with 3 65 ≡ Err (fault_at 10 3)
  pub name_empty : read_with 3 0 ≡ Err (fault_at 15 4)
  pub name_text : read_with 4 255 ≡ Err (fault_at 9 4)
  pub name_filling : read_with 67 1 ≡ Err (fault_at 15 5)
  pub other_type : read_with 68 3 ≡ Err (fault_at 7 68)
  pub value_length_lem : read_with 71 1 ≡ Err (fault_at 10 71)
  pub value_empty : read_with 72 0 ≡ Err (fault_at 1 73)
  pub value_byte : read_with 73 2 ≡ Err (fault_at 8 73)
  pub value_left : read_with 72 2 ≡ Err (fault_at 10 74)
  pub value_filling : read_with 328 1 ≡ Err (fault_at 15 74)
  -- a cut in it, and the same name twice
  pub nothing : read_saved 64 [] ≡ Err (fault_at 1 0)
  pub cut : read_saved 64 (take 328 example_form) ≡ Err (fault_at 1 74)
  pub same_name : read_saved 64 (1 ∷ 2 ∷ (drop 2 example_form ++ drop 2 example_form)) ≡ Err (fault_at 13 329)
  -- 13 before the next record's kind, and before bytes left; behind its own filling
  pub same_name_first : read_saved 64 (1 ∷ 3 ∷ (drop 2 example_form ++ (drop 2 example_form ++ (9 ∷ [])))) ≡ Err (fault_at 13 329)
  pub same_name_left : read_saved 64 (1 ∷ 2 ∷ (drop 2 example_form ++ (drop 2 example_form ++ (9 ∷ [])))) ≡ Err (fault_at 13 329)
  pub same_name_last : read_saved 64 (1 ∷ 2 ∷ (drop 2 example_form ++ drop 2 (set example_form 328 1))) ≡ Err (fault_at 15 401)
