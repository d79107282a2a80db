-- Laws of the texts of a type, and of its values.
use mathlib.Core.Path.{◌≡◌, refl, sym, ap, ◌∙◌}
use mathlib.Core.List.{List, [], ◌∷◌, ◌++◌}
use Prim.Native.Nat.{ℕ, zero, suc, ◌+◌, ◌-◌, ◌≤◌, ◌<◌, min}
use native.Mathlib.Decide.{dec_le}
use native.Mathlib.Omega.{arith}
use borrow.Author.Tests.{ne_eqb, lt-ltb, le-ltb}
use lib.Dec.{eqb}
use lib.ListN.{drop, get_or}
use Rattle.field.specs.Choice.{pick}
use Rattle.field.proofs.ChoiceLaws.{pick_true, pick_false}
use Rattle.value.specs.Value.{boolean, double, string, array_of, count_size}
use Rattle.value.specs.Types.{element_code}
use Rattle.value.specs.declared.Element.{Element}
use Rattle.value.specs.declared.Element.TheVariants as E
use Rattle.table_text.specs.Text.{element_text, element_size, element_texts, value_texts, element_word, type_word}

-- ---- a code above a String's is shown as a String's

above : {X : Type 0} (code : ℕ) (x y z : X) → string ≤ code → pick (eqb code boolean) x (pick (eqb code double) y z) ≡ z
above code x y z h = pick_false _ _ (ne_eqb code boolean (λ e. omega arith)) ∙ pick_false _ _ (ne_eqb code double (λ e. omega arith))

word_above : (code : ℕ) → string ≤ code → element_word code ≡ element_word string
unfolding element_word pick
word_above code h = above code _ _ _ h

text_above : (code : ℕ) (s : List ℕ) → string ≤ code → element_text code s ≡ element_text string s
unfolding element_text pick
text_above code s h = above code _ _ _ h

size_above : (code : ℕ) (s : List ℕ) → string ≤ code → element_size code s ≡ element_size string s
unfolding element_size pick
size_above code s h = above code _ _ _ h

texts_above : (count code : ℕ) (s : List ℕ) → string ≤ code → element_texts count code s ≡ element_texts count string s
unfolding element_texts
texts_above zero code s h = refl
texts_above (suc count) code s h = rw (text_above code s h, size_above code s h, texts_above count code (drop (element_size string s) s) h)

-- so it is with the lesser of both
lesser : {X : Type 0} (f : ℕ → X) (code r : ℕ) → r ≡ min code string → (string ≤ code → f code ≡ f string) → f r ≡ f code
lesser f code r e h = elim (dec_le string code) [
  | yes l ↦ let k : r ≡ string = omega arith in rw k (sym (h l))
  | no l ↦ ap f (omega (arith, l))
]

code_most : (element : Element) → element_code element ≤ string
code_most E.Boolean = omega arith
code_most E.Double = omega arith
code_most E.String = omega arith

behind : (r : ℕ) → array_of + r - array_of ≡ r
behind r = omega arith

-- ---- a type's word

word_single : (code : ℕ) → code < array_of → type_word code ≡ element_word code
unfolding type_word
word_single code h = pick_true _ _ (lt-ltb _ _ h)

word_array : (code : ℕ) → array_of ≤ code → type_word code ≡ element_word (code - array_of) ++ (115 ∷ [])
unfolding type_word
word_array code h = pick_false _ _ (le-ltb _ _ h)

pub single_word : (code r : ℕ) → code < array_of → r ≡ min code string → type_word r ≡ type_word code
single_word code r h e = word_single r (omega arith) ∙ lesser element_word code r e (word_above code) ∙ sym (word_single code h)

pub array_word : (code r : ℕ) → array_of ≤ code → r ≡ min (code - array_of) string → type_word (array_of + r) ≡ type_word code
array_word code r h e =
    word_array (array_of + r) (omega arith)
    ∙ rw (behind r) (ap (λ (w : List ℕ). w ++ (115 ∷ [])) (lesser element_word (code - array_of) r e (word_above (code - array_of))))
    ∙ sym (word_array code h)

pub word_of_single : (element : Element) → type_word (element_code element) ≡ element_word (element_code element)
word_of_single element = word_single (element_code element) (omega (arith, code_most element))

pub word_of_array : (element : Element) → type_word (array_of + element_code element) ≡ element_word (element_code element) ++ (115 ∷ [])
word_of_array element = rw (behind (element_code element)) at (word_array (array_of + element_code element) (omega arith))

pub ruleset words = (word_of_single, word_of_array)

-- ---- a value's elements

texts_single : (code : ℕ) (s : List ℕ) → code < array_of → value_texts code s ≡ element_texts 1 code s
unfolding value_texts
texts_single code s h = pick_true _ _ (lt-ltb _ _ h)

texts_array : (code : ℕ) (s : List ℕ) → array_of ≤ code → value_texts code s ≡ element_texts (get_or s 0 0) (code - array_of) (drop count_size s)
unfolding value_texts
texts_array code s h = pick_false _ _ (le-ltb _ _ h)

pub single_texts : (code r : ℕ) (s : List ℕ) → code < array_of → r ≡ min code string → value_texts r s ≡ value_texts code s
single_texts code r s h e =
    texts_single r s (omega arith) ∙ lesser (λ (k : ℕ). element_texts 1 k s) code r e (texts_above 1 code s) ∙ sym (texts_single code s h)

pub array_texts : (code r : ℕ) (s : List ℕ) → array_of ≤ code → r ≡ min (code - array_of) string → value_texts (array_of + r) s ≡ value_texts code s
array_texts code r s h e =
    let n = get_or s 0 0 in
    texts_array (array_of + r) s (omega arith)
    ∙ rw (behind r) (lesser (λ (k : ℕ). element_texts n k (drop count_size s)) (code - array_of) r e (texts_above n (code - array_of) (drop count_size s)))
    ∙ sym (texts_array code s h)

pub texts_of_single : (element : Element) (s : List ℕ) → value_texts (element_code element) s ≡ element_texts 1 (element_code element) s
texts_of_single element s = texts_single (element_code element) s (omega (arith, code_most element))

pub texts_of_array : (element : Element) (s : List ℕ) → value_texts (array_of + element_code element) s ≡ element_texts (get_or s 0 0) (element_code element) (drop count_size s)
texts_of_array element s = rw (behind (element_code element)) at (texts_array (array_of + element_code element) s (omega arith))

pub ruleset texts = (texts_of_single, texts_of_array)

pub ruleset shown = (single_word, array_word, single_texts, array_texts)

-- a space, an element, and what stands behind it
pub elements_next : (count code i : ℕ) (s : List ℕ) → i < count
    → element_texts (count - i) code s ≡ (32 ∷ []) ++ element_text code s ++ element_texts (count - (i + 1)) code (drop (element_size code s) s)
unfolding element_texts
elements_next count code i s h =
    let e : count - i ≡ suc (count - (i + 1)) = omega arith in
    rw e

-- no element is left
pub elements_end : (count code i : ℕ) (s : List ℕ) → count ≤ i → element_texts (count - i) code s ≡ []
unfolding element_texts
elements_end count code i s h =
    let e : count - i ≡ 0 = omega arith in
    rw e

pub ruleset elements = (elements_next, elements_end)
