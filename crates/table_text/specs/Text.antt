-- A table as lines that a person can read, in ASCII but for the bytes of names and Strings.
use Rattle.std.specs.Prelude.{ℕ, zero, suc, ◌-◌, ◌+◌, ◌/◌, ◌%◌, ◌||◌, List, [], ◌∷◌, ◌++◌, take, drop, get_or, ltb, eqb}
use Rattle.field.specs.Answer.{done}
use Rattle.field.specs.Choice.{pick}
use Rattle.field.specs.Field.{number_size}
use Rattle.field.specs.Octets.{decode16}
use Rattle.value.specs.Value.{boolean, double, array_of, boolean_size, double_size, count_size}
use Rattle.message.specs.Layout.{Entry}
use Rattle.digits.specs.Digits.{decimal_text, hex_digit}
use Rattle.double_text.specs.Double.{double_text}

abbrev space : List ℕ
space = 32 ∷ []

abbrev newline : List ℕ
newline = 10 ∷ []

-- ---- texts

-- a byte between quotes: a quote and a backslash stand behind a backslash, and bytes below 32 and 127 are `\x` and two hex digits
unfoldable pub quoted_byte : ℕ → List ℕ
quoted_byte b =
    pick (eqb b 34 || eqb b 92) (92 ∷ b ∷ [])
    (pick (ltb b 32 || eqb b 127) (92 ∷ 120 ∷ hex_digit (b / 16) ∷ hex_digit (b % 16) ∷ [])
    (b ∷ []))

unfoldable pub quoted_bytes : List ℕ → List ℕ
quoted_bytes [] = []
quoted_bytes (b ∷ s) = quoted_byte b ++ quoted_bytes s

-- a text in quotes, in which no byte can be mistaken for the end of the text or the line
abbrev pub quoted : List ℕ → List ℕ
quoted s = (34 ∷ []) ++ quoted_bytes s ++ (34 ∷ [])

-- ---- values

-- `false`, `true`
unfoldable pub boolean_text : (flag : ℕ) → List ℕ
boolean_text flag = pick (eqb flag 0) (102 ∷ 97 ∷ 108 ∷ 115 ∷ 101 ∷ []) (116 ∷ 114 ∷ 117 ∷ 101 ∷ [])

-- by the type of the elements: a Boolean, a Double, a String
unfoldable pub element_text : (element : ℕ) → List ℕ → List ℕ
element_text element s =
    pick (eqb element boolean) (boolean_text (get_or s 0 0))
    (pick (eqb element double) (double_text s)
    (quoted (take (decode16 s) (drop number_size s))))

unfoldable pub element_size : (element : ℕ) → List ℕ → ℕ
element_size element s = pick (eqb element boolean) boolean_size (pick (eqb element double) double_size (number_size + decode16 s))

-- so many elements, a space before each
unfoldable pub element_texts : (count element : ℕ) → List ℕ → List ℕ
element_texts zero element s = []
element_texts (suc count) element s = space ++ element_text element s ++ element_texts count element (drop (element_size element s) s)

-- an encoded value: one element, or the elements of an array behind their count
unfoldable pub value_texts : (type : ℕ) → List ℕ → List ℕ
value_texts type s = pick (ltb type array_of) (element_texts 1 type s) (element_texts (get_or s 0 0) (type - array_of) (drop count_size s))

-- `boolean`, `double`, `string`, and with an `s` behind them the arrays
unfoldable pub element_word : (element : ℕ) → List ℕ
element_word element =
    pick (eqb element boolean) (98 ∷ 111 ∷ 111 ∷ 108 ∷ 101 ∷ 97 ∷ 110 ∷ [])
    (pick (eqb element double) (100 ∷ 111 ∷ 117 ∷ 98 ∷ 108 ∷ 101 ∷ [])
    (115 ∷ 116 ∷ 114 ∷ 105 ∷ 110 ∷ 103 ∷ []))

unfoldable pub type_word : (type : ℕ) → List ℕ
type_word type = pick (ltb type array_of) (element_word type) (element_word (type - array_of) ++ (115 ∷ []))

-- ---- lines

-- a line for each entry: ID, name, type, number, value
unfoldable pub entry_text : (id : ℕ) → Entry → List ℕ
entry_text id e =
    decimal_text id ++ space ++ quoted e.name ++ space ++ type_word e.type ++ space ++ decimal_text e.number ++ value_texts e.type e.value ++ newline

-- the lines of entries, from an ID on
unfoldable pub entries_text : (id : ℕ) → List Entry → List ℕ
entries_text id [] = []
entries_text id (e ∷ es) = entry_text id e ++ entries_text (suc id) es

-- `refused`, with the number where a record was refused
unfoldable pub refused_text : (number : ℕ) → List ℕ
refused_text number =
    pick (eqb number done) [] ((114 ∷ 101 ∷ 102 ∷ 117 ∷ 115 ∷ 101 ∷ 100 ∷ 32 ∷ []) ++ decimal_text number ++ newline)

-- the table at the end of a run, and what ended it
abbrev pub end_text : (number : ℕ) → List Entry → List ℕ
end_text number es = entries_text 0 es ++ refused_text number
