-- "Numbers a call answers with"
use Rattle.std.specs.Prelude.{ℕ, ◌≤◌}

-- "done"
abbrev pub done : ℕ
done = 0

-- "ignored: the message is taken, nothing changes, no output, no recipients"
abbrev pub ignored : ℕ
ignored = 16

-- "message or value not complete"
abbrev pub incomplete : ℕ
incomplete = 1

-- "connection number above 15"
abbrev pub connection_too_high : ℕ
connection_too_high = 2

-- "connection state does not allow this"
abbrev pub wrong_state : ℕ
wrong_state = 3

-- "message kind unknown, or not for this end"
abbrev pub unknown_kind : ℕ
unknown_kind = 4

-- "assignment ID not the one allowed"
abbrev pub wrong_id : ℕ
wrong_id = 5

-- "ID not in the table"
abbrev pub unknown_id : ℕ
unknown_id = 6

-- "type unknown"
abbrev pub unknown_type : ℕ
unknown_type = 7

-- "Boolean byte not 0 or 1"
abbrev pub bad_boolean : ℕ
bad_boolean = 8

-- "text not UTF-8"
abbrev pub not_utf8 : ℕ
not_utf8 = 9

-- "name or value too long, or bytes left after a lone value"
abbrev pub too_long : ℕ
too_long = 10

-- "table full"
abbrev pub table_full : ℕ
table_full = 11

-- "output too short"
abbrev pub output_too_short : ℕ
output_too_short = 12

-- "name already there"
abbrev pub name_taken : ℕ
name_taken = 13

-- "lent table unsound or too small"
abbrev pub unsound : ℕ
unsound = 14

-- "15 for filling that is not zero", of a saved table
abbrev pub bad_filling : ℕ
bad_filling = 15

-- "A refusal (1 to 14)", of a call of 01; loading has 15 too
pub record RefusalNumber (number : ℕ) : Type 0 where
  pub above : incomplete ≤ number
  pub below : number ≤ unsound
