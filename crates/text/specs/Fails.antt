-- "the place of the first byte of the field that failed: a text's bytes for 9, a prefix .. for 10"; "with 1 the first field not wholly there".
-- Proved in proofs/FailsLaws.antt.
use Rattle.std.specs.Prelude.{ℕ, ◌+◌, ◌≤◌, ◌<◌, false, List, ◌≡◌, length, take, drop, Err}
use Rattle.field.specs.Answer.{incomplete, not_utf8, too_long}
use Rattle.field.specs.Octets.{decode16}
use Rattle.field.specs.Field.{fault_at}
use Rattle.field.specs.declared.Fault.{Fault}
use Rattle.utf8.specs.Utf8.{is_utf8}
use Rattle.text.specs.Text.{prefix_size, parse_text}

-- the field at the place is not wholly there (1), or breaks the rule of the number, in a text that begins with its prefix
pub data TextFailsAt (maxSize sizeSoFar : ℕ) (s : List ℕ) : (number place : ℕ) → Type 0 where
  -- "a prefix .. for 10": it is there, and says too much
  long_text : prefix_size ≤ length s → maxSize < sizeSoFar + (prefix_size + decode16 s) → TextFailsAt maxSize sizeSoFar s too_long 0
  -- "a text's bytes for 9": they are behind a prefix that says no more than there may be, all of them are there, and they are not UTF-8
  not_text : sizeSoFar + (prefix_size + decode16 s) ≤ maxSize → prefix_size + decode16 s ≤ length s → is_utf8 (take (decode16 s) (drop prefix_size s)) ≡ false → TextFailsAt maxSize sizeSoFar s not_utf8 prefix_size
  -- "a field that is not there ends the reading with 1": the prefix, and the text's bytes behind it
  cut_prefix : length s < prefix_size → TextFailsAt maxSize sizeSoFar s incomplete 0
  cut_text : prefix_size ≤ length s → sizeSoFar + (prefix_size + decode16 s) ≤ maxSize → length s < prefix_size + decode16 s → TextFailsAt maxSize sizeSoFar s incomplete prefix_size

abbrev pub TextFails : Type 0
TextFails =
    (maxSize sizeSoFar : ℕ) (s : List ℕ) (fault : Fault) → parse_text maxSize sizeSoFar s ≡ Err fault
    → TextFailsAt maxSize sizeSoFar s fault.number fault.place

-- and the other way: where it fails so, the text is refused so
abbrev pub TextFailing : Type 0
TextFailing =
    (maxSize sizeSoFar : ℕ) (s : List ℕ) (number place : ℕ) → TextFailsAt maxSize sizeSoFar s number place
    → parse_text maxSize sizeSoFar s ≡ Err (fault_at number place)
