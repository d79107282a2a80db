-- Messages and records that the computed instances share.
use mathlib.Core.List.{List, [], ◌∷◌}
use Prim.Native.Nat.{ℕ}
use lib.ListN.{get_or}
use Rattle.message.specs.Layout.{Entry}
use Rattle.protocol.proofs.Computed.{stale}
use Rattle.line_record.specs.Replay.{replay, result_of}

-- an assignment of a Boolean that is true, with new ID, and the entry that it makes: names of one byte
abbrev pub assignment_of : (name : ℕ) → List ℕ
assignment_of name = 0x10 ∷ 0 ∷ 1 ∷ name ∷ 0 ∷ 255 ∷ 255 ∷ 0 ∷ 9 ∷ 1 ∷ []

abbrev pub entry_of : (name number value : ℕ) → Entry
entry_of name number value = record { name = name ∷ []; type = 0; number = number; value = value ∷ [] }

-- of `a`; updates of it
abbrev pub assign : List ℕ
assign = assignment_of 0x61

abbrev pub update : (number value : ℕ) → List ℕ
update number value = 0x11 ∷ 0 ∷ 0 ∷ 0 ∷ number ∷ value ∷ []

abbrev pub a : (number value : ℕ) → Entry
a = entry_of 0x61

-- the rest of a message is still to come
abbrev pub part : List ℕ
part = 1 ∷ 1 ∷ 65 ∷ 1 ∷ 1 ∷ 2 ∷ []

-- what a replay on memory for two entries reports: its number and its records, and at the end the marks of connections 0 and 1 and what 1 holds
abbrev pub report : List ℕ → List (List ℕ)
report recorded =
    let r = result_of (replay 2 stale recorded) in
    (r.number ∷ r.records ∷ []) ∷ (get_or r.memory.marks 0 0 ∷ get_or r.memory.marks 1 0 ∷ []) ∷ get_or (replay 2 stale recorded).state.held 1 [] ∷ []
