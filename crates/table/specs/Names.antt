-- The search over names.
use Rattle.std.specs.Prelude.{ℕ, suc, Bool, true, not, ◌&&◌, List, [], ◌∷◌, length, ltb, Option, Some, None}
use Rattle.field.specs.Choice.{pick}
use Rattle.field.specs.Octets.{bytes_equal}
use Rattle.message.specs.Layout.{Entry}

-- "The search over names ends at the first entry whose name is equal": its ID, or the count where there is none
unfoldable pub holder : List ℕ → List Entry → ℕ
holder name [] = 0
holder name (e ∷ es) = pick (bytes_equal e.name name) 0 (suc (holder name es))

-- some entry has the name
unfoldable pub name_held : List ℕ → List Entry → Bool
name_held name es = ltb (holder name es) (length es)

-- the ID of that entry, where there is one
abbrev pub entry_named : List ℕ → List Entry → Option ℕ
entry_named name es = pick (name_held name es) (Some (holder name es)) None

-- "names that all differ byte for byte": no later entry has an entry's name
unfoldable pub names_differ : List Entry → Bool
names_differ [] = true
names_differ (e ∷ es) = not (name_held e.name es) && names_differ es
