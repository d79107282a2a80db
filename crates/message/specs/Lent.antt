-- An entry whose name and value are lent: "A local name is lent without a prefix".
use Rattle.std.specs.Prelude.{ℕ, List}
use Rattle.message.specs.Layout.{Entry}
use Rattle.message.specs.declared.LentEntry.{LentEntry}

abbrev pub lent_entry : (name : List ℕ) (type number : ℕ) (value : List ℕ) → Entry
lent_entry name type number value = record { name = name; type = type; number = number; value = value }

abbrev pub entry_lent : LentEntry → Entry
entry_lent e = lent_entry e.name.now e.type_code e.number e.value.now
