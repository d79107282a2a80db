-- Entries stored one behind the other, as a loop stores them.
use mathlib.Core.Path.{◌≡◌, refl, sym, ap₂, ◌∙◌}
use mathlib.Core.List.{List, [], ◌∷◌, ◌++◌}
use Prim.Native.Nat.{ℕ, ◌+◌}
use native.Mathlib.Numerals.{add-one}
use lib.ListN.{length, length-set}
use Rattle.field.proofs.OverwriteLaws.{length_overwrite}
use Rattle.message.specs.Layout.{Entry}
use Rattle.table.specs.Table.{TableMemory, table_memory, tabulate, heads_with_entry, bytes_with_entry, store_entry}
use Rattle.saved.specs.Calls.{store_all}

store_last : (m : TableMemory) (es : List Entry) (e : Entry) → store_all m (es ++ (e ∷ [])) ≡ store_entry (store_all m es) e
unfolding store_all
store_last m [] e = refl
store_last m (x ∷ es) e = store_last (store_entry m x) es e

pub store_none : (m : TableMemory) (f : ℕ → Entry) → m ≡ store_all m (tabulate 0 f)
unfolding store_all tabulate
store_none m f = refl

-- one more
pub store_more : (m : TableMemory) (f : ℕ → Entry) (heads bytes heads' bytes' : List ℕ) (i : ℕ) (e : Entry)
    → table_memory heads bytes i ≡ store_all m (tabulate i f) → e ≡ f i → heads' ≡ heads_with_entry heads i e → bytes' ≡ bytes_with_entry bytes i e
    → table_memory heads' bytes' (i + 1) ≡ store_all m (tabulate (i + 1) f)
unfolding tabulate store_entry
store_more m f heads bytes heads' bytes' i e h g p q =
    let last : store_all m (tabulate (i + 1) f) ≡ store_entry (store_all m (tabulate i f)) (f i) = rw add-one (store_last m (tabulate i f) (f i)) in
    let now : table_memory heads' bytes' (i + 1) ≡ store_entry (table_memory heads bytes i) e = rw (p, q) in
    now ∙ ap₂ store_entry h g ∙ sym last

pub length_heads : (heads : List ℕ) (i : ℕ) (e : Entry) → length (heads_with_entry heads i e) ≡ length heads
unfolding heads_with_entry
length_heads heads i e = simp length-set

pub length_bytes : (bytes : List ℕ) (i : ℕ) (e : Entry) → length (bytes_with_entry bytes i e) ≡ length bytes
unfolding bytes_with_entry
length_bytes bytes i e = simp length_overwrite
