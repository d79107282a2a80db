-- `put_record` stores `entry_record`: seven stores, each where the one before it ended (`store_behind`), come to one.
use mathlib.Core.Path.{◌≡◌, refl}
use mathlib.Core.List.{List, [], ◌∷◌, ◌++◌}
use Prim.Native.Nat.{ℕ, ◌+◌}
use native.Mathlib.Omega.{arith}
use lib.ListN.{length, length-append}
use Rattle.field.specs.Octets.{encode16}
use Rattle.field.proofs.OctetsLaws.{length_encode16}
use Rattle.value.specs.Value.{max_value_size}
use Rattle.message.specs.Layout.{Entry, max_name_length}
use Rattle.saved.specs.Form.{entry_kind, name_length_place, name_place, type_place, number_place, value_length_place, value_place, filled}
use Rattle.save.proofs.FormLaws.{length_filled, record_parts}
use Rattle.save.proofs.SaveLaws.{store_behind}
use Rattle.save.proofs.put_record.Goals as goal

pub returns : goal.returns
returns c =
    let out = c.args.out.now in
    let at = c.args.at in
    let name = c.args.entry.name.now in
    let value = c.args.entry.value.now in
    let b2 : List ℕ = (entry_kind ∷ []) ++ (length name ∷ []) in
    let b3 : List ℕ = b2 ++ filled max_name_length name in
    let b4 : List ℕ = b3 ++ (c.args.entry.type_code ∷ []) in
    let b5 : List ℕ = b4 ++ encode16 c.args.entry.number in
    let b6 : List ℕ = b5 ++ encode16 (length value) in
    let l3 : length b3 ≡ type_place = omega (arith, length-append b2 (filled max_name_length name), length_filled max_name_length name c.requires.lengths.0) in
    let l4 : length b4 ≡ number_place = omega (arith, length-append b3 (c.args.entry.type_code ∷ []), l3) in
    let l5 : length b5 ≡ value_length_place = omega (arith, length-append b4 (encode16 c.args.entry.number), l4, length_encode16 c.args.entry.number) in
    let l6 : length b6 ≡ value_place = omega (arith, length-append b5 (encode16 (length value)), l5, length_encode16 (length value)) in
    let s2 = store_behind out at (entry_kind ∷ []) c.put_u8.new.out (at + name_length_place) (length name ∷ []) c.put_u8-2.new.out (rw c.from.ensures at c.put_u8.ensures) refl c.put_u8-2.ensures in
    let s3 = store_behind out at b2 c.put_u8-2.new.out (at + name_place) (filled max_name_length name) c.put_name.new.out s2 refl c.put_name.ensures in
    let s4 = store_behind out at b3 c.put_name.new.out (at + type_place) (c.args.entry.type_code ∷ []) c.put_u8-3.new.out s3 (omega (arith, l3)) c.put_u8-3.ensures in
    let s5 = store_behind out at b4 c.put_u8-3.new.out (at + number_place) (encode16 c.args.entry.number) c.put_u16.new.out s4 (omega (arith, l4)) c.put_u16.ensures in
    let s6 = store_behind out at b5 c.put_u16.new.out (at + value_length_place) (encode16 (length value)) c.put_u16-2.new.out s5 (omega (arith, l5)) c.put_u16-2.ensures in
    let s7 = store_behind out at b6 c.put_u16-2.new.out (at + value_place) (filled max_value_size value) c.put_value.new.out s6 (omega (arith, l6)) c.put_value.ensures in
    let e : Entry = record { name = name; type = c.args.entry.type_code; number = c.args.entry.number; value = value } in
    rw (record_parts e) at s7
