-- Reading back what was written: a message's bytes, whatever stands behind them, give its fields again.
use Rattle.message.specs.Read.{an_assignment, an_update}
use Rattle.std.specs.Prelude.{Ok}
use mathlib.Core.Path.{◌≡◌, refl, sym, ap, ◌∙◌}
use mathlib.Core.Bool.{Bool, true}
use mathlib.Core.List.{List, [], ◌∷◌, ◌++◌, append_assoc}
use mathlib.Core.Option.{some}
use Prim.Native.Nat.{ℕ, suc, ◌+◌, ◌-◌, ◌≤◌}
use native.Mathlib.Omega.{arith}
use native.Mathlib.Nat.{add-zero}
use lib.ListN.{length, take, drop, get_or, length-append}
use lib.Seq.{take-append_seam, drop-append_seam, drop-drop, get_or-drop}
use borrow.Author.Tests.{le-leb}
use Rattle.field.specs.Choice.{pick}
use Rattle.field.specs.Octets.{decode16, encode16}
use Rattle.field.proofs.OctetsLaws.{decode_encode}
use Rattle.text.proofs.TextLaws.{text_back}
use Rattle.value.specs.Value.{IsValue}
use Rattle.value.proofs.ValueLaws.{value_back, value_known, value_small}
use Rattle.reader.specs.Reader.{parse_text_at, parse_value_at}
use Rattle.message.specs.Layout.{Entry, keep_alive, hello, unsupported, hello_complete, assignment, update, assignment_bytes, update_bytes, revision_bytes, layout, WellFormed, keep_alive_kind, hello_kind, unsupported_kind, hello_complete_kind, assignment_kind, update_kind}
use Rattle.message.specs.Reader.{id_allowed, parse_name, parse_behind_id, parse_after_name, parse_assignment, parse_behind_update_id, parse_update, parse_revision, parse_by_kind, parse_message, of_assignment, of_update, contents}
use Rattle.message.specs.Laws.{LongestAssignment, LongestUpdate, ReadBack, SameBytes}
use Rattle.message.specs.declared.AllowedId.TheVariants.{Any}
use Rattle.message.specs.declared.Decoded.TheVariants as D

-- ---- lengths

pub length_assignment : (id : ℕ) (e : Entry) → length (assignment_bytes id e) ≡ 8 + length e.name + length e.value
unfolding assignment_bytes encode16
length_assignment id e = rw (length-append e.name (e.type ∷ (encode16 id ++ (encode16 e.number ++ e.value)))) (omega arith)

pub length_update : (id number : ℕ) (value : List ℕ) → length (update_bytes id number value) ≡ 5 + length value
unfolding update_bytes encode16
length_update id number value = omega arith

pub length_revision : (kind revision : ℕ) → length (revision_bytes kind revision) ≡ 3
unfolding revision_bytes encode16
length_revision kind revision = refl

pub longest_assignment_lem : LongestAssignment
longest_assignment_lem id e w = omega (arith, length_assignment id e, w.name_fits, value_small e.type e.value (length e.value) w.value_whole)

pub longest_update_lem : LongestUpdate
longest_update_lem t id number value w = omega (arith, length_update id number value, value_small t value (length value) w)

-- ---- an assignment

-- the bytes past an assignment's name
unfoldable pub after_name : (t id number : ℕ) → List ℕ → List ℕ
after_name t id number value = t ∷ (encode16 id ++ (encode16 number ++ value))

module _ (id : ℕ) (e : Entry) (rest : List ℕ) where
  -- behind the kind stand the name's length, the name, and the other fields
  behind_kind_lem : drop 1 (assignment_bytes id e ++ rest) ≡ encode16 (length e.name) ++ (e.name ++ after_name e.type id e.number (e.value ++ rest))
  unfolding assignment_bytes encode16 after_name
  behind_kind_lem = rw (append_assoc e.name (e.type ∷ (encode16 id ++ (encode16 e.number ++ e.value))) rest)

  name_then : drop 3 (assignment_bytes id e ++ rest) ≡ e.name ++ after_name e.type id e.number (e.value ++ rest)
  unfolding assignment_bytes encode16 after_name
  name_then = rw (append_assoc e.name (e.type ∷ (encode16 id ++ (encode16 e.number ++ e.value))) rest)

  behind_name : drop (3 + length e.name) (assignment_bytes id e ++ rest) ≡ after_name e.type id e.number (e.value ++ rest)
  behind_name =
      sym (drop-drop (length e.name) 3 (assignment_bytes id e ++ rest))
      ∙ rw name_then (drop-append_seam e.name (after_name e.type id e.number (e.value ++ rest)))

  pub name_back : take (length e.name) (drop 3 (assignment_bytes id e ++ rest)) ≡ e.name
  name_back = rw name_then (take-append_seam e.name (after_name e.type id e.number (e.value ++ rest)))

  value_then : drop (8 + length e.name) (assignment_bytes id e ++ rest) ≡ e.value ++ rest
  unfolding encode16 after_name
  value_then =
      let five : 8 + length e.name ≡ 3 + length e.name + 5 = omega arith in
      rw five (sym (drop-drop 5 (3 + length e.name) (assignment_bytes id e ++ rest)) ∙ ap (drop 5) behind_name)

  pub value_back_at : take (length e.value) (drop (8 + length e.name) (assignment_bytes id e ++ rest)) ≡ e.value
  value_back_at = rw value_then (take-append_seam e.value rest)

-- the fields past a name that ends at a place
after_name_back : (allowed : ℕ → Bool) (at : ℕ) (m : List ℕ) (t id number : ℕ) (value rest : List ℕ) → allowed id ≡ true → IsValue t value
    → at + 5 ≤ length m → drop at m ≡ after_name t id number (value ++ rest)
    → parse_after_name allowed at m ≡ an_assignment t id number (at - 3) (length value)
unfolding parse_after_name parse_behind_id parse_value_at after_name encode16 pick
after_name_back allowed at m t id number value rest a w h e =
    let type_is : get_or m at 0 ≡ t = ap (λ (k : ℕ). get_or m k 0) (sym (add-zero at)) ∙ sym (get_or-drop at m 0 0) ∙ ap (λ (l : List ℕ). get_or l 0 0) e in
    let id_is : decode16 (drop (at + 1) m) ≡ id = ap decode16 (sym (drop-drop 1 at m) ∙ ap (drop 1) e) ∙ decode_encode id (encode16 number ++ (value ++ rest)) in
    let number_is : decode16 (drop (at + 3) m) ≡ number = ap decode16 (sym (drop-drop 3 at m) ∙ ap (drop 3) e) ∙ decode_encode number (value ++ rest) in
    let value_is : drop (at + 5) m ≡ value ++ rest = sym (drop-drop 5 at m) ∙ ap (drop 5) e in
    rw (
      type_is,
      id_is,
      number_is,
      value_is,
      a,
      value_known t value (length value) w,
      value_back t value rest w,
      le-leb (at + 1) (length m) (omega arith),
      le-leb (at + 3) (length m) (omega arith),
      le-leb (at + 5) (length m) h,
    )

-- the name behind the kind
parse_name_back : (id : ℕ) (e : Entry) (rest : List ℕ) → WellFormed e → parse_name (assignment_bytes id e ++ rest) ≡ Ok (2 + length e.name)
unfolding parse_text_at
parse_name_back id e rest w =
    rw (behind_kind_lem id e rest, text_back 66 e.name (after_name e.type id e.number (e.value ++ rest)) (omega (arith, w.name_fits)) w.name_text)

pub assignment_back : (allowed : ℕ → Bool) (id : ℕ) (e : Entry) (rest : List ℕ) → allowed id ≡ true → WellFormed e
    → parse_assignment allowed (assignment_bytes id e ++ rest) ≡ an_assignment e.type id e.number (length e.name) (length e.value)
unfolding parse_assignment
assignment_back allowed id e rest a w =
    let place : 1 + (2 + length e.name) ≡ 3 + length e.name = omega arith in
    let name : 3 + length e.name - 3 ≡ length e.name = omega arith in
    let there : 3 + length e.name + 5 ≤ length (assignment_bytes id e ++ rest) = omega (arith, length-append (assignment_bytes id e) rest, length_assignment id e) in
    let r = after_name_back allowed (3 + length e.name) (assignment_bytes id e ++ rest) e.type id e.number e.value rest a w.value_whole there (behind_name id e rest) in
    rw (parse_name_back id e rest w, place) (rw name at r)

-- ---- an update

pub update_value_back : (id number : ℕ) (value rest : List ℕ) → take (length value) (drop 5 (update_bytes id number value ++ rest)) ≡ value
unfolding update_bytes encode16
update_value_back id number value rest = take-append_seam value rest

pub update_back : (held : ℕ → Bool) (type_of : ℕ → ℕ) (id number : ℕ) (value rest : List ℕ) → held id ≡ true → IsValue (type_of id) value
    → parse_update held type_of (update_bytes id number value ++ rest) ≡ an_update id number (length value)
unfolding parse_behind_update_id parse_update parse_value_at update_bytes encode16 pick
update_back held type_of id number value rest h w =
    rw (
      decode_encode id (encode16 number ++ (value ++ rest)),
      decode_encode number (value ++ rest),
      h,
      value_back (type_of id) value rest w,
      le-leb 3 (suc (suc (suc (suc (suc (length (value ++ rest))))))) (omega arith),
      le-leb 5 (suc (suc (suc (suc (suc (length (value ++ rest))))))) (omega arith),
    )

-- ---- any message, any kind and ID allowed

-- the reader's choice by the kind

kind_assignment : (t : ℕ) (s : List ℕ) → parse_message t (assignment_kind ∷ s) ≡ of_assignment (parse_assignment (id_allowed Any) (assignment_kind ∷ s))
unfolding parse_message parse_by_kind pick
kind_assignment t s = rw (le-leb 1 (suc (length s)) (omega arith))

kind_update : (t : ℕ) (s : List ℕ) → parse_message t (update_kind ∷ s) ≡ of_update (parse_update (id_allowed Any) (λ _. t) (update_kind ∷ s))
unfolding parse_message parse_by_kind pick
kind_update t s = rw (le-leb 1 (suc (length s)) (omega arith))

message_keep_alive : (t : ℕ) (s : List ℕ) → parse_message t (keep_alive_kind ∷ s) ≡ (Ok D.KeepAlive)
unfolding parse_message parse_by_kind pick
message_keep_alive t s = rw (le-leb 1 (suc (length s)) (omega arith))

message_hello_complete : (t : ℕ) (s : List ℕ) → parse_message t (hello_complete_kind ∷ s) ≡ (Ok D.HelloComplete)
unfolding parse_message parse_by_kind pick
message_hello_complete t s = rw (le-leb 1 (suc (length s)) (omega arith))

message_hello : (t revision : ℕ) (rest : List ℕ) → parse_message t (revision_bytes hello_kind revision ++ rest) ≡ Ok (D.Hello revision)
unfolding parse_message parse_by_kind parse_revision revision_bytes encode16 pick
message_hello t revision rest =
    rw (le-leb 1 (suc (suc (suc (length rest)))) (omega arith), le-leb 3 (suc (suc (suc (length rest)))) (omega arith), decode_encode revision rest)

message_unsupported : (t revision : ℕ) (rest : List ℕ) → parse_message t (revision_bytes unsupported_kind revision ++ rest) ≡ Ok (D.Unsupported revision)
unfolding parse_message parse_by_kind parse_revision revision_bytes encode16 pick
message_unsupported t revision rest =
    rw (le-leb 1 (suc (suc (suc (length rest)))) (omega arith), le-leb 3 (suc (suc (suc (length rest)))) (omega arith), decode_encode revision rest)

by_kind_assignment : (t id : ℕ) (e : Entry) (rest : List ℕ)
    → parse_message t (assignment_bytes id e ++ rest) ≡ of_assignment (parse_assignment (id_allowed Any) (assignment_bytes id e ++ rest))
unfolding assignment_bytes
by_kind_assignment t id e rest = kind_assignment t _

by_kind_update : (t id number : ℕ) (value rest : List ℕ)
    → parse_message t (update_bytes id number value ++ rest) ≡ of_update (parse_update (id_allowed Any) (λ _. t) (update_bytes id number value ++ rest))
unfolding update_bytes
by_kind_update t id number value rest = kind_update t _

message_assignment : (t id : ℕ) (e : Entry) (rest : List ℕ) → WellFormed e
    → parse_message t (assignment_bytes id e ++ rest) ≡ of_assignment (an_assignment e.type id e.number (length e.name) (length e.value))
message_assignment t id e rest w = by_kind_assignment t id e rest ∙ ap of_assignment (assignment_back (id_allowed Any) id e rest refl w)

message_update : (t id number : ℕ) (value rest : List ℕ) → IsValue t value
    → parse_message t (update_bytes id number value ++ rest) ≡ of_update (an_update id number (length value))
message_update t id number value rest w = by_kind_update t id number value rest ∙ ap of_update (update_back (id_allowed Any) (λ _. t) id number value rest refl w)

assignment_fields : (id : ℕ) (e : Entry) (rest : List ℕ)
    → contents (assignment_bytes id e ++ rest) (of_assignment (an_assignment e.type id e.number (length e.name) (length e.value))) ≡ some (assignment id e)
assignment_fields id e rest = rw (name_back id e rest, value_back_at id e rest)

update_fields : (id number : ℕ) (value rest : List ℕ)
    → contents (update_bytes id number value ++ rest) (of_update (an_update id number (length value))) ≡ some (update id number value)
update_fields id number value rest = rw (update_value_back id number value rest)

pub read_back : ReadBack
unfolding layout
read_back t keep_alive rest w = record { fields_back = rw (message_keep_alive t rest); length_back = rw (message_keep_alive t rest) }
read_back t (hello revision) rest w =
    record { fields_back = rw (message_hello t revision rest); length_back = rw (message_hello t revision rest, length_revision hello_kind revision) }
read_back t (unsupported revision) rest w =
    record { fields_back = rw (message_unsupported t revision rest); length_back = rw (message_unsupported t revision rest, length_revision unsupported_kind revision) }
read_back t hello_complete rest w = record { fields_back = rw (message_hello_complete t rest); length_back = rw (message_hello_complete t rest) }
read_back t (assignment id e) rest w =
    record {
      fields_back = rw (message_assignment t id e rest w) (assignment_fields id e rest);
      length_back = rw (message_assignment t id e rest w) (sym (length_assignment id e));
    }
read_back t (update id number value) rest w =
    record {
      fields_back = rw (message_update t id number value rest w) (update_fields id number value rest);
      length_back = rw (message_update t id number value rest w) (sym (length_update id number value));
    }

pub same_bytes : SameBytes
same_bytes t x y e v w =
    let p : contents (layout x ++ []) (parse_message t (layout x ++ [])) ≡ some x = (read_back t x [] v).fields_back in
    let q : contents (layout y ++ []) (parse_message t (layout y ++ [])) ≡ some y = (read_back t y [] w).fields_back in
    let r : some x ≡ some y = sym p ∙ ap (λ (l : List ℕ). contents (l ++ []) (parse_message t (l ++ []))) e ∙ q in
    cc
