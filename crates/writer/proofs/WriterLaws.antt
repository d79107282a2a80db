-- Laws of the checks, and of what is answered and written for them.
use Rattle.std.specs.Prelude.{Err, Ok}
use mathlib.Core.Path.{◌≡◌, refl}
use mathlib.Core.Bool.{true}
use mathlib.Core.List.{List}
use Prim.Native.Nat.{ℕ, ◌+◌, ◌≤◌, ◌<◌}
use native.Mathlib.Omega.{arith}
use lib.ListN.{length}
use borrow.Author.Tests.{leb-true, le-leb, lt-leb}
use Rattle.field.specs.Answer.{not_utf8, too_long, output_too_short, RefusalNumber}
use Rattle.field.specs.Choice.{pick}
use Rattle.field.specs.Octets.{overwrite_at}
use Rattle.field.specs.Field.{fault_at, and_then, Parsed}
use Rattle.field.specs.declared.Fault.{Fault}
use Rattle.field.proofs.ChoiceLaws.{by_test}
use Rattle.answer.specs.Answers.{bare_answer, refused_answer, done_answer}
use Rattle.utf8.specs.Utf8.{is_utf8}
use Rattle.value.specs.Value.{parse_lone, IsValue}
use Rattle.value.proofs.ValueLaws.{LoneIs, lone_is, lone_taken, value_small}
use Rattle.message.specs.Layout.{Entry, Message, keep_alive, hello, unsupported, hello_complete, assignment, update, layout, keep_alive_kind, hello_kind, unsupported_kind, hello_complete_kind, assignment_kind, update_kind, WellFormed, WellFormedMessage}
use Rattle.message.proofs.ReadBack.{length_assignment, length_update}
use Rattle.message.proofs.RefusalLaws.{refusal_number, RefusedRightly, lone_rightly}
use Rattle.writer.specs.Writer.{Fields, given_entry, check_name, Checked, check_assignment, check_update, check_by_kind, check, needed_for, bytes_of, Ready, ready, write_with_place, written}

-- ---- a name and a value

pub data NameIs (name : List ℕ) : Parsed → Type 0 where
  refused : {fault : Fault} → RefusalNumber fault.number → NameIs name (Err fault)
  taken : {n : ℕ} → n ≡ length name → length name ≤ 64 → is_utf8 name ≡ true → NameIs name (Ok n)

pub name_is : (name : List ℕ) → NameIs name (check_name name)
unfolding check_name
name_is name =
    by_test (NameIs name) _ _ _ (λ h. by_test (NameIs name) _ _ _ (λ u. NameIs.taken refl (leb-true _ _ h) u) (λ _. no not_utf8 (omega arith) (omega arith)))
    (λ _. no too_long (omega arith) (omega arith))
  where
    no : (number : ℕ) → 1 ≤ number → number ≤ 14 → NameIs name (Err (fault_at number 0))
    no number a b = NameIs.refused (refusal_number number a b)

pub name_taken_lem : (name : List ℕ) (n : ℕ) → check_name name ≡ Ok n → (n ≡ length name) × (length name ≤ 64)
name_taken_lem name n e = go (rw e at (name_is name))
  where
    go : NameIs name (Ok n) → (n ≡ length name) × (length name ≤ 64)
    go (NameIs.taken a b c) = (a, b)

pub lone_taken_is : (t : ℕ) (v : List ℕ) (n : ℕ) → parse_lone t v ≡ Ok n → (n ≡ length v) × (n ≤ 256)
lone_taken_is t v n e = go (rw e at (lone_is t v))
  where
    go : LoneIs t v (Ok n) → (n ≡ length v) × (n ≤ 256)
    go (LoneIs.taken a w) = (a, omega (arith, value_small t v (length v) w))

-- ---- what the checks allow

-- a refusal is one of 1 to 14; the message is the one that the fields of its kind make, and obeys the rules
pub data CheckIs (t : ℕ) : Message → Checked → Type 0 where
  refused : {x : Message} {fault : Fault} → RefusalNumber fault.number → CheckIs t x (Checked.refused fault)
  allowed : {x : Message} → WellFormedMessage t x → CheckIs t x (Checked.allowed x)

pub assignment_check : (t id : ℕ) (e : Entry) → CheckIs t (assignment id e) (check_assignment id e)
unfolding check_assignment
assignment_check t id e = go (check_name e.name) (name_is e.name) (parse_lone e.type e.value) (lone_is e.type e.value) (lone_rightly e.type e.value)
  where
    go : (p : Parsed) → NameIs e.name p → (q : Parsed) → LoneIs e.type e.value q → RefusedRightly q
        → CheckIs t (assignment id e) (and_then Checked.refused p (λ _. and_then Checked.refused q (λ _. Checked.allowed (assignment id e))))
    go (Err fault) (NameIs.refused k) q g r = CheckIs.refused k
    go (Ok n) f (Err fault) g (RefusedRightly.refused k) = CheckIs.refused k
    go (Ok n) (NameIs.taken a b u) (Ok v) (LoneIs.taken l w) r = CheckIs.allowed {x = assignment id e} (record { name_fits = b; name_text = u; value_whole = w })

pub update_check : (id number t : ℕ) (v : List ℕ) → CheckIs t (update id number v) (check_update id number t v)
unfolding check_update
update_check id number t v = go (parse_lone t v) (lone_is t v) (lone_rightly t v)
  where
    go : (q : Parsed) → LoneIs t v q → RefusedRightly q → CheckIs t (update id number v) (and_then Checked.refused q (λ _. Checked.allowed (update id number v)))
    go (Err fault) g (RefusedRightly.refused k) = CheckIs.refused k
    go (Ok n) (LoneIs.taken l w) r = CheckIs.allowed w

-- what obeys the rules is allowed
pub assignment_allowed : (id : ℕ) (e : Entry) → WellFormed e → check_assignment id e ≡ Checked.allowed (assignment id e)
unfolding check_assignment check_name pick
assignment_allowed id e w = rw (le-leb (length e.name) 64 w.name_fits, w.name_text, lone_taken e.type e.value w.value_whole)

pub update_allowed : (id number t : ℕ) (v : List ℕ) → IsValue t v → check_update id number t v ≡ Checked.allowed (update id number v)
unfolding check_update
update_allowed id number t v w = rw (lone_taken t v w)

-- ---- the choice by the kind

module _ (f : Fields) where
  pub check_keep_alive : f.kind ≡ keep_alive_kind → check f ≡ Checked.allowed keep_alive
  unfolding check_by_kind pick
  check_keep_alive k = rw k

  pub check_hello : f.kind ≡ hello_kind → check f ≡ Checked.allowed (hello f.revision)
  unfolding check_by_kind pick
  check_hello k = rw k

  pub check_unsupported : f.kind ≡ unsupported_kind → check f ≡ Checked.allowed (unsupported f.revision)
  unfolding check_by_kind pick
  check_unsupported k = rw k

  pub check_hello_complete : f.kind ≡ hello_complete_kind → check f ≡ Checked.allowed hello_complete
  unfolding check_by_kind pick
  check_hello_complete k = rw k

  pub kind_assignment : f.kind ≡ assignment_kind → check f ≡ check_assignment f.id (given_entry f)
  unfolding check_by_kind pick
  kind_assignment k = rw k

  pub kind_update : f.kind ≡ update_kind → check f ≡ check_update f.id f.number f.type f.value
  unfolding check_by_kind pick
  kind_update k = rw k

-- ---- a message that is ready to be written

pub ready_room : (room : ℕ) (x : Message) (c : Checked) → c ≡ Checked.allowed x → Ready room c → length (layout x) ≤ room
ready_room room x c e r = go (rw e at r)
  where
    go : Ready room (Checked.allowed x) → length (layout x) ≤ room
    go (ready h) = h

ready_is : (t room : ℕ) (x : Message) (c : Checked) → CheckIs t x c → Ready room c → (c ≡ Checked.allowed x) × WellFormedMessage t x
ready_is t room x (Checked.allowed y) (CheckIs.allowed w) (ready h) = (refl, w)
ready_is t room x (Checked.refused _) _ x5 = elim x5 [ ]

module _ (f : Fields) (room : ℕ) where
  pub ready_assignment : Ready room (check_by_kind assignment_kind f)
      → (check_by_kind assignment_kind f ≡ Checked.allowed (assignment f.id (given_entry f))) × (length f.name ≤ 64)
      × (length f.name + length f.value + 8 ≤ room)
  unfolding check_by_kind pick layout
  ready_assignment r =
      let x = assignment f.id (given_entry f) in
      let c = check_assignment f.id (given_entry f) in
      let h = ready_is f.type room x c (assignment_check f.type f.id (given_entry f)) r in
      let w : WellFormed (given_entry f) = h.1 in
      (h.0, w.name_fits, omega (arith, ready_room room x c h.0 r, length_assignment f.id (given_entry f)))

  pub ready_update : Ready room (check_by_kind update_kind f)
      → (check_by_kind update_kind f ≡ Checked.allowed (update f.id f.number f.value)) × (length f.value + 5 ≤ room)
  unfolding check_by_kind pick layout
  ready_update r =
      let x = update f.id f.number f.value in
      let c = check_update f.id f.number f.type f.value in
      let h = ready_is f.type room x c (update_check f.id f.number f.type f.value) r in
      (h.0, omega (arith, ready_room room x c h.0 r, length_update f.id f.number f.value))

-- ---- what is answered and written, by what the message needs

module _ (c : Checked) (out : List ℕ) where
  pub needs_refused : (fault : Fault) → Err fault ≡ needed_for c → written (refused_answer fault) out ≡ write_with_place c out
  needs_refused fault e = go c e
    where
      go : (c : Checked) → Err fault ≡ needed_for c → written (refused_answer fault) out ≡ write_with_place c out
      go (Checked.refused other) q = let same : fault ≡ other = cc in rw same
      go (Checked.allowed m) q = let z : ◌≡◌ {A = ℕ} 0 1 = cc in absurd (omega arith)

  pub needs_more : (n : ℕ) → Ok n ≡ needed_for c → length out < n → written (bare_answer output_too_short) out ≡ write_with_place c out
  unfolding pick
  needs_more n e h = go c e
    where
      go : (c : Checked) → Ok n ≡ needed_for c → written (bare_answer output_too_short) out ≡ write_with_place c out
      go (Checked.refused fault) q = let z : ◌≡◌ {A = ℕ} 0 1 = cc in absurd (omega arith)
      go (Checked.allowed m) q =
          let n_is : n ≡ length (layout m) = cc in
          rw (lt-leb (length (layout m)) (length out) (omega arith))

  pub needs_room : (n : ℕ) → Ok n ≡ needed_for c → n ≤ length out → Ready (length out) c
  needs_room n e h = go c e
    where
      go : (c : Checked) → Ok n ≡ needed_for c → Ready (length out) c
      go (Checked.refused fault) q = let z : ◌≡◌ {A = ℕ} 0 1 = cc in absurd (omega arith)
      go (Checked.allowed m) q = let n_is : n ≡ length (layout m) = cc in ready {m = m} (omega arith)

  -- n bytes are sent, and the output afterwards is `after`
  pub ready_sent : Ready (length out) c → (n : ℕ) (after : List ℕ) → n ≡ length (bytes_of c) → after ≡ overwrite_at out 0 (bytes_of c)
      → written (done_answer 0 0 n) after ≡ write_with_place c out
  unfolding pick
  ready_sent r n after = go c r
    where
      go : (c : Checked) → Ready (length out) c → n ≡ length (bytes_of c) → after ≡ overwrite_at out 0 (bytes_of c) → written (done_answer 0 0 n) after ≡ write_with_place c out
      go (Checked.allowed m) (ready h) s w = rw (le-leb (length (layout m)) (length out) h, s, w)
      go (Checked.refused _) x4 s w = elim x4 [ ]
