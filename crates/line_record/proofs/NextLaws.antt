-- Laws of the record at the start of some bytes.
use mathlib.Core.Path.{◌≡◌, refl, sym, ap, ◌∙◌}
use mathlib.Core.Bool.{Bool, true, false}
use mathlib.Core.List.{List, ◌++◌}
use Prim.Native.Nat.{ℕ, ◌+◌, ◌≤◌, ◌<◌}
use native.Mathlib.Omega.{arith}
use lib.Dec.{leb, eqb}
use lib.ListN.{length, take, drop, get_or, length-take, get_or-append}
use lib.Seq.{get_or-take, take-take, take-append_seam}
use borrow.Author.Tests.{le-leb, lt-leb, leb-true, leb-false}
use Rattle.field.specs.Answer.{done, incomplete, unknown_kind, RefusalNumber}
use Rattle.field.proofs.ChoiceLaws.{by_test, pick_true}
use Rattle.field.proofs.OctetsLaws.{take_drop}
use Rattle.message.proofs.RefusalLaws.{refusal_number}
use Rattle.line_record.specs.Record.{Record, opens, leaves, came, NextRecord, refused_record, found, opens_kind, leaves_kind, plant_connection, recorded_connections, record_head_size, is_data, known_kind, data_size, known_connection, record_of, next_record}
use Rattle.line_record.specs.Replay.{RunState, Advanced, advance_on, advance}

-- ---- what is known of it

-- bytes come in for a connection that is recorded
pub data KnownRecord : Record → Type 0 where
  opening : {c : ℕ} → KnownRecord (opens c)
  leaving : {c : ℕ} → KnownRecord (leaves c)
  bytes_came : {c : ℕ} {arrived : List ℕ} → c < recorded_connections → KnownRecord (came c arrived)

-- a known kind that is neither an opening nor a leaving is that of bytes
known_connection_lem : (kind c : ℕ) → known_kind kind ≡ true → known_connection kind c ≡ true → eqb kind opens_kind ≡ false → eqb kind leaves_kind ≡ false → c < recorded_connections
unfolding known_kind known_connection
known_connection_lem kind c known allowed a b =
    let is_data_lem : is_data kind ≡ true = rw (a, b) at known in
    let few : leb c plant_connection ≡ true = sym (pick_true (leb c plant_connection) true is_data_lem) ∙ allowed in
    omega (arith, leb-true c plant_connection few)

known_record : (kind c : ℕ) (arrived : List ℕ) → known_kind kind ≡ true → known_connection kind c ≡ true → KnownRecord (record_of kind c arrived)
unfolding record_of
known_record kind c arrived known allowed =
    by_test KnownRecord (eqb kind opens_kind) _ _ (λ _. opening)
    (λ a. by_test KnownRecord (eqb kind leaves_kind) _ _ (λ _. leaving) (λ b. bytes_came (known_connection_lem kind c known allowed a b)))

-- a refusal, or a record with its size: its bytes are there
pub data NextIs (bytes : List ℕ) : NextRecord → Type 0 where
  refused : {number : ℕ} → RefusalNumber number → NextIs bytes (refused_record number)
  there : {r : Record} → KnownRecord r → record_head_size + data_size (get_or bytes 0 0) ≤ length bytes → NextIs bytes (found r (record_head_size + data_size (get_or bytes 0 0)))

pub next_is : (bytes : List ℕ) → NextIs bytes (next_record bytes)
unfolding next_record
next_is bytes =
    by_test P _ _ _ (λ _. by_test P _ _ _ (λ known. by_test P _ _ _ (λ _. by_test P _ _ _ (λ allowed. by_test P _ _ _
    (λ l. NextIs.there (known_record _ _ _ known allowed) (leb-true _ _ l)) (λ _. cut)) (λ _. unknown)) (λ _. cut)) (λ _. unknown)) (λ _. cut)
  where
    P : NextRecord → Type 0
    P = NextIs bytes

    cut : P (refused_record incomplete)
    cut = refused (refusal_number incomplete (omega arith) (omega arith))

    unknown : P (refused_record unknown_kind)
    unknown = refused (refusal_number unknown_kind (omega arith) (omega arith))

-- ---- it is decided by its own bytes

module _ (n : ℕ) (bytes : List ℕ) (enough : record_head_size + data_size (get_or bytes 0 0) ≤ n) where
  same_test : (k : ℕ) → k ≤ n → leb k (length (take n bytes)) ≡ leb k (length bytes)
  same_test k h = go (leb k (length bytes)) refl
    where
      go : (b : Bool) → leb k (length bytes) ≡ b → leb k (length (take n bytes)) ≡ b
      go true e = le-leb k (length (take n bytes)) (omega (arith, length-take n bytes, leb-true k (length bytes) e))
      go false e = lt-leb k (length (take n bytes)) (omega (arith, length-take n bytes, leb-false k (length bytes) e))

  same_data : (size : ℕ) → record_head_size + size ≤ n → take size (drop record_head_size (take n bytes)) ≡ take size (drop record_head_size bytes)
  same_data size h = take_drop record_head_size size (take n bytes) ∙ ap (drop record_head_size) (take-take (record_head_size + size) n bytes h) ∙ sym (take_drop record_head_size size bytes)

  pub looks_at : next_record (take n bytes) ≡ next_record bytes
  unfolding next_record
  looks_at =
      rw (
        get_or-take n bytes 0 0 (omega arith),
        get_or-take n bytes 1 0 (omega arith),
        same_test 1 (omega arith),
        same_test record_head_size (omega arith),
        same_test (record_head_size + data_size (get_or bytes 0 0)) enough,
        same_data (data_size (get_or bytes 0 0)) enough,
      )

-- ---- a record that is done

-- its bytes are there, and their number is its size
pub record AdvancedBy (bytes : List ℕ) (a : Advanced) : Type 0 where
  pub size_is : a.size ≡ record_head_size + data_size (get_or bytes 0 0)
  pub there : a.size ≤ length bytes

pub advance_done : (limit : ℕ) (s : RunState) (bytes : List ℕ) → (advance limit s bytes).number ≡ done → AdvancedBy bytes (advance limit s bytes)
advance_done limit s bytes = go (next_record bytes) (next_is bytes)
  where
    go : (n : NextRecord) → NextIs bytes n → (advance_on limit s n).number ≡ done → AdvancedBy bytes (advance_on limit s n)
    go (refused_record number) (refused k) e = unfold advance_on in absurd (omega (arith, e))
    go (found r size) (NextIs.there k l) e = unfold advance_on in record { size_is = refl; there = l }

-- so what stands behind it does not matter
pub advance_before : (limit : ℕ) (s : RunState) (first rest : List ℕ) → 1 ≤ length first → (advance limit s first).number ≡ done
    → advance limit s (first ++ rest) ≡ advance limit s first
advance_before limit s first rest some e =
    let a = advance_done limit s first e in
    let kind : get_or (first ++ rest) 0 0 ≡ get_or first 0 0 = get_or-append first rest 0 0 (omega arith) in
    let enough : record_head_size + data_size (get_or (first ++ rest) 0 0) ≤ length first = rw kind (omega (arith, a.size_is, a.there)) in
    ap (advance_on limit s) (sym (looks_at (length first) (first ++ rest) enough) ∙ ap next_record (take-append_seam first rest))
