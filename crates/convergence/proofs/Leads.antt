-- Bytes that lead a copy from some entries to others, whatever stands behind them.
use mathlib.Core.Path.{◌≡◌, refl, sym, subst, ◌∙◌}
use mathlib.Core.Bool.{Bool, true, false, not, ◌&&◌, ◌||◌, and-eq-true_iff, true≢false}
use mathlib.Core.List.{List, [], ◌∷◌, ◌++◌, append_assoc, append-nil}
use Prim.Native.Nat.{ℕ, suc, ◌+◌, ◌≤◌, ◌<◌}
use native.Mathlib.Omega.{arith}
use lib.ListN.{length, get_or, drop, length-append}
use lib.Seq.{drop-append_seam}
use borrow.Author.Tests.{not-true}
use Rattle.value.specs.Value.{IsValue}
use Rattle.message.specs.Layout.{Entry, WellFormed, hello_complete_kind, assignment_bytes, update_bytes}
use Rattle.message.proofs.ReadBack.{length_assignment, length_update}
use Rattle.table.specs.Names.{name_held, names_differ}
use Rattle.table.specs.Table.{TableMemory, default_entry}
use Rattle.table.proofs.StoreLaws.{with_number_and_value}
use Rattle.table.proofs.NamesLaws.{differ_last, held_append}
use Rattle.hello.specs.Hello.{hello_answer}
use Rattle.protocol.specs.Copy.{copy_message}
use Rattle.convergence.specs.Demand.{ReadsInto, none_left, one_read}
use Rattle.soundness.proofs.StoredLaws.{AllWellFormed}
use Rattle.protocol.proofs.CopyLaws.{Holding, Takes, copies_complete, copies_assignment, copies_update}

-- all the bytes are read, and the copy then holds these entries
pub record Reaches (limit : ℕ) (m : TableMemory) (bytes : List ℕ) (es : List Entry) : Type 0 where
  pub end : TableMemory
  pub reads : ReadsInto limit m bytes end
  pub holds : Holding limit es end

pub Leads : ℕ → List Entry → List ℕ → List Entry → Type 0
Leads limit es bytes es' =
    (m : TableMemory) → Holding limit es m → (rest : List ℕ) (last : List Entry)
    → ((m' : TableMemory) → Holding limit es' m' → Reaches limit m' rest last) → Reaches limit m (bytes ++ rest) last

pub leads_none : (limit : ℕ) (es : List Entry) → Leads limit es [] es
unfolding Leads
leads_none limit es m h rest last k = k m h

pub leads_join : (limit : ℕ) (a : List Entry) (x : List ℕ) (b : List Entry) (y : List ℕ) (c : List Entry)
    → Leads limit a x b → Leads limit b y c → Leads limit a (x ++ y) c
unfolding Leads
leads_join limit a x b y c f g m h rest last k = rw append_assoc (f m h (y ++ rest) last (λ m' h'. g m' h' rest last k))

pub leads_end : (limit : ℕ) (a : List Entry) (x : List ℕ) (b : List Entry) → Leads limit a x b → (m : TableMemory) → Holding limit a m → Reaches limit m x b
unfolding Leads
leads_end limit a x b f m h = rw append-nil at (f m h [] b (λ m' h'. record { end = m'; reads = none_left; holds = h' }))

-- ---- one message

leads_one : (limit : ℕ) (a : List Entry) (x : List ℕ) (b : List Entry) → 0 < length x
    → ((m : TableMemory) → Holding limit a m → (rest : List ℕ) → Takes limit (length x) b (copy_message limit m (x ++ rest))) → Leads limit a x b
unfolding Leads
leads_one limit a x b l f m h rest last k =
    let t = f m h rest in
    let r = copy_message limit m (x ++ rest) in
    let behind : drop r.taken (x ++ rest) ≡ rest = rw t.took (drop-append_seam x rest) in
    let next = k r.memory t.holds in
    let onward : ReadsInto limit r.memory (drop r.taken (x ++ rest)) next.end =
    subst (λ (bytes : List ℕ). ReadsInto limit r.memory bytes next.end) (sym behind) next.reads in
    record { end = next.end; reads = one_read {m' = next.end} {bytes = x ++ rest} (omega (arith, length-append x rest)) t.accepted onward; holds = next.holds }

leads_complete : (limit : ℕ) (es : List Entry) → Leads limit es (hello_complete_kind ∷ []) es
leads_complete limit es = leads_one limit es (hello_complete_kind ∷ []) es (omega arith) (λ m h rest. copies_complete limit es m h rest)

pub leads_assignment : (limit : ℕ) (es : List Entry) (e : Entry) → WellFormed e → name_held e.name es ≡ false → length es < limit
    → Leads limit es (assignment_bytes (length es) e) (es ++ (e ∷ []))
leads_assignment limit es e w new room =
    leads_one limit es (assignment_bytes (length es) e) (es ++ (e ∷ [])) (omega (arith, length_assignment (length es) e))
    (λ m h rest. copies_assignment limit es m h e rest w new room)

pub leads_update : (limit : ℕ) (es : List Entry) (id number : ℕ) (value : List ℕ) → id < length es → IsValue (get_or es id default_entry).type value
    → Leads limit es (update_bytes id number value) (with_number_and_value es id number value)
leads_update limit es id number value held w =
    leads_one limit es (update_bytes id number value) (with_number_and_value es id number value) (omega (arith, length_update id number value))
    (λ m h rest. copies_update limit es m h id number value rest held w)

-- ---- the answer to a hello

-- names that all differ do so in a part of the list
differ_front : (xs ys : List Entry) → names_differ (xs ++ ys) ≡ true → names_differ xs ≡ true
unfolding names_differ
differ_front [] ys h = refl
differ_front (x ∷ xs) ys h =
    let both = (and-eq-true_iff (not (name_held x.name (xs ++ ys))) (names_differ (xs ++ ys))).0 h in
    rw (left (name_held x.name xs) (name_held x.name ys) (sym (held_append x.name xs ys) ∙ not-true (name_held x.name (xs ++ ys)) both.0))
    (differ_front xs ys both.1)
  where
    left : (a b : Bool) → (a || b) ≡ false → a ≡ false
    left true b q = absurd (true≢false q)
    left false b q = refl

-- the copy holds some entries, and the answer tells the others
pub leads_hello : (limit : ℕ) (seen es : List Entry) → AllWellFormed es → names_differ (seen ++ es) ≡ true → length seen + length es ≤ limit
    → Leads limit seen (hello_answer (length seen) es) (seen ++ es)
unfolding hello_answer
leads_hello limit seen [] h d l = rw append-nil (leads_complete limit seen)
leads_hello limit seen (e ∷ es) h d l =
    let more : names_differ ((seen ++ (e ∷ [])) ++ es) ≡ true = rw append_assoc d in
    let last : (names_differ seen && not (name_held e.name seen)) ≡ true = sym (differ_last seen e) ∙ differ_front (seen ++ (e ∷ [])) es more in
    let new : name_held e.name seen ≡ false = not-true (name_held e.name seen) ((and-eq-true_iff (names_differ seen) (not (name_held e.name seen))).0 last).1 in
    let one : Leads limit seen (assignment_bytes (length seen) e) (seen ++ (e ∷ [])) = leads_assignment limit seen e (h 0 (omega arith)) new (omega arith) in
    let len : length (seen ++ (e ∷ [])) ≡ suc (length seen) = length-append seen (e ∷ []) ∙ omega arith in
    let others : Leads limit (seen ++ (e ∷ [])) (hello_answer (suc (length seen)) es) (seen ++ (e ∷ es)) =
    rw (len, append_assoc seen (e ∷ []) es) at (leads_hello limit (seen ++ (e ∷ [])) es (λ i b. h (suc i) (omega arith)) more (omega arith)) in
    leads_join limit seen _ _ _ _ one others
