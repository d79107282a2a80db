-- Whose mark a call changes: that of no other connection.
use Rattle.std.specs.Prelude.{Err, Ok}
use mathlib.Core.Path.{◌≡◌, refl, ◌∙◌}
use mathlib.Core.Logic.{◌≢◌}
use mathlib.Core.Bool.{Bool}
use mathlib.Core.List.{List, ◌++◌}
use Prim.Native.Nat.{ℕ, zero, suc}
use lib.ListN.{length, get_or, drop}
use lib.Seq.{get_or-set_other}
use Rattle.field.specs.Choice.{pick}
use Rattle.field.specs.Field.{and_then, Parsed}
use Rattle.field.specs.declared.Fault.{Fault}
use Rattle.field.proofs.ChoiceLaws.{by_test}
use Rattle.value.specs.Value.{parse_lone}
use Rattle.message.specs.Layout.{Entry}
use Rattle.message.specs.Read.{AssignmentRead, UpdateRead}
use Rattle.message.specs.Reader.{id_allowed, parse_assignment}
use Rattle.message.specs.declared.AllowedId.TheVariants.{Only}
use Rattle.writer.specs.Writer.{check_name}
use Rattle.table.specs.Table.{TableMemory, entries_of, default_entry, parse_held_update}
use Rattle.recipients.specs.Recipients.{Recipients}
use Rattle.protocol.specs.Judge.{Call, leave, client_message, local_create, local_write, Verdict, refuse, ignore, close_mark, accept_hello, unsupported_revision, store_new, store_update, new_id, judge_hello, judge_assignment, judge_update, judge_kind, judge_message, judge_create, judge_write, judge, open_mark, read_done, read_entry, open_connection}
use Rattle.protocol.specs.Step.{ServerMemory, LentCall, CallResult, with_mark, with_table, execute, call_step}
use Rattle.protocol.specs.Run.{memory_after_run}
use Rattle.protocol.specs.Effect.{Effect, with_output, without_output}
use Rattle.line_record.specs.Plant.{PlantMessage, refused_message, asks, plant_create, plant_write, plant_message}
use Rattle.line_record.specs.Held.{plant_effect, client_call, message_effect, Settled, leaving, settle, gather}

-- ---- verdicts

-- a verdict that changes no other mark than that of c
data Own (c : ℕ) : Verdict → Type 0 where
  refused : {fault : Fault} → Own c (refuse fault)
  ignored : {taken : ℕ} → Own c (ignore taken)
  left : Own c (close_mark c)
  accepted : Own c (accept_hello c)
  turned_away : Own c (unsupported_revision c)
  new : {e : Entry} {taken : ℕ} → Own c (store_new e taken)
  update : {id number taken : ℕ} {value : List ℕ} {to : Recipients} → Own c (store_update id number value taken to)

-- the calls of a connection: a local call changes no mark at all
data CallOf (c : ℕ) : Call → Type 0 where
  leaves : CallOf c (leave c)
  sends : {m : List ℕ} → CallOf c (client_message c m)
  creates : {name : List ℕ} {type : ℕ} {value : List ℕ} → CallOf c (local_create name type value)
  writes : {id : ℕ} {value : List ℕ} → CallOf c (local_write id value)

module _ (c limit : ℕ) (es : List Entry) where
  hello_own : (mark : ℕ) (m : List ℕ) → Own c (judge_hello c mark m)
  unfolding judge_hello
  hello_own mark m = by_test (Own c) _ _ _ (λ _. by_test (Own c) _ _ _ (λ _. by_test (Own c) _ _ _ (λ _. accepted) (λ _. turned_away)) (λ _. refused)) (λ _. refused)

  assignment_own : (m : List ℕ) (r : AssignmentRead) → Own c (judge_assignment limit es m r)
  unfolding judge_assignment
  assignment_own m (Err fault) = refused
  assignment_own m (Ok read) = by_test (Own c) _ _ _ (λ _. ignored) (λ _. by_test (Own c) _ _ _ (λ _. new) (λ _. refused))

  update_own : (m : List ℕ) (r : UpdateRead) → Own c (judge_update c es m r)
  unfolding judge_update
  update_own m (Err fault) = refused
  update_own m (Ok read) = by_test (Own c) _ _ _ (λ _. update) (λ _. ignored)

  message_own : (mark : ℕ) (m : List ℕ) → Own c (judge_message limit es c mark m)
  unfolding judge_message judge_kind
  message_own mark m =
      by_test (Own c) _ _ _ (λ _. by_test (Own c) _ _ _ (λ _. ignored) (λ _. by_test (Own c) _ _ _ (λ _. hello_own mark m)
      (λ _. by_test (Own c) _ _ _ (λ _. by_test (Own c) _ _ _ (λ _. assignment_own m _) (λ _. refused))
      (λ _. by_test (Own c) _ _ _ (λ _. by_test (Own c) _ _ _ (λ _. update_own m _) (λ _. refused)) (λ _. refused))))) (λ _. refused)

  create_own : (name : List ℕ) (type : ℕ) (value : List ℕ) → Own c (judge_create limit es name type value)
  unfolding judge_create
  create_own name type value = go (check_name name) (parse_lone type value) _ _ _ _ _
    where
      go : (p q : Parsed) (held full : Bool) (e : Entry) (a b : Fault)
          → Own c (and_then refuse p (λ _. and_then refuse q (λ _. pick held (refuse a) (pick full (store_new e 0) (refuse b)))))
      go (Err fault) q held full e a b = refused
      go (Ok n) (Err fault) held full e a b = refused
      go (Ok n) (Ok k) held full e a b = by_test (Own c) _ _ _ (λ _. refused) (λ _. by_test (Own c) _ _ _ (λ _. new) (λ _. refused))

  write_own : (id : ℕ) (value : List ℕ) → Own c (judge_write es id value)
  unfolding judge_write
  write_own id value = by_test (Own c) _ _ _ (λ _. go (parse_lone (get_or es id default_entry).type value) _ _ _) (λ _. refused)
    where
      go : (q : Parsed) (equal : Bool) (number : ℕ) (to : Recipients) → Own c (and_then refuse q (λ _. pick equal (ignore 0) (store_update id number value 0 to)))
      go (Err fault) equal number to = refused
      go (Ok n) equal number to = by_test (Own c) _ _ _ (λ _. ignored) (λ _. update)

  judge_own : (marks : List ℕ) (call : Call) → CallOf c call → Own c (judge limit es marks call)
  unfolding judge
  judge_own marks (open_connection _) x' = elim x' [ ]
  judge_own marks (read_entry id) x'' = elim x'' [ ]
  judge_own marks (leave d) leaves = by_test (Own c) _ _ _ (λ _. by_test (Own c) _ _ _ (λ _. refused) (λ _. left)) (λ _. refused)
  judge_own marks (client_message d m) sends = by_test (Own c) _ _ _ (λ _. by_test (Own c) _ _ _ (λ _. refused) (λ _. message_own (get_or marks c 0) m)) (λ _. refused)
  judge_own marks (local_create name type value) creates = create_own name type value
  judge_own marks (local_write id value) writes = write_own id value

-- ---- calls

-- the marks of the others stay
pub record OthersStay (c : ℕ) (before after : ServerMemory) : Type 0 where
  pub stay : (d : ℕ) → d ≢ c → get_or after.marks d 0 ≡ get_or before.marks d 0

pub others_stay : (c : ℕ) (mem : ServerMemory) → OthersStay c mem mem
others_stay c mem = record { stay = λ d n. refl }

others_on : (c : ℕ) (x y z : ServerMemory) → OthersStay c x y → OthersStay c y z → OthersStay c x z
others_on c x y z f g = record { stay = λ d n. g.stay d n ∙ f.stay d n }

pub marked : (c mark : ℕ) (mem : ServerMemory) → OthersStay c mem (with_mark mem c mark)
marked c mark mem = record { stay = λ d n. get_or-set_other mem.marks c d mark 0 n }

record StayBy (c : ℕ) (mem : ServerMemory) (r : CallResult) : Type 0 where
  others : OthersStay c mem r.memory

module _ (c : ℕ) (mem : ServerMemory) where
  same_table : {table : TableMemory} → OthersStay c mem (with_table mem table)
  same_table = record { stay = λ d n. refl }

  answered : (room : Bool) (x y : CallResult) → OthersStay c mem x.memory → OthersStay c mem y.memory → StayBy c mem (pick room x y)
  answered room x y f g = by_test (StayBy c mem) room x y (λ _. record { others = f }) (λ _. record { others = g })

  execute_own : (out : List ℕ) (v : Verdict) → Own c v → StayBy c mem (execute mem out v)
  unfolding execute
  execute_own out read_done x' = elim x' [ ]
  execute_own out (open_mark _) x'' = elim x'' [ ]
  execute_own out (refuse fault) refused = record { others = others_stay c mem }
  execute_own out (ignore taken) ignored = record { others = others_stay c mem }
  execute_own out (close_mark d) left = answered _ _ _ (marked c _ mem) (others_stay c mem)
  execute_own out (accept_hello d) accepted = answered _ _ _ (marked c _ mem) (others_stay c mem)
  execute_own out (unsupported_revision d) turned_away = answered _ _ _ (marked c _ mem) (others_stay c mem)
  execute_own out (store_new e taken) new = answered _ _ _ same_table (others_stay c mem)
  execute_own out (store_update id number value taken to) update = answered _ _ _ same_table (others_stay c mem)

  call_others : (limit : ℕ) (k : LentCall) → CallOf c k.call → OthersStay c mem (call_step limit mem k).memory
  unfolding call_step
  call_others limit k f =
      (by_test (StayBy c mem) _ _ _ (λ _. execute_own k.output _ (judge_own c limit (entries_of mem.table) mem.marks k.call f))
      (λ _. record { others = others_stay c mem })).others

-- ---- the bytes of a connection

-- a message of the plant's own code asks for a local call
data Local : PlantMessage → Type 0 where
  refused : {number : ℕ} → Local (refused_message number)
  local_call : {call : Call} {size : ℕ} → ((c : ℕ) → CallOf c call) → Local (asks call size)

create_local : (m : List ℕ) (r : AssignmentRead) → Local (plant_create m r)
create_local m (Err fault) = Local.refused
create_local m (Ok read) = local_call (λ c. creates)

write_local : (m : List ℕ) (r : UpdateRead) → Local (plant_write m r)
write_local m (Err fault) = Local.refused
write_local m (Ok read) = local_call (λ c. writes)

plant_local : (es : List Entry) (m : List ℕ) → Local (plant_message es m)
unfolding plant_message
plant_local es m =
    by_test Local _ _ _ (λ _. by_test Local _ _ _ (λ _. create_local m (parse_assignment (id_allowed (Only new_id)) m)) (λ _. by_test Local _ _ _ (λ _. write_local m (parse_held_update es m)) (λ _. Local.refused))) (λ _. Local.refused)

record StayEffect (c : ℕ) (mem : ServerMemory) (e : Effect) : Type 0 where
  others : OthersStay c mem e.memory

module _ (limit : ℕ) (mem : ServerMemory) (c : ℕ) where
  plant_others : (p : PlantMessage) → Local p → StayEffect c mem (plant_effect limit mem p)
  unfolding plant_effect
  plant_others (refused_message number) f = record { others = others_stay c mem }
  plant_others (asks call size) (local_call f) = record { others = call_others c mem limit (with_output limit call) (f c) }

  effect_others : (m : List ℕ) → OthersStay c mem (message_effect limit mem c m).memory
  unfolding message_effect
  effect_others m =
      (by_test (StayEffect c mem) _ _ _ (λ _. record { others = call_others c mem limit (client_call limit c m) sends })
      (λ _. plant_others _ (plant_local (entries_of mem.table) m))).others

  leaving_others : OthersStay c mem (memory_after_run limit mem (leaving c))
  unfolding leaving
  leaving_others =
      by_test P _ _ _ (λ _. unfold memory_after_run in call_others c mem limit (without_output (leave c)) leaves) (λ _. unfold memory_after_run in others_stay c mem)
    where
      P : List LentCall → Type 0
      P ks = OthersStay c mem (memory_after_run limit mem ks)

record StaySettled (c : ℕ) (mem : ServerMemory) (s : Settled) : Type 0 where
  others : OthersStay c mem s.kept.memory

settle_others : (most limit : ℕ) (mem : ServerMemory) (c : ℕ) (held : List ℕ) → StaySettled c mem (settle most limit mem c held)
unfolding settle
settle_others zero limit mem c held = record { others = others_stay c mem }
settle_others (suc most) limit mem c held =
    by_test P _ _ _ (λ _. by_test P _ _ _ (λ _. record { others = stays }) (λ _. by_test P _ _ _
    (λ _. by_test P _ _ _ (λ _. record { others = stays })
    (λ _. record { others = others_on c mem next _ stays (settle_others most limit next c (drop (message_effect limit mem c held).taken held)).others }))
    (λ _. record { others = others_on c mem next _ stays (leaving_others limit next c) })))
    (λ _. record { others = others_stay c mem })
  where
    P : Settled → Type 0
    P = StaySettled c mem

    next : ServerMemory
    next = (message_effect limit mem c held).memory

    stays : OthersStay c mem (message_effect limit mem c held).memory
    stays = effect_others limit mem c held

pub gather_others : (limit : ℕ) (mem : ServerMemory) (c : ℕ) (held arrived : List ℕ) → OthersStay c mem (gather limit mem c held arrived).kept.memory
unfolding gather
gather_others limit mem c held arrived =
    (by_test (StaySettled c mem) _ _ _ (λ _. record { others = others_stay c mem }) (λ _. settle_others (length (held ++ arrived)) limit mem c (held ++ arrived))).others
