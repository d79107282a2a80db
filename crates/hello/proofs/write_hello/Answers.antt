-- `write_hello` meets its contract: the assignments passed are stored, and what is left has room for the others and 0x03.
use Rattle.std.proofs.Common.{◌≡◌, refl, ap, ◌∙◌, [], ◌∷◌, ◌+◌, ◌≤◌, length, length-take, length-drop, arith}
use Rattle.field.specs.Octets.{overwrite_at}
use Rattle.field.proofs.OverwriteLaws.{Stored, stored, store_next, length_overwrite}
use Rattle.message.specs.Layout.{assignment_bytes, hello_complete_kind}
use Rattle.table.specs.Table.{entry_at, entries_of}
use Rattle.hello.proofs.HelloLaws.{assignments_below, below_more, hello_below, overwrite_rest, room_for_next, room_for_last}
use Rattle.hello.proofs.write_hello.Goals as goal

pub loop-id-init : goal.loop-id-init
unfolding assignments_below overwrite_at
loop-id-init c = (refl, stored c.args.out.now c.args.out.now [] 0 refl refl)

-- ---- the next assignment

pub slice_bounds-write_entry-count : goal.slice_bounds-write_entry-count
unfolding entries_of
slice_bounds-write_entry-count c =
    let t = c.args.table in
    let s = c.loop-id.invariant in
    omega (arith, s.0, room_for_next t.count c.loop-id.id c.loop-id.end _ (entry_at t.heads.now t.bytes.now) c.loop-id-test.true s.1.reached c.requires.room)

pub slice_bounds-write_entry-start : goal.slice_bounds-write_entry-start
unfolding entries_of
slice_bounds-write_entry-start c =
    let t = c.args.table in
    let s = c.loop-id.invariant in
    omega (arith, s.0, room_for_next t.count c.loop-id.id c.loop-id.end _ (entry_at t.heads.now t.bytes.now) c.loop-id-test.true s.1.reached c.requires.room)

pub write_entry-end-requires-clause-room : goal.write_entry-end-requires-clause-room
unfolding entries_of
write_entry-end-requires-clause-room c =
    let t = c.args.table in
    let s = c.loop-id.invariant in
    simp (length-take, length-drop) (omega (arith, s.0, room_for_next t.count c.loop-id.id c.loop-id.end _ (entry_at t.heads.now t.bytes.now) c.loop-id-test.true s.1.reached c.requires.room))

pub overflow_add-end : goal.overflow_add-end
unfolding entries_of
overflow_add-end c =
    let t = c.args.table in
    let s = c.loop-id.invariant in
    omega (arith, s.0, c.write_entry-end.ensures.length, room_for_next t.count c.loop-id.id c.loop-id.end _ (entry_at t.heads.now t.bytes.now) c.loop-id-test.true s.1.reached c.requires.room)

pub loop-id-preserved : goal.loop-id-preserved
unfolding entries_of
loop-id-preserved c =
    let t = c.args.table in
    let s = c.loop-id.invariant in
    let f = entry_at t.heads.now t.bytes.now in
    let next = assignment_bytes c.loop-id.id (f c.loop-id.id) in
    let fits : c.loop-id.end + length next + 1 ≤ length c.loop-id.out = omega (arith, s.0, room_for_next t.count c.loop-id.id c.loop-id.end _ f c.loop-id-test.true s.1.reached c.requires.room) in
    let whole = overwrite_rest c.loop-id.out c.write_entry-end.new.out next c.loop-id.end (omega (arith, fits)) c.write_entry-end.ensures.output in (
      ap length whole ∙ length_overwrite c.loop-id.out c.loop-id.end next ∙ s.0,
      rw (below_more c.loop-id.id f) (store_next _ next (c.loop-id.end + c.write_entry-end.result) s.1 whole (omega (arith, c.write_entry-end.ensures.length))),
    )

-- ---- the end mark

pub slice_bounds-write_kind-count : goal.slice_bounds-write_kind-count
unfolding entries_of
slice_bounds-write_kind-count c =
    let t = c.args.table in
    let f = entry_at t.heads.now t.bytes.now in
    let all : c.loop-id.id ≡ t.count = omega (arith, c.loop-id.auto.id-end) in
    let done : Stored c.args.out.now (assignments_below t.count f) c.loop-id.out c.loop-id.end = rw (← all) c.loop-id.invariant.1 in
    omega (arith, c.loop-id.invariant.0, room_for_last t.count c.loop-id.end _ f done.reached c.requires.room)

pub slice_bounds-write_kind-start : goal.slice_bounds-write_kind-start
unfolding entries_of
slice_bounds-write_kind-start c =
    let t = c.args.table in
    let f = entry_at t.heads.now t.bytes.now in
    let all : c.loop-id.id ≡ t.count = omega (arith, c.loop-id.auto.id-end) in
    let done : Stored c.args.out.now (assignments_below t.count f) c.loop-id.out c.loop-id.end = rw (← all) c.loop-id.invariant.1 in
    omega (arith, c.loop-id.invariant.0, room_for_last t.count c.loop-id.end _ f done.reached c.requires.room)

pub write_kind-requires : goal.write_kind-requires
unfolding entries_of
write_kind-requires c =
    let t = c.args.table in
    let f = entry_at t.heads.now t.bytes.now in
    let all : c.loop-id.id ≡ t.count = omega (arith, c.loop-id.auto.id-end) in
    let done : Stored c.args.out.now (assignments_below t.count f) c.loop-id.out c.loop-id.end = rw (← all) c.loop-id.invariant.1 in
    simp (length-take, length-drop) (omega (arith, c.loop-id.invariant.0, room_for_last t.count c.loop-id.end _ f done.reached c.requires.room))

pub overflow_add-result : goal.overflow_add-result
unfolding entries_of
overflow_add-result c =
    let t = c.args.table in
    let f = entry_at t.heads.now t.bytes.now in
    let all : c.loop-id.id ≡ t.count = omega (arith, c.loop-id.auto.id-end) in
    let done : Stored c.args.out.now (assignments_below t.count f) c.loop-id.out c.loop-id.end = rw (← all) c.loop-id.invariant.1 in
    omega (arith, c.loop-id.invariant.0, c.write_kind.ensures.sent, room_for_last t.count c.loop-id.end _ f done.reached c.requires.room)

pub returns : goal.returns
unfolding entries_of
returns c =
    let t = c.args.table in
    let f = entry_at t.heads.now t.bytes.now in
    let all : c.loop-id.id ≡ t.count = omega (arith, c.loop-id.auto.id-end) in
    let done : Stored c.args.out.now (assignments_below t.count f) c.loop-id.out c.loop-id.end = rw (← all) c.loop-id.invariant.1 in
    let fits : c.loop-id.end + 1 ≤ length c.loop-id.out = omega (arith, c.loop-id.invariant.0, room_for_last t.count c.loop-id.end _ f done.reached c.requires.room) in
    let whole = overwrite_rest c.loop-id.out c.write_kind.new.out (hello_complete_kind ∷ []) c.loop-id.end fits (rw c.from.ensures at c.write_kind.ensures.output) in
    let stored_all = store_next _ (hello_complete_kind ∷ []) (c.loop-id.end + c.write_kind.result) done whole (omega (arith, c.write_kind.ensures.sent)) in
    record { length = rw (hello_below t.count f) (omega (arith, stored_all.reached)); output = rw (hello_below t.count f) stored_all.so_far }
