-- What storing a new entry relies on is the verdict's.
use Rattle.std.proofs.Common.{◌≡◌, ap}
use Rattle.message.specs.Layout.{Entry}
use Rattle.server.proofs.create.Goals as goal

pub store_new-requires-clause-room : goal.store_new-requires-clause-room
store_new-requires-clause-room c =
    rw c.in-Some.ensures.same at (c.in_default-judge_create.ensures c.args.marks.now).creatable.0

pub store_new-requires-clause-lengths : goal.store_new-requires-clause-lengths
store_new-requires-clause-lengths c =
    let named : c.new_entry-entry.result.name.now ≡ c.args.name.now = ap (λ (e : Entry). e.name) c.new_entry-entry.ensures.entry in
    let valued : c.new_entry-entry.result.value.now ≡ c.args.value.now = ap (λ (e : Entry). e.value) c.new_entry-entry.ensures.entry in
    let fits = (c.in_default-judge_create.ensures c.args.marks.now).creatable in
    rw (named, valued) (fits.1, fits.2)
