-- The code's records, as the definitions have them.
use Rattle.std.specs.Prelude.{◌≤◌, ◌<◌, length}
use Rattle.line_record.specs.Record.{opens, leaves, came, max_arrived, recorded_connections}
use Rattle.line_record.specs.Record as defined
use Rattle.slots.specs.declared.Record.{Record}
use Rattle.slots.specs.declared.Record.TheVariants as R

abbrev pub lent_record : Record → defined.Record
lent_record (R.Opens c) = opens c
lent_record (R.Leaves c) = leaves c
lent_record (R.Came c arrived) = came c arrived.now

-- bytes came in for a connection that has a slot, and no more than there is room for
abbrev pub Fits : Record → Type 0
Fits (R.Opens c) = Unit {0}
Fits (R.Leaves c) = Unit {0}
Fits (R.Came c arrived) = (c < recorded_connections) × (length arrived.now ≤ max_arrived)
