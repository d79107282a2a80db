-- Laws of what a record's reading found so far.
use Rattle.std.proofs.Common.{ℕ, ◌+◌, ◌≤◌, ◌<◌, ◌^◌, List, take, arith}
use lib.ListN.{length-take}
use Rattle.field.specs.Field.{fault_of}
use Rattle.value.specs.Value.{max_value_size, parse_lone}
use Rattle.value.proofs.ValueLaws.{lone_place}
use Rattle.saved.specs.Form.{value_place}

-- a value's fault is told within the record
pub lone_fits : (t n : ℕ) (v : List ℕ) → n ≤ max_value_size → value_place + (fault_of (parse_lone t (take n v))).place < 2 ^ 64
lone_fits t n v h = omega (arith, lone_place t (take n v), length-take n v)
