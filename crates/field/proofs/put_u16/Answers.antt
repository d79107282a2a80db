-- `put_u16` stores both bytes: the higher one is below 256.
use Rattle.std.proofs.Common.{◌/◌, ◌%◌, ◌≡◌, refl, arith}
use Rattle.std.proofs.Math.Nat.{mod-eq_of_lt}
use Rattle.field.specs.Octets.{encode16}
use Rattle.field.proofs.put_u16.Goals as goal

pub returns : goal.returns
unfolding encode16
returns c =
    let x = c.args.x in
    let high : x / 256 % 256 ≡ x / 256 = mod-eq_of_lt (omega (arith, c.ranges.x.fits)) in
    rw (c.copy_into.ensures, c.to_be_bytes.ensures, high) refl
