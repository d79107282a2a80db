use Rattle.std.proofs.Common.{◌-◌, length, take, drop, arith}
use Rattle.std.proofs.lemmas.Bool.{OnTrue_from, OnTrue_at, and_parts}
use Rattle.std.proofs.lemmas.List.{take_rest}
use Rattle.std.specs.Str.{IsAscii}
use Rattle.utf8.proofs.RowsLaws.{ascii_of_ends}
use Rattle.utf8.proofs.ends_are_ascii.Goals as goal

pub returns : goal.returns
returns g c =
    let s = c.args.s.now in
    let b = length s - g.row.N in
    OnTrue_from _ _ (λ e.
    let both = and_parts c.no_high_byte.result c.no_high_byte-2.result e in
    let front : IsAscii (take g.row.N s) = OnTrue_at both.0 c.no_high_byte.ensures in
    let end : IsAscii (take (length s - b) (drop b s)) = OnTrue_at both.1 c.no_high_byte-2.ensures in
    ascii_of_ends s b g.row.N (omega arith) (rw (take_rest s b) at end) front)
