use Rattle.std.proofs.Common.{◌-◌, ◌*◌, ◌/◌, length, take, drop, arith}
use Rattle.std.proofs.lemmas.Bool.{OnTrue_from, OnTrue_at}
use Rattle.std.proofs.lemmas.List.{take_rest}
use Rattle.std.specs.Str.{IsAscii}
use Rattle.utf8.proofs.RowsLaws.{ascii_of_ends}
use Rattle.utf8.proofs.are_ascii.Goals as goal

pub returns-then-no_high_byte : goal.returns-then-no_high_byte
returns-then-no_high_byte c =
    let s = c.args.s.now in
    let n = length s in
    let end : IsAscii (take (n - (n - 32)) (drop (n - 32) s)) = c.if-no_high_byte.ensures in
    OnTrue_from _ _ (λ e. ascii_of_ends s (n - 32) (n / 32 * 32) (omega arith) (rw (take_rest s (n - 32)) at end) (OnTrue_at e c.no_high_byte-then-no_high_byte.ensures))
