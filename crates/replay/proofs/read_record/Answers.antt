-- `read_record` reads the kind, then the connection, then the bytes that came in.
use Rattle.std.proofs.Common.{◌≡◌, ◌-◌, arith, rules, Err, length, take, drop, length-drop}
use lib.Seq.{take-take, length-take-le}
use Rattle.field.proofs.FieldLaws.{octet_there, octet_missing}
use Rattle.line_record.specs.Record.{record_head_size}
use Rattle.replay.proofs.ReadLaws.{known_of, opens_of, leaves_of, data_of, unknown_of, read_short, read_unknown, read_cut, read_opens, read_leaves, read_other, read_part, read_found}
use Rattle.replay.proofs.read_record.Goals as goal

pub returns-in_default-clause-next : goal.returns-in_default-clause-next
returns-in_default-clause-next c = read_short c.args.s.now (omega (arith, (octet_missing c.args.s.now 0 _ c.in_default.ensures).0))

pub returns-in_err-kind-clause-next : goal.returns-in_err-kind-clause-next
returns-in_err-kind-clause-next c =
    let refusal = c.in_err-kind.field-0.0 in
    let e : c.from_residual.result ≡ Err refusal = search rules in
    let h = octet_there c.args.s.now 0 c.in-Ok.byte c.in-Ok.ensures in
    let u = unknown_of c.in_err-kind.ensures in
    rw (e, u.0) (read_unknown c.args.s.now c.in-Ok.byte h.0 h.1 u.1)

pub returns-in_default-read_u8-clause-next : goal.returns-in_default-read_u8-clause-next
returns-in_default-read_u8-clause-next c =
    let h = octet_there c.args.s.now 0 c.in-Ok.byte c.in-Ok.ensures in
    read_cut c.args.s.now c.in-Ok.byte h.0 h.1 (known_of c.in_ok-kind.ensures) (omega (arith, (octet_missing c.args.s.now 1 _ c.in_default-read_u8.ensures).0))

pub returns-then-c-gt-PLANT-clause-next : goal.returns-then-c-gt-PLANT-clause-next
returns-then-c-gt-PLANT-clause-next c =
    let h = octet_there c.args.s.now 0 c.in-Ok.byte c.in-Ok.ensures in
    let g = octet_there c.args.s.now 1 c.in-Ok-read_u8.connection c.in-Ok-read_u8.ensures in
    let d = data_of (rw c.in-Data.is at c.in_ok-kind.ensures) in
    read_other c.args.s.now c.in-Ok.byte h.0 h.1 c.in-Ok-read_u8.connection g.0 g.1 d.0 (omega (arith, c.from-c.ensures, c.if-c-gt-PLANT.true))

pub overflow_sub-s : goal.overflow_sub-s
overflow_sub-s c = (octet_there c.args.s.now 1 c.in-Ok-read_u8.connection c.in-Ok-read_u8.ensures).0

pub returns-then-s-size-clause-next : goal.returns-then-s-size-clause-next
returns-then-s-size-clause-next c =
    let h = octet_there c.args.s.now 0 c.in-Ok.byte c.in-Ok.ensures in
    let g = octet_there c.args.s.now 1 c.in-Ok-read_u8.connection c.in-Ok-read_u8.ensures in
    let d = data_of (rw c.in-Data.is at c.in_ok-kind.ensures) in
    read_part c.args.s.now c.in-Ok.byte h.0 h.1 c.in-Ok-read_u8.connection g.0 g.1 d.0 (omega (arith, c.from-c.ensures, c.if-c-gt-PLANT.false)) (omega (arith, d.1, g.0, c.if-s-size.true))

pub returns-in-Opens-clause-next : goal.returns-in-Opens-clause-next
returns-in-Opens-clause-next c =
    let h = octet_there c.args.s.now 0 c.in-Ok.byte c.in-Ok.ensures in
    let g = octet_there c.args.s.now 1 c.in-Ok-read_u8.connection c.in-Ok-read_u8.ensures in
    rw c.from-c.ensures (read_opens c.args.s.now c.in-Ok.byte h.0 h.1 c.in-Ok-read_u8.connection g.0 g.1 (opens_of (rw c.in-Opens.is at c.in_ok-kind.ensures)))

pub returns-in-Opens-clause-fits : goal.returns-in-Opens-clause-fits
returns-in-Opens-clause-fits c = (tt, (octet_there c.args.s.now 1 c.in-Ok-read_u8.connection c.in-Ok-read_u8.ensures).0)

pub returns-in-Leaves-clause-next : goal.returns-in-Leaves-clause-next
returns-in-Leaves-clause-next c =
    let h = octet_there c.args.s.now 0 c.in-Ok.byte c.in-Ok.ensures in
    let g = octet_there c.args.s.now 1 c.in-Ok-read_u8.connection c.in-Ok-read_u8.ensures in
    rw c.from-c.ensures (read_leaves c.args.s.now c.in-Ok.byte h.0 h.1 c.in-Ok-read_u8.connection g.0 g.1 (leaves_of (rw c.in-Leaves.is at c.in_ok-kind.ensures)))

pub returns-in-Leaves-clause-fits : goal.returns-in-Leaves-clause-fits
returns-in-Leaves-clause-fits c = (tt, (octet_there c.args.s.now 1 c.in-Ok-read_u8.connection c.in-Ok-read_u8.ensures).0)

pub returns-else-s-size-clause-next : goal.returns-else-s-size-clause-next
returns-else-s-size-clause-next c =
    let s = c.args.s.now in
    let size = c.in-Data.size in
    let h = octet_there s 0 c.in-Ok.byte c.in-Ok.ensures in
    let g = octet_there s 1 c.in-Ok-read_u8.connection c.in-Ok-read_u8.ensures in
    let d = data_of (rw c.in-Data.is at c.in_ok-kind.ensures) in
    let same : take size (take (length s - record_head_size) (drop record_head_size s)) ≡ take size (drop record_head_size s) =
    take-take size (length s - record_head_size) (drop record_head_size s) (omega (arith, c.if-s-size.false)) in
    let long : length (take size (drop record_head_size s)) ≡ size =
    length-take-le size (drop record_head_size s) (omega (arith, length-drop record_head_size s, c.if-s-size.false)) in
    rw (same, long, d.1, c.from-c.ensures)
    (read_found s c.in-Ok.byte h.0 h.1 c.in-Ok-read_u8.connection g.0 g.1 d.0 (omega (arith, c.from-c.ensures, c.if-c-gt-PLANT.false)) (omega (arith, d.1, g.0, c.if-s-size.false)))
