-- `entry_is_sound` meets its contract: each test that fails decides, and the value decides once the others hold.
use Rattle.std.proofs.Common.{sym, ap, ◌∙◌, arith}
use Rattle.utf8.specs.Utf8.{is_utf8}
use Rattle.soundness.proofs.EntryLaws.{bad_name_lem, value_decides, wide_type}
use Rattle.soundness.proofs.entry_is_sound.Goals as goal

pub returns-then-not-is_utf8 : goal.returns-then-not-is_utf8
returns-then-not-is_utf8 c =
    let t = c.args.table in
    sym (bad_name_lem t.heads.now t.bytes.now c.args.i (ap is_utf8 (sym c.name_of.ensures) ∙ sym c.if-not-is_utf8.ensures))

pub returns-in_default : goal.returns-in_default
returns-in_default c =
    let t = c.args.table in
    sym (wide_type t.heads.now t.bytes.now c.args.i c.name_of.result.now c.name_of.ensures (omega arith) (omega arith) (sym c.if-not-is_utf8.ensures) (omega (arith, c.in_default.ensures, c.type_of.ensures)))

pub returns : goal.returns
returns c =
    let t = c.args.table in
    c.is_ok.ensures.value
    ∙ rw c.read_lone.ensures (value_decides t.heads.now t.bytes.now c.args.i c.name_of.result.now _ _ c.name_of.ensures (c.in-Ok.ensures.1 ∙ c.type_of.ensures) c.value_of.ensures (omega arith) (omega arith) (sym c.if-not-is_utf8.ensures))
