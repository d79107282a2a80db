-- `why`: what explaining a decision relies on, by the verdict.
use Rattle.table.specs.Memory.{memory_of}
use Rattle.why.proofs.IgnoredLaws.{explainable}
use Rattle.why.proofs.why.Goals as goal

pub why_taken-requires : goal.why_taken-requires
why_taken-requires c = explainable (memory_of c.in-Some.table.table) c.args.marks.now c.args.c c.args.m.now _ c.in-Ok.ensures
