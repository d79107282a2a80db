use Rattle.std.proofs.Common.{◌≡◌, ℕ, ◌+◌, ◌≤◌, List, ◌++◌, rules, length, take, le_refl, length-take-le}
use Rattle.std.proofs.lemmas.Slice.{take-put_mid_below}
use Rattle.std.proofs.lemmas.List.{drop_at, take-append-le}
use Rattle.std.proofs.Math.Seq.{take-add}
use Rattle.std.proofs.KnownBytes.{Consumes-trans}
use borrow.Rule.Slice.PartMut.{put_mid}
use Rattle.script.proofs.read_full.Goals as goal

-- a read more: its bytes stand behind those before
take_read : (a k n : ℕ) (xs ys : List ℕ) → a ≤ length xs → n ≤ length ys → take (a + n) (put_mid a k xs ys) ≡ take a xs ++ take n ys
take_read a k n xs ys within fits =
    rw (take-add a n (put_mid a k xs ys), take-put_mid_below a k xs ys a (le_refl a) within, drop_at (take a xs) _ a (length-take-le a xs within), take-append-le n ys _ fits)

pub loop-end-preserved : goal.loop-end-preserved
loop-end-preserved g c = record {
  within = search rules;
  bytes = rw (take_read c.loop-end.end _ c.in_ok-n.n c.loop-end.buffer c.read.new.buf c.loop-end.invariant.within c.in_ok-n.ensures.bound.0) (Consumes-trans _ _ _ _ _ c.loop-end.invariant.bytes c.in_ok-n.ensures.bytes.0);
}
