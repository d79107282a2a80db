-- `greeted_but` meets its contract: the set has the bits of the connections passed.
use Rattle.std.proofs.Common.{◌≡◌, ◌+◌, ◌≤◌, ◌<◌, sym, arith, length-take}
use Rattle.std.proofs.lemmas.List.{get_or-take}
use lib.Pow.{pow_mono}
use Rattle.recipients.specs.Recipients.{greeted_but, is_recipient, bit_set, recipient_set}
use Rattle.recipients.proofs.RecipientLaws.{greeted_bit, bits_none, bits_more, bits_lt}
use Rattle.recipients.proofs.greeted_but.Goals as goal

pub loop-c-init : goal.loop-c-init
loop-c-init c = sym (bits_none _)

pub overflow_add-set : goal.overflow_add-set
overflow_add-set c =
    let marks = c.args.marks.now in
    let n = c.loop-c.c in
    let p = is_recipient (greeted_but c.args.left_out) marks in
    let inside : n < 16 = omega (arith, length-take 16 marks) in
    let h : n + 1 ≤ 16 = omega arith in
    let bit : c.loop-c.set + c.bit_of-set.result ≡ bit_set (n + 1) p =
    rw (c.bit_of-set.ensures, get_or-take 16 marks n 0 inside, greeted_bit c.args.left_out marks n, c.loop-c.invariant) (sym (bits_more n p)) in
    omega (arith, bit, bits_lt (n + 1) p, pow_mono h)

pub loop-c-preserved : goal.loop-c-preserved
loop-c-preserved c =
    let marks = c.args.marks.now in
    let n = c.loop-c.c in
    let inside : n < 16 = omega (arith, length-take 16 marks) in
    rw (c.bit_of-set.ensures, get_or-take 16 marks n 0 inside, greeted_bit c.args.left_out marks n, c.loop-c.invariant) (sym (bits_more n (is_recipient (greeted_but c.args.left_out) marks)))

pub returns : goal.returns
unfolding recipient_set
returns c =
    let marks = c.args.marks.now in
    let all : c.loop-c.c ≡ 16 = omega (arith, length-take 16 marks) in
    rw (← all) c.loop-c.invariant
