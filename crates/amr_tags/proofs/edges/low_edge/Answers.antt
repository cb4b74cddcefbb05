use Rattle.std.proofs.Common.{arith}
use Rattle.std.proofs.lemmas.Int.{ints}
use Rattle.amr_tags.proofs.Halving.{ends_in_order, near_high, near_low, none_below_part, one_lower, one_up_to_high}
use Rattle.amr_tags.proofs.edges.low_edge.Goals as goal

pub loop-low-init : goal.loop-low-init
loop-low-init c =
    let n = near_low c.args.b.now c.args.part.now c.args.axis c.requires.near c.requires.part in
    let m = near_high c.args.b.now c.args.part.now c.args.axis c.requires.near c.requires.part in
    let o = ends_in_order c.args.b.now c.args.part.now c.args.axis c.requires.part in
    let l = c.low_of-low.ensures in
    let h = c.high_of-high.ensures in
    (omega (arith, ints, n, m, o, l, h), omega (arith, ints, n, m, o, l, h), omega (arith, ints, n, m, o, l, h), none_below_part c.args.b.now c.args.part.now c.args.words.now c.args.axis _ (omega (arith, ints, n, m, o, l)), one_up_to_high c.args.b.now c.args.part.now c.args.words.now c.args.axis _ (omega (arith, ints, n, m, o, h)) c.requires.some)

pub returns-clause-one_there : goal.returns-clause-one_there
returns-clause-one_there c = one_lower _ _ _ _ (omega (arith, ints, c.loop-low-test.false)) c.loop-low.invariant.4
