use Rattle.std.proofs.Common.{arith}
use Rattle.std.proofs.lemmas.Int.{ints}
use Rattle.amr_tags.proofs.Halving.{ends_in_order, near_high, near_low, none_above_part, one_from_low, one_higher}
use Rattle.amr_tags.proofs.edges.high_edge.Goals as goal

pub loop-low-init : goal.loop-low-init
loop-low-init c =
    let n = near_low c.args.b.now c.args.part.now c.args.axis c.requires.near c.requires.part in
    let m = near_high c.args.b.now c.args.part.now c.args.axis c.requires.near c.requires.part in
    let o = ends_in_order c.args.b.now c.args.part.now c.args.axis c.requires.part in
    let l = c.low_of-low.ensures in
    let h = c.high_of-high.ensures in
    (omega (arith, ints, n, m, o, l, h), omega (arith, ints, n, m, o, l, h), omega (arith, ints, n, m, o, l, h), none_above_part c.args.b.now c.args.part.now c.args.words.now c.args.axis _ (omega (arith, ints, n, m, o, h)), one_from_low c.args.b.now c.args.part.now c.args.words.now c.args.axis _ (omega (arith, ints, n, m, o, l)) c.requires.some)

pub returns-clause-one_there : goal.returns-clause-one_there
returns-clause-one_there c = one_higher _ _ _ _ (omega (arith, ints, c.loop-low-test.false)) c.loop-low.invariant.4
