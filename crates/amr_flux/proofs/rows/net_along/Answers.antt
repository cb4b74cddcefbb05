use Rattle.std.proofs.Common.{arith}
use Rattle.std.proofs.lemmas.Int.{ints, to_z-of_z}
use mir.Syntax.{w32}
use Rattle.amr_flux.proofs.Words.{word_of}
use Rattle.amr_flux.proofs.rows.net_along.Goals as goal

pub overflow_sub-result : goal.overflow_sub-result
overflow_sub-result c =
    let l = word_of c.args.low c.ranges.low in
    let h = word_of c.args.high c.ranges.high in
    let low = simp (to_z-of_z w32 c.args.low c.ranges.low) at c.from.ensures in
    let high = simp (to_z-of_z w32 c.args.high c.ranges.high) at c.from-2.ensures in
    omega (arith, ints, low, high, l.low, l.high, h.low, h.high)

pub returns-clause-value : goal.returns-clause-value
returns-clause-value c =
    let l = word_of c.args.low c.ranges.low in
    let h = word_of c.args.high c.ranges.high in
    let low = simp (to_z-of_z w32 c.args.low c.ranges.low) at c.from.ensures in
    let high = simp (to_z-of_z w32 c.args.high c.ranges.high) at c.from-2.ensures in
    omega (arith, ints, low, high, l.low, l.high, h.low, h.high)

pub returns-clause-least : goal.returns-clause-least
returns-clause-least c =
    let l = word_of c.args.low c.ranges.low in
    let h = word_of c.args.high c.ranges.high in
    let low = simp (to_z-of_z w32 c.args.low c.ranges.low) at c.from.ensures in
    let high = simp (to_z-of_z w32 c.args.high c.ranges.high) at c.from-2.ensures in
    omega (arith, ints, low, high, l.low, l.high, h.low, h.high)

pub returns-clause-most : goal.returns-clause-most
returns-clause-most c =
    let l = word_of c.args.low c.ranges.low in
    let h = word_of c.args.high c.ranges.high in
    let low = simp (to_z-of_z w32 c.args.low c.ranges.low) at c.from.ensures in
    let high = simp (to_z-of_z w32 c.args.high c.ranges.high) at c.from-2.ensures in
    omega (arith, ints, low, high, l.low, l.high, h.low, h.high)
