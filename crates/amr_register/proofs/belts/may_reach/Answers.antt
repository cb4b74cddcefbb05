use Rattle.std.proofs.Common.{◌≡◌, arith}
use Rattle.std.proofs.lemmas.Int.{ints}
use Rattle.amr_def.specs.Domain.{domain_of, home_cell}
use Rattle.amr_register.proofs.BeltCells.{above_belt, below_belt, home_row}
use Rattle.amr_register.proofs.belts.may_reach.Goals as goal

pub returns-then-above-belt : goal.returns-then-above-belt
returns-then-above-belt c = λ no q low high.
    let d = domain_of c.args.dom.now in
    let row : (home_cell d q).y ≡ q.y = home_row d q (omega (arith, ints, c.lo-below.ensures.y, c.if-below-lt0.false, low)) (omega (arith, ints, c.hi-above.ensures.y, c.rows.ensures.value, c.if-rows-above.false, high)) in
    below_belt c.args.belt (home_cell d q) (omega (arith, ints, row, c.hi-above.ensures.y, c.if-above-belt.true, high))

pub returns : goal.returns
returns c = λ no q low high.
    let d = domain_of c.args.dom.now in
    let row : (home_cell d q).y ≡ q.y = home_row d q (omega (arith, ints, c.lo-below.ensures.y, c.if-below-lt0.false, low)) (omega (arith, ints, c.hi-above.ensures.y, c.rows.ensures.value, c.if-rows-above.false, high)) in
    above_belt c.args.belt (home_cell d q) (omega (arith, ints, row, c.lo-below.ensures.y, no, low))
