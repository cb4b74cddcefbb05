use Rattle.std.proofs.Common.{arith}
use Rattle.std.proofs.lemmas.Int.{ints}
use Rattle.amr_flux.proofs.rows.net_inflow.Goals as goal

pub overflow_add-result : goal.overflow_add-result
overflow_add-result c =
    let x = c.net_along.ensures in
    let y = c.net_along-2.ensures in
    omega (arith, ints, x.value, x.least, x.most, y.value, y.least, y.most)

pub returns-clause-value : goal.returns-clause-value
returns-clause-value c =
    let x = c.net_along.ensures in
    let y = c.net_along-2.ensures in
    omega (arith, ints, x.value, x.least, x.most, y.value, y.least, y.most)

pub returns-clause-least : goal.returns-clause-least
returns-clause-least c =
    let x = c.net_along.ensures in
    let y = c.net_along-2.ensures in
    omega (arith, ints, x.value, x.least, x.most, y.value, y.least, y.most)

pub returns-clause-most : goal.returns-clause-most
returns-clause-most c =
    let x = c.net_along.ensures in
    let y = c.net_along-2.ensures in
    omega (arith, ints, x.value, x.least, x.most, y.value, y.least, y.most)
