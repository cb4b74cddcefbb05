use Rattle.std.proofs.Common.{arith}
use Rattle.std.proofs.lemmas.Int.{ints}
use Rattle.amr_flux.proofs.rows.mass_after.Goals as goal

pub overflow_add-result : goal.overflow_add-result
overflow_add-result c = omega (arith, ints, c.ranges.mass.fits, c.from.ensures, c.net_inflow.ensures.least, c.net_inflow.ensures.most)

pub overflow_cast-result : goal.overflow_cast-result
overflow_cast-result c =
    let r = c.requires in
    let n = c.net_inflow.ensures in
    (omega (arith, ints, r.kept, r.fits, c.ranges.mass.fits, c.from.ensures, n.value, n.least, n.most), omega (arith, ints, r.kept, r.fits, c.ranges.mass.fits, c.from.ensures, n.value, n.least, n.most))

pub returns : goal.returns
returns c =
    let r = c.requires in
    let n = c.net_inflow.ensures in
    omega (arith, ints, r.kept, r.fits, c.ranges.mass.fits, c.from.ensures, n.value, n.least, n.most)
