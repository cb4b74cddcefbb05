use Rattle.std.proofs.Common.{◌*◌, arith}
use Rattle.std.proofs.lemmas.Nat.{mul-le}
use Rattle.amr_decoder.proofs.LevelReadings.{few_cells}
use Rattle.amr_decoder.proofs.levels.cells_of_level.Goals as goal

pub overflow_mul-base : goal.overflow_mul-base
overflow_mul-base c =
    let p = c.args.p.now in
    let few = mul-le c.from-across.result c.from-up.result 256 256 (omega (arith, c.from-across.ensures, p.limits.greatest_nx)) (omega (arith, c.from-up.ensures, p.limits.greatest_ny)) in
    omega (arith, few)

pub overflow_mul-result : goal.overflow_mul-result
overflow_mul-result c =
    let p = c.args.p.now in
    let few = few_cells c.from-across.result c.from-up.result c.power_of_four.result (omega (arith, c.from-across.ensures, p.limits.greatest_nx)) (omega (arith, c.from-up.ensures, p.limits.greatest_ny)) c.power_of_four.ensures.few in
    omega (arith, few)

pub returns : goal.returns
returns c = λ i. c.from-across.ensures i * c.from-up.ensures i * c.power_of_four.ensures.power i
