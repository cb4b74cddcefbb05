use Rattle.std.proofs.Common.{◌≡◌, ◌+◌, length, ◌∙◌, arith}
use Rattle.std.proofs.lemmas.Int.{ints}
use mir.Val.{to_z, of_z}
use mir.Syntax.{w64}
use Rattle.amr_box.specs.Cells.{at_least_zero}
use Rattle.amr_def.specs.State.{no_masses}
use Rattle.amr_def.specs.Flux.{Fluxes}
use Rattle.amr_def.specs.LevelStep.{step}
use Rattle.amr_def.specs.Ledger.{below_zero}
use Rattle.amr_witness.specs.Maps.{masses_in}
use Rattle.amr_witness.proofs.Sizes.{power_of_four_high}
use Rattle.amr_witness.proofs.ledger.through_ends.Goals as goal

pub between-requires-clause-low : goal.between-requires-clause-low
between-requires-clause-low c =
    let most = power_of_four_high (length c.args.levels.now) c.requires.few in
    let low = c.in_ok-low_flux.ensures.bound in
    (omega (arith, ints, most, low.0, low.1), omega (arith, ints, most, low.0, low.1))

pub between-requires-clause-high : goal.between-requires-clause-high
between-requires-clause-high c =
    let most = power_of_four_high (length c.args.levels.now) c.requires.few in
    let high = c.in_ok-high_flux.ensures.bound in
    (omega (arith, ints, most, high.0, high.1), omega (arith, ints, most, high.0, high.1))

pub returns-clause-inflow : goal.returns-clause-inflow
returns-clause-inflow c =
    let e : Fluxes = (step c.args.p.now 0 (masses_in c.args.levels.now) no_masses).fluxes in
    let most = power_of_four_high (length c.args.levels.now) c.requires.few in
    let low = c.in_ok-low_flux.ensures.bound in
    let high = c.in_ok-high_flux.ensures.bound in
    let low_is : to_z w64 (of_z w64 c.in_ok-low_flux.low_flux) ≡ e c.args.low = omega (arith, ints, most, low.0, low.1, c.in_ok-low_flux.ensures.value) in
    let high_is : to_z w64 (of_z w64 c.in_ok-high_flux.high_flux) ≡ e c.args.high = omega (arith, ints, most, high.0, high.1, c.in_ok-high_flux.ensures.value) in
    c.between.ensures.inflow ∙ (λ i. at_least_zero (low_is i) + below_zero (high_is i))

pub returns-clause-outflow : goal.returns-clause-outflow
returns-clause-outflow c =
    let e : Fluxes = (step c.args.p.now 0 (masses_in c.args.levels.now) no_masses).fluxes in
    let most = power_of_four_high (length c.args.levels.now) c.requires.few in
    let low = c.in_ok-low_flux.ensures.bound in
    let high = c.in_ok-high_flux.ensures.bound in
    let low_is : to_z w64 (of_z w64 c.in_ok-low_flux.low_flux) ≡ e c.args.low = omega (arith, ints, most, low.0, low.1, c.in_ok-low_flux.ensures.value) in
    let high_is : to_z w64 (of_z w64 c.in_ok-high_flux.high_flux) ≡ e c.args.high = omega (arith, ints, most, high.0, high.1, c.in_ok-high_flux.ensures.value) in
    c.between.ensures.outflow ∙ (λ i. below_zero (low_is i) + at_least_zero (high_is i))
