use Rattle.std.proofs.Common.{◌+◌, ◌∙◌, refl, arith, rules}
use Rattle.amr_flux.specs.Tables.{value, y_flux}
use Rattle.amr_flux.proofs.Parts.{small_part}
use Rattle.amr_flux.proofs.Steps.{front_made, y_flux_is}
use Rattle.amr_flux.proofs.y_faces.y_row.Goals as goal

pub y_fluxes-requires-clause-low_small : goal.y_fluxes-requires-clause-low_small
y_fluxes-requires-clause-low_small c =
    let w = c.args.shape.w in
    small_part c.row_part-low.result.now (λ k. value w c.args.values.now (k + 1) c.args.j) w c.row_part-low.ensures.count c.row_part-low.ensures.values c.requires.low_small

pub y_fluxes-requires-clause-high_small : goal.y_fluxes-requires-clause-high_small
y_fluxes-requires-clause-high_small c =
    let w = c.args.shape.w in
    small_part c.row_part-high.result.now (λ k. value w c.args.values.now (k + 1) (c.args.j + 1)) w c.row_part-high.ensures.count c.row_part-high.ensures.values c.requires.high_small

pub returns : goal.returns
returns c = λ i inside.
    let p = c.args.p.now in
    let s = c.args.shape in
    front_made _ c.args.fluxes.now c.y_fluxes.new.fluxes (λ k. y_flux p s.level s.column s.w c.args.values.now k c.args.j) (search rules) (search rules)
    (λ t h. c.y_fluxes.ensures t (omega (arith, h)) ∙ y_flux_is p s.level s.column s.w c.args.values.now t c.args.j refl refl (c.row_part-low.ensures.values t (omega (arith, h))) (c.row_part-high.ensures.values t (omega (arith, h))))
    i (omega (arith, inside))
