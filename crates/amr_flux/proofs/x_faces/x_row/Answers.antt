use Rattle.std.proofs.Common.{ℕ, ◌+◌, ◌<◌, ◌∙◌, ap, subst, arith, rules}
use Rattle.amr_flux.specs.Tables.{value, x_flux}
use Rattle.amr_flux.proofs.Parts.{small_part}
use Rattle.amr_flux.proofs.Steps.{front_made, x_flux_is}
use Rattle.amr_flux.proofs.x_faces.x_row.Goals as goal

pub face_fluxes-requires-clause-low_small : goal.face_fluxes-requires-clause-low_small
face_fluxes-requires-clause-low_small c =
    let w = c.args.shape.w in
    let row : ℕ → ℕ = λ n. value w c.args.values.now n (c.args.j + 1) in
    small_part c.row_part-low.result.now (λ k. row (k + 0)) (w + 1) c.row_part-low.ensures.count c.row_part-low.ensures.values (λ k h. subst (λ (n : ℕ). row n < 2147483648) (omega arith) (c.requires.small k (omega (arith, h))))

pub face_fluxes-requires-clause-high_small : goal.face_fluxes-requires-clause-high_small
face_fluxes-requires-clause-high_small c =
    let w = c.args.shape.w in
    small_part c.row_part-high.result.now (λ k. value w c.args.values.now (k + 1) (c.args.j + 1)) (w + 1) c.row_part-high.ensures.count c.row_part-high.ensures.values (λ k h. c.requires.small (k + 1) (omega (arith, h)))

pub returns : goal.returns
returns c = λ i inside.
    let p = c.args.p.now in
    let s = c.args.shape in
    let values = c.args.values.now in
    front_made _ c.args.fluxes.now c.face_fluxes.new.fluxes (λ k. x_flux p s.level s.row s.w values k c.args.j) (search rules) (search rules)
    (λ t h.
    c.face_fluxes.ensures t (search rules)
    ∙ x_flux_is p s.level s.row s.w values t c.args.j c.requires.number c.requires.parts (c.row_part-low.ensures.values t (omega (arith, h)) ∙ ap (λ n. value s.w values n (c.args.j + 1)) (omega arith)) (c.row_part-high.ensures.values t (omega (arith, h))))
    i (omega (arith, inside))
