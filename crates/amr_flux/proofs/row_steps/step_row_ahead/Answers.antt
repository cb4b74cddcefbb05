use Rattle.std.proofs.Common.{◌≡◌, ◌+◌, ◌-◌, ◌*◌, ◌<◌, take, drop, length, length-take, sym, ap, refl, ◌∙◌, arith, rules}
use Rattle.std.specs.Prelude.{slice_index}
use Rattle.amr_flux.specs.Paces.{came, x_share, y_share}
use Rattle.amr_flux.specs.Tables.{value}
use Rattle.amr_flux.proofs.Paces.{fits_still}
use Rattle.amr_flux.proofs.RowSteps.{before_ahead, came_here, cell_moved, donor_ahead, made_here, others_here, row_fits, row_here}
use Rattle.amr_flux.proofs.row_steps.step_row_ahead.Goals as goal

pub along-first-requires : goal.along-first-requires
along-first-requires c =
    let w = length c.args.across.now in
    fits_still c.args.pace _ _ (ap (slice_index c.args.values.now) (omega arith)) (c.requires.ready.fit 0 (omega arith))

pub ahead-requires-clause-fit : goal.ahead-requires-clause-fit
ahead-requires-clause-fit c =
    let w = length c.args.across.now in
    let from = (c.args.j + 1) * (w + 2) + 1 in
    row_fits w c.args.j from (from + w) w c.args.values.now refl refl (omega arith) c.args.pace c.requires.ready.fit

pub ahead-requires-clause-room : goal.ahead-requires-clause-room
ahead-requires-clause-room c = λ k h.
    let w = length c.args.across.now in
    let j = c.args.j in
    let values = c.args.values.now in
    let from = (j + 1) * (w + 2) + 1 in
    let below : k < w = omega (arith, h, length-take (from + w - from) (drop from values)) in
    let first : c.along-first.result ≡ x_share c.args.pace (value w values 0 (j + 1)) = c.along-first.ensures.value ∙ ap (λ n. x_share c.args.pace (slice_index values n)) (omega arith) in
    let gain : came c.args.pace c.along-first.result (take (from + w - from) (drop from values)) k ≡ x_share c.args.pace (value w values k (j + 1)) = came_here w j from (from + w) w values refl refl (omega arith) c.args.pace c.along-first.result first k (omega (arith, below)) in
    let known = ap (x_share c.args.pace) (before_ahead w values k j c.args.pace.x.number c.requires.forward) in
    omega (arith, gain, known, c.requires.ready.room k below)

pub returns-clause-cells : goal.returns-clause-cells
returns-clause-cells c =
    let w = length c.args.across.now in
    let j = c.args.j in
    let values = c.args.values.now in
    let from = (j + 1) * (w + 2) + 1 in
    let first : c.along-first.result ≡ x_share c.args.pace (value w values 0 (j + 1)) = c.along-first.ensures.value ∙ ap (λ n. x_share c.args.pace (slice_index values n)) (omega arith) in
    record {
      totals = λ i h.
          cell_moved c.args.pace
          (sym (made_here w j from (from + w) w values refl refl (omega arith) c.ahead.new.row (search rules) (search rules) i h))
          (row_here w j from (from + w) w values refl refl (omega arith) i h)
          (came_here w j from (from + w) w values refl refl (omega arith) c.args.pace c.along-first.result first i (omega (arith, h)) ∙ ap (x_share c.args.pace) (sym (before_ahead w values i j c.args.pace.x.number c.requires.forward)))
          refl
          (c.ahead.ensures.masses i (search rules));
      others = others_here w j from (from + w) w values refl refl (omega arith) c.ahead.new.row (search rules) (search rules) refl;
    }

pub returns-clause-across : goal.returns-clause-across
returns-clause-across c = λ i h.
    let w = length c.args.across.now in
    let j = c.args.j in
    let values = c.args.values.now in
    let from = (j + 1) * (w + 2) + 1 in
    c.ahead.ensures.across i (search rules) ∙ ap (y_share c.args.pace) (row_here w j from (from + w) w values refl refl (omega arith) i h)

pub returns-clause-end : goal.returns-clause-end
returns-clause-end c =
    let w = length c.args.across.now in
    let j = c.args.j in
    let values = c.args.values.now in
    let from = (j + 1) * (w + 2) + 1 in
    let first : c.along-first.result ≡ x_share c.args.pace (value w values 0 (j + 1)) = c.along-first.ensures.value ∙ ap (λ n. x_share c.args.pace (slice_index values n)) (omega arith) in
    let count : length (take (from + w - from) (drop from values)) ≡ w = search rules in
    c.ahead.ensures.last ∙ ap (came c.args.pace c.along-first.result (take (from + w - from) (drop from values))) count
    ∙ came_here w j from (from + w) w values refl refl (omega arith) c.args.pace c.along-first.result first w (omega arith)
    ∙ ap (x_share c.args.pace) (sym (donor_ahead w values w j c.args.pace.x.number c.requires.forward))
