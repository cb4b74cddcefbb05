use Rattle.std.proofs.Common.{◌+◌, ◌*◌, length, sym, ap, refl, ◌∙◌, arith, rules}
use Rattle.std.specs.Prelude.{slice_index}
use Rattle.amr_flux.specs.Paces.{x_share, y_share}
use Rattle.amr_flux.specs.Tables.{value}
use Rattle.amr_flux.proofs.Paces.{fits_still}
use Rattle.amr_flux.proofs.RowSteps.{before_back, cell_moved, donor_back, made_here, others_beyond, row_fits, row_here}
use Rattle.amr_flux.proofs.row_steps.step_row_back.Goals as goal

pub along-end-requires : goal.along-end-requires
along-end-requires c =
    let w = length c.args.across.now in
    fits_still c.args.pace _ _ (ap (slice_index c.args.values.now) (omega arith)) (c.requires.ready.fit (w + 1) (omega arith))

pub back-requires-clause-fit : goal.back-requires-clause-fit
back-requires-clause-fit c =
    let w = length c.args.across.now in
    let from = (c.args.j + 1) * (w + 2) + 1 in
    row_fits w c.args.j from (from + w + 1) (w + 1) c.args.values.now refl (omega arith) (omega arith) c.args.pace c.requires.ready.fit

pub back-requires-clause-room : goal.back-requires-clause-room
back-requires-clause-room c = λ k h.
    let w = length c.args.across.now in
    let j = c.args.j in
    let values = c.args.values.now in
    let from = (j + 1) * (w + 2) + 1 in
    let next = ap (x_share c.args.pace) (row_here w j from (from + w + 1) (w + 1) values refl (omega arith) (omega arith) (k + 1) (omega (arith, h)) ∙ ap (λ n. value w values n (j + 1)) (omega arith) ∙ sym (before_back w values k j c.args.pace.x.number c.requires.backward)) in
    omega (arith, next, c.requires.ready.room k h)

pub returns-clause-cells : goal.returns-clause-cells
returns-clause-cells c =
    let w = length c.args.across.now in
    let j = c.args.j in
    let values = c.args.values.now in
    let from = (j + 1) * (w + 2) + 1 in
    record {
      totals = λ i h.
          cell_moved c.args.pace
          (sym (made_here w j from (from + w + 1) (w + 1) values refl (omega arith) (omega arith) c.back.new.row (search rules) (search rules) i (omega (arith, h))))
          (row_here w j from (from + w + 1) (w + 1) values refl (omega arith) (omega arith) i (omega (arith, h)))
          (ap (x_share c.args.pace) (row_here w j from (from + w + 1) (w + 1) values refl (omega arith) (omega arith) (i + 1) (omega (arith, h)) ∙ ap (λ n. value w values n (j + 1)) (omega arith) ∙ sym (before_back w values i j c.args.pace.x.number c.requires.backward)))
          refl
          (c.back.ensures.masses i h);
      others = others_beyond w j from (from + w + 1) (w + 1) values refl (omega arith) (omega arith) c.back.new.row (search rules) (search rules) refl c.back.ensures.beyond;
    }

pub returns-clause-across : goal.returns-clause-across
returns-clause-across c = λ i h.
    let w = length c.args.across.now in
    let j = c.args.j in
    let values = c.args.values.now in
    let from = (j + 1) * (w + 2) + 1 in
    c.back.ensures.across i h ∙ ap (y_share c.args.pace) (row_here w j from (from + w + 1) (w + 1) values refl (omega arith) (omega arith) i (omega (arith, h)))

pub returns-clause-end : goal.returns-clause-end
returns-clause-end c =
    let w = length c.args.across.now in
    let j = c.args.j in
    let values = c.args.values.now in
    c.along-end.ensures.value ∙ ap (λ n. x_share c.args.pace (slice_index values n)) (omega arith) ∙ ap (x_share c.args.pace) (sym (donor_back w values w j c.args.pace.x.number c.requires.backward))
