use Rattle.std.proofs.Common.{◌^◌, pos, ℤ, ◌≤ℤ◌, ◌<ℤ◌, sym, subst, ◌∙◌}
use Rattle.amr_flux.proofs.PatchSteps.{mass_is, patch_fit}
use Rattle.amr_flux.proofs.one_pass.update_plain.Goals as goal

pub step_cells-requires-clause-fit : goal.step_cells-requires-clause-fit
step_cells-requires-clause-fit c =
    let s = c.args.shape in
    patch_fit c.of-pace.result s.w s.h c.args.values.now c.requires.ready.value_count c.of-pace.ensures.fit c.requires.ready.x_small c.requires.ready.y_small

pub step_cells-requires-clause-kept : goal.step_cells-requires-clause-kept
step_cells-requires-clause-kept c = λ i j hi hj.
    let s = c.args.shape in
    let e = c.of-pace.ensures in
    let P : ℤ → Type 0 = λ z. pos 0 ≤ℤ z in
    subst P (sym (mass_is c.args.p.now s.level c.of-pace.result s.w s.h s.column s.row c.args.border.marks.now c.args.border.sizes.now c.args.values.now c.requires.one_x c.requires.one_y e.x_number e.x_parts e.y_number e.y_parts i j)) (c.requires.ready.kept i j hi hj)

pub step_cells-requires-clause-fits : goal.step_cells-requires-clause-fits
step_cells-requires-clause-fits c = λ i j hi hj.
    let s = c.args.shape in
    let e = c.of-pace.ensures in
    let P : ℤ → Type 0 = λ z. z <ℤ pos (2 ^ 32) in
    subst P (sym (mass_is c.args.p.now s.level c.of-pace.result s.w s.h s.column s.row c.args.border.marks.now c.args.border.sizes.now c.args.values.now c.requires.one_x c.requires.one_y e.x_number e.x_parts e.y_number e.y_parts i j)) (c.requires.ready.fits i j hi hj)

pub returns-clause-masses : goal.returns-clause-masses
returns-clause-masses c =
    let s = c.args.shape in
    let e = c.of-pace.ensures in
    record {
      made = λ i j hi hj.
          c.step_cells.ensures.made i j hi hj
          ∙ mass_is c.args.p.now s.level c.of-pace.result s.w s.h s.column s.row c.args.border.marks.now c.args.border.sizes.now c.args.values.now c.requires.one_x c.requires.one_y e.x_number e.x_parts e.y_number e.y_parts i j;
      others = c.step_cells.ensures.others;
    }
