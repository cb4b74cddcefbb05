use Rattle.std.proofs.Common.{◌∙◌, sym, pos, ◌≤ℤ◌, w32, w64, rules, arith}
use Rattle.std.proofs.lemmas.Int.{ints, to_z-of_z}
use Rattle.amr_problem.specs.Keys.{blocking_factor}
use Rattle.amr_problem.proofs.RangeLaws.{holds-IsIn}
use Rattle.amr_problem.specs.Fields.{AreValues}
use Rattle.amr_problem.proofs.ProblemLaws.{has_limits}
use Rattle.amr_problem.proofs.problem.problem.Goals as goal
use Rattle.amr_problem.proofs.problem.problem.Goals.{After-small-13}

pub small-requires-clause-greatest : goal.small-requires-clause-greatest
small-requires-clause-greatest c = rw (to_z-of_z w64 c.args.entries.basics.version (search rules)) (omega (arith, ints, c.requires.clean.in_range.basics.greatest_version))

pub small-requires-4-clause-greatest : goal.small-requires-4-clause-greatest
small-requires-4-clause-greatest c = rw (to_z-of_z w64 c.args.entries.basics.steps (search rules)) (omega (arith, ints, c.requires.clean.in_range.basics.greatest_steps))

pub small-requires-5-clause-least : goal.small-requires-5-clause-least
small-requires-5-clause-least c = rw (to_z-of_z w64 c.args.entries.basics.d (search rules)) (omega (arith, ints, c.requires.clean.in_range.basics.least_d))

pub small-requires-5-clause-greatest : goal.small-requires-5-clause-greatest
small-requires-5-clause-greatest c = rw (to_z-of_z w64 c.args.entries.basics.d (search rules)) (omega (arith, ints, c.requires.clean.in_range.basics.greatest_d))

pub small-requires-6-clause-greatest : goal.small-requires-6-clause-greatest
small-requires-6-clause-greatest c = rw (to_z-of_z w64 c.args.entries.basics.max_level (search rules)) (omega (arith, ints, c.requires.clean.in_range.basics.greatest_max_level))

pub small-requires-7-clause-greatest : goal.small-requires-7-clause-greatest
small-requires-7-clause-greatest c = rw (to_z-of_z w64 c.args.entries.refining.n_error_buf (search rules)) (omega (arith, ints, c.requires.clean.in_range.refining.greatest_n_error_buf))

pub small-requires-8-clause-least : goal.small-requires-8-clause-least
small-requires-8-clause-least c = rw (to_z-of_z w64 c.args.entries.refining.efficiency (search rules)) (omega (arith, ints, c.requires.clean.in_range.refining.least_efficiency))

pub small-requires-8-clause-greatest : goal.small-requires-8-clause-greatest
small-requires-8-clause-greatest c = rw (to_z-of_z w64 c.args.entries.refining.efficiency (search rules)) (omega (arith, ints, c.requires.clean.in_range.refining.greatest_efficiency))

pub small-requires-9-clause-least : goal.small-requires-9-clause-least
small-requires-9-clause-least c = rw (to_z-of_z w64 c.args.entries.refining.min_width (search rules)) (omega (arith, ints, c.requires.clean.in_range.refining.least_min_width))

pub small-requires-9-clause-greatest : goal.small-requires-9-clause-greatest
small-requires-9-clause-greatest c = rw (to_z-of_z w64 c.args.entries.refining.min_width (search rules)) (omega (arith, ints, c.requires.clean.in_range.refining.greatest_min_width))

pub small-requires-10-clause-least : goal.small-requires-10-clause-least
small-requires-10-clause-least c = rw (to_z-of_z w64 c.args.entries.refining.regrid_int (search rules)) (omega (arith, ints, c.requires.clean.in_range.refining.least_regrid_int))

pub small-requires-10-clause-greatest : goal.small-requires-10-clause-greatest
small-requires-10-clause-greatest c = rw (to_z-of_z w64 c.args.entries.refining.regrid_int (search rules)) (omega (arith, ints, c.requires.clean.in_range.refining.greatest_regrid_int))

pub small-requires-12-clause-least : goal.small-requires-12-clause-least
small-requires-12-clause-least c = rw (to_z-of_z w64 c.args.entries.refining.max_grid_size (search rules)) (omega (arith, ints, c.requires.clean.in_range.refining.least_max_grid_size))

pub small-requires-12-clause-greatest : goal.small-requires-12-clause-greatest
small-requires-12-clause-greatest c = rw (to_z-of_z w64 c.args.entries.refining.max_grid_size (search rules)) (omega (arith, ints, c.requires.clean.in_range.refining.greatest_max_grid_size))

pub small-requires-11-clause-least : goal.small-requires-11-clause-least
small-requires-11-clause-least c =
    let b = c.args.entries.overlay.blocking in
    let within = holds-IsIn blocking_factor b c.requires.clean.in_range.overlay.blocking in
    let low : pos 2 ≤ℤ b = within.least in
    rw (to_z-of_z w64 b (search rules)) (omega (arith, ints))

pub small-requires-11-clause-greatest : goal.small-requires-11-clause-greatest
small-requires-11-clause-greatest c =
    let b = c.args.entries.overlay.blocking in
    let within = holds-IsIn blocking_factor b c.requires.clean.in_range.overlay.blocking in
    let high : b ≤ℤ pos 8 = within.greatest in
    rw (to_z-of_z w64 b (search rules)) (omega (arith, ints))

pub small-requires-13-clause-least : goal.small-requires-13-clause-least
small-requires-13-clause-least c = rw (to_z-of_z w64 c.args.entries.overlay.species (search rules)) (omega (arith, ints, c.requires.clean.in_range.overlay.least_species))

pub small-requires-13-clause-greatest : goal.small-requires-13-clause-greatest
small-requires-13-clause-greatest c = rw (to_z-of_z w64 c.args.entries.overlay.species (search rules)) (omega (arith, ints, c.requires.clean.in_range.overlay.greatest_species))

-- the fields are what the entries say
values : (c : After-small-13) → AreValues c.args.entries c.small.result c.make.result c.small-2.result c.small-3.result c.small-4.result c.signed.result c.signed-2.result c.small-5.result c.make-2.result c.make-3.result c.sides.result c.sides-2.result c.small-6.result c.make-4.result c.small-7.result c.small-8.result c.small-9.result c.small-10.result c.small-11.result c.small-12.result c.make-5.result c.small-13.result
values c =
    let b = c.args.entries.basics in
    let r = c.args.entries.refining in
    let o = c.args.entries.overlay in
    record {
      version_is = rw (to_z-of_z w64 b.version (search rules)) at c.small.ensures;
      name_is = sym c.make.ensures;
      nx_is = rw (to_z-of_z w64 b.nx (search rules)) at c.small-2.ensures;
      ny_is = rw (to_z-of_z w64 b.ny (search rules)) at c.small-3.ensures;
      steps_is = rw (to_z-of_z w64 b.steps (search rules)) at c.small-4.ensures;
      cx_is = sym (rw (to_z-of_z w64 b.cx (search rules)) at c.signed.ensures);
      cy_is = sym (rw (to_z-of_z w64 b.cy (search rules)) at c.signed-2.ensures);
      d_is = rw (to_z-of_z w64 b.d (search rules)) at c.small-5.ensures;
      x_sides_are = sym (rw (to_z-of_z w64 b.x_low (search rules), to_z-of_z w64 b.x_high (search rules)) at c.sides.ensures);
      y_sides_are = sym (rw (to_z-of_z w64 b.y_low (search rules), to_z-of_z w64 b.y_high (search rules)) at c.sides-2.ensures);
      max_level_is = rw (to_z-of_z w64 b.max_level (search rules)) at c.small-6.ensures;
      tag_is = sym (rw c.make-4.ensures (c.in_ok-tag.ensures ∙ c.as_slice.ensures.value));
      n_error_buf_is = rw (to_z-of_z w64 r.n_error_buf (search rules)) at c.small-7.ensures;
      efficiency_is = rw (to_z-of_z w64 r.efficiency (search rules)) at c.small-8.ensures;
      min_width_is = rw (to_z-of_z w64 r.min_width (search rules)) at c.small-9.ensures;
      regrid_int_is = rw (to_z-of_z w64 r.regrid_int (search rules)) at c.small-10.ensures;
      max_grid_size_is = rw (to_z-of_z w64 r.max_grid_size (search rules)) at c.small-12.ensures;
      blocks_are = sym (rw c.make-5.ensures (c.in_ok-blocks.ensures ∙ c.as_slice-2.ensures.value));
      shear_x_is = sym (c.make-2.ensures ∙ c.in_ok-shear_x.ensures ∙ c.as_slice-3.ensures.value);
      shear_y_is = sym (c.make-3.ensures ∙ c.in_ok-shear_y.ensures ∙ c.as_slice-4.ensures.value);
      blocking_is = rw (to_z-of_z w64 o.blocking (search rules)) at c.small-11.ensures;
      species_is = rw (to_z-of_z w64 o.species (search rules)) at c.small-13.ensures;
    }

pub invariant_of-result : goal.invariant_of-result
invariant_of-result c =
    rw (to_z-of_z w32 c.signed.result (search rules), to_z-of_z w32 c.signed-2.result (search rules)) (record { limits = has_limits c.args.entries c.requires.clean c.requires.fits (values c) })

pub returns : goal.returns
returns c = rw (to_z-of_z w32 c.signed.result (search rules), to_z-of_z w32 c.signed-2.result (search rules)) (values (goal.at.returns c).After-small-13)
