use Rattle.std.proofs.Common.{◌≡◌, ◌∙◌, ℕ, List, length, sym, ap, subst, arith}
use Rattle.amr_def.specs.Tags.{is_tagged}
use Rattle.amr_def.specs.NewBoxes.{new_boxes}
use Rattle.amr_def.specs.Regrid.{new_level_count, regridded_levels}
use Rattle.amr_witness.specs.declared.PlainLevel.{PlainLevel}
use Rattle.amr_witness.specs.Maps.{levels_of, state_of}
use Rattle.amr_witness.proofs.States.{count_same}
use Rattle.amr_regrid.specs.Outlines.{lists_in}
use Rattle.amr_witness_regrid.specs.Places.{AreInside}
use Rattle.amr_witness_regrid.specs.Wanted.{with_levels}
use Rattle.amr_witness_regrid.proofs.Regridded.{regrid_is, sound_inside}
use Rattle.amr_witness_regrid.proofs.regrid.slow_regrid.Goals as goal

pub new_level_count-count-requires : goal.new_level_count-count-requires
new_level_count-count-requires c =
    let n : length c.as_slice-levels.result.now ≡ length c.args.state.now.levels.items = ap (λ (ks : List PlainLevel). length ks) c.as_slice-levels.ensures.value in
    let e = count_same c.args.state.now.levels.items in
    omega (arith, n, e, c.requires.few_levels, c.args.p.now.limits.greatest_max_level)

pub new_boxes-requires-clause-known : goal.new_boxes-requires-clause-known
new_boxes-requires-clause-known c = omega (arith, c.new_level_count-count.ensures)

pub new_boxes-requires-clause-there : goal.new_boxes-requires-clause-there
new_boxes-requires-clause-there c = let e = count_same c.as_slice-levels.result.now in omega (arith, e, c.new_level_count-count.ensures)

pub new_boxes-requires-clause-inside : goal.new_boxes-requires-clause-inside
new_boxes-requires-clause-inside c = subst (λ (ks : List PlainLevel). AreInside c.args.p.now (levels_of ks)) (sym c.as_slice-levels.ensures.value) (sound_inside c.args.p.now (state_of c.args.state.now) c.requires)

pub new_boxes-requires-clause-offsets : goal.new_boxes-requires-clause-offsets
new_boxes-requires-clause-offsets c = c.in_ok-near.ensures

pub returns : goal.returns
returns c =
    let p = c.args.p.now in
    let s = state_of c.args.state.now in
    let slice = c.as_slice-levels.ensures.value in
    let boxes : lists_in c.as_slice.result.now ≡ new_boxes p (is_tagged p s) (new_level_count p s) 0 =
    ap lists_in c.as_slice.ensures.value ∙ c.in_ok-boxes.ensures.boxes ∙ ap (λ (n : ℕ). new_boxes p (is_tagged p (with_levels c.as_slice-levels.result.now)) n 0) c.new_level_count-count.ensures
    ∙ ap (λ (ks : List PlainLevel). new_boxes p (is_tagged p (with_levels ks)) (new_level_count p (with_levels ks)) 0) slice in
    regrid_is p s c.in_ok-rows.rows.items (levels_of c.in_ok-levels.levels.items) (c.in_ok-rows.ensures.items ∙ c.as_slice-2.ensures.value) (c.in_ok-levels.ensures ∙ (λ i. regridded_levels (levels_of (slice i)) (boxes i)))
