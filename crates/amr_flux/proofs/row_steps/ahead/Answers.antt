use Rattle.std.proofs.Common.{◌≡◌, ◌≢◌, ℕ, ◌<◌, length, slice_index, get_or-set_same, get_or-set_other, below_more, add-one, ap, ◌∙◌, arith}
use Rattle.amr_flux.specs.Paces.{x_share, y_share}
use Rattle.amr_flux.proofs.Paces.{cell_made, fits_still, gone_within}
use Rattle.amr_flux.proofs.row_steps.ahead.Goals as goal

pub along-along-requires : goal.along-along-requires
along-along-requires c = fits_still c.args.pace _ _ (c.loop-k.invariant.left c.loop-k.k (omega arith)) (c.requires.fit.at c.loop-k.k (omega arith))

pub across-out-requires : goal.across-out-requires
across-out-requires c = fits_still c.args.pace _ _ (c.loop-k.invariant.left c.loop-k.k (omega arith)) (c.requires.fit.at c.loop-k.k (omega arith))

pub stepped-requires-clause-enough : goal.stepped-requires-clause-enough
stepped-requires-clause-enough c = rw (c.along-along.ensures.value, c.across-out.ensures.value) (gone_within c.args.pace _)

pub loop-k-preserved : goal.loop-k-preserved
loop-k-preserved c =
    let at : ℕ = c.loop-k.k in
    let old_mass : slice_index c.loop-k.row at ≡ slice_index c.args.row.now at = c.loop-k.invariant.left at (omega arith) in
    let old_across : slice_index c.loop-k.across at ≡ slice_index c.args.across.now at = c.loop-k.invariant.left_across at (omega arith) in
    let inside : at < length c.loop-k.row = omega arith in
    let inside_too : at < length c.loop-k.across = omega arith in
    record {
      gain = rw add-one (c.along-along.ensures.value ∙ ap (λ v. x_share c.args.pace v) old_mass);
      made = below_more _ _
          (λ k h. let ne : k ≢ at = omega arith in rw (get_or-set_other c.loop-k.row at k c.stepped.result 0 ne) (c.loop-k.invariant.made k h))
          (rw (get_or-set_same c.loop-k.row at c.stepped.result 0 inside)
          (cell_made c.args.pace _ _ _ _ _ _ _ _ _ old_mass c.along-along.ensures.value c.across-out.ensures.value c.loop-k.invariant.gain old_across c.stepped.ensures));
      passed = below_more _ _
          (λ k h. let ne : k ≢ at = omega arith in rw (get_or-set_other c.loop-k.across at k c.across-out.result 0 ne) (c.loop-k.invariant.passed k h))
          (rw (get_or-set_same c.loop-k.across at c.across-out.result 0 inside_too) (c.across-out.ensures.value ∙ ap (λ v. y_share c.args.pace v) old_mass));
      left = λ k h. let ne : k ≢ at = omega arith in get_or-set_other c.loop-k.row at k c.stepped.result 0 ne ∙ c.loop-k.invariant.left k (omega arith);
      left_across = λ k h. let ne : k ≢ at = omega arith in get_or-set_other c.loop-k.across at k c.across-out.result 0 ne ∙ c.loop-k.invariant.left_across k (omega arith);
    }
