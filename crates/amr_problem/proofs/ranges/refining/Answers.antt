use Rattle.std.proofs.Common.{◌≡◌, [], ◌∷◌, option_map, w64, rules}
use Rattle.std.proofs.lemmas.Int.{to_z-of_z}
use Rattle.amr_problem.specs.declared.key.Key.TheVariants.{Tag, NErrorBuf, Efficiency, MinWidth, RegridInt, MaxGridSize}
use Rattle.amr_problem.specs.declared.fault.ProblemFault.TheVariants.{OutOfRange}
use Rattle.amr_problem.specs.Keys.{threshold, first_beyond}
use Rattle.amr_problem.specs.Entries.{numbers_outside, refining_outside}
use Rattle.amr_problem.proofs.ranges.refining.Goals as goal

pub returns : goal.returns
unfolding refining_outside
returns c =
    let r = c.args.refining.now in
    let tag : c.tag.result ≡ option_map (OutOfRange Tag) (first_beyond threshold r.tag.items) = rw (← c.as_slice.ensures.value) c.tag.ensures in
    let n_error_buf : c.numbers.result ≡ numbers_outside NErrorBuf (r.n_error_buf ∷ []) = rw (to_z-of_z w64 r.n_error_buf (search rules)) at c.numbers.ensures in
    let efficiency : c.numbers-2.result ≡ numbers_outside Efficiency (r.efficiency ∷ []) = rw (to_z-of_z w64 r.efficiency (search rules)) at c.numbers-2.ensures in
    let min_width : c.numbers-3.result ≡ numbers_outside MinWidth (r.min_width ∷ []) = rw (to_z-of_z w64 r.min_width (search rules)) at c.numbers-3.ensures in
    let regrid_int : c.numbers-4.result ≡ numbers_outside RegridInt (r.regrid_int ∷ []) = rw (to_z-of_z w64 r.regrid_int (search rules)) at c.numbers-4.ensures in
    let max_grid_size : c.numbers-5.result ≡ numbers_outside MaxGridSize (r.max_grid_size ∷ []) = rw (to_z-of_z w64 r.max_grid_size (search rules)) at c.numbers-5.ensures in
    rw (c.or-5.ensures, c.or-4.ensures, c.or-3.ensures, c.or-2.ensures, c.or.ensures, tag, n_error_buf, efficiency, min_width, regrid_int, max_grid_size)
