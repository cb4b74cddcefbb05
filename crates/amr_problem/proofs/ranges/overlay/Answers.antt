use Rattle.std.proofs.Common.{◌≡◌, [], ◌∷◌, option_map, w64, rules}
use Rattle.std.proofs.lemmas.Int.{to_z-of_z}
use Rattle.amr_problem.specs.declared.key.Key.TheVariants.{Blocks, ShearX, ShearY, Blocking, Species}
use Rattle.amr_problem.specs.declared.fault.ProblemFault.TheVariants.{OutOfRange}
use Rattle.amr_problem.specs.Keys.{ranges_of, courant_number, first_beyond}
use Rattle.amr_problem.specs.Faults.{rows_outside}
use Rattle.amr_problem.specs.Entries.{numbers_outside, overlay_outside}
use Rattle.amr_problem.proofs.ranges.overlay.Goals as goal

pub returns : goal.returns
unfolding overlay_outside
returns c =
    let o = c.args.overlay.now in
    let blocks : c.blocks-2.result ≡ option_map (OutOfRange Blocks) (rows_outside 256 (ranges_of Blocks) o.blocks.items) = rw (← c.as_slice.ensures.value) c.blocks-2.ensures in
    let shear_x : c.shear.result ≡ option_map (OutOfRange ShearX) (first_beyond courant_number o.shear_x.items) = rw (← c.as_slice-2.ensures.value) c.shear.ensures in
    let shear_y : c.shear-2.result ≡ option_map (OutOfRange ShearY) (first_beyond courant_number o.shear_y.items) = rw (← c.as_slice-3.ensures.value) c.shear-2.ensures in
    let blocking : c.numbers.result ≡ numbers_outside Blocking (o.blocking ∷ []) = rw (to_z-of_z w64 o.blocking (search rules)) at c.numbers.ensures in
    let species : c.numbers-2.result ≡ numbers_outside Species (o.species ∷ []) = rw (to_z-of_z w64 o.species (search rules)) at c.numbers-2.ensures in
    rw (c.or-4.ensures, c.or-3.ensures, c.or-2.ensures, c.or.ensures, blocks, shear_x, shear_y, blocking, species)
