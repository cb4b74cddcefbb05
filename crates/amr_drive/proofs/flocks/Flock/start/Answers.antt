use Rattle.std.proofs.Common.{◌∙◌, ap, arith, map, subst, sym}
use Rattle.amr_patch.specs.Meshes.{state_of}
use Rattle.amr_drive.specs.Flocks.{AreMeshesOf, meshes_of}
use Rattle.amr_drive.proofs.FlockStarts.{all_started, lent_flock, lent_states}
use Rattle.amr_drive.proofs.flocks.Flock.start.Goals as goal

pub regrid_for_start-requires : goal.regrid_for_start-requires
unfolding meshes_of
regrid_for_start-requires c = subst (AreMeshesOf c.args.p.now) (sym c.as_mut_slice.ensures.value) c.in_ok-flock.ensures.flock.meshes

pub returns-clause-value : goal.returns-clause-value
unfolding meshes_of
returns-clause-value c =
    let p = c.args.p.now in
    let first = c.as_mut_slice.result.now in
    let ns = c.regrid_for_start.new.meshes in
    lent_states p c.in_ok-flock.flock first ns c.as_mut_slice.ensures.value (omega arith)
    ∙ all_started p (map state_of first) (map state_of ns) (ap (map state_of) c.as_mut_slice.ensures.value ∙ c.in_ok-flock.ensures.value) c.in_ok-regrid_for_start.ensures.value

pub returns-clause-flock : goal.returns-clause-flock
returns-clause-flock c =
    lent_flock c.args.p.now c.in_ok-flock.flock c.as_mut_slice.result.now c.regrid_for_start.new.meshes c.as_mut_slice.ensures.value (omega arith) c.in_ok-flock.ensures.flock
    c.in_ok-regrid_for_start.ensures.meshes
