use Rattle.amr_patch.specs.Meshes.{levels_of, state_of}
use Rattle.amr_drive.proofs.Kept.{chopped_stays, coarsenable_stays}
use Rattle.amr_drive.proofs.Regridded.{coarsenable_after_regrid}
use Rattle.amr_drive.proofs.nexts.regrid_if_due.Goals as goal

pub returns-in_ok-regrid_in_threads-clause-coarsenable : goal.returns-in_ok-regrid_in_threads-clause-coarsenable
returns-in_ok-regrid_in_threads-clause-coarsenable g c = coarsenable_after_regrid c.args.p.now c.args.mesh.now c.regrid_in_threads.new.mesh c.requires.coarsenable c.in_ok-regrid_in_threads.ensures.sound c.in_ok-regrid_in_threads.ensures.chopped_or_kept

pub returns-in_ok-regrid_in_threads-clause-kept : goal.returns-in_ok-regrid_in_threads-clause-kept
returns-in_ok-regrid_in_threads-clause-kept g c = c.forget_masses.ensures c.args.p.now (state_of c.args.mesh.now).levels (state_of c.regrid_in_threads.new.mesh).levels c.requires.kept

pub returns-in_err-regrid_in_threads-clause-patches : goal.returns-in_err-regrid_in_threads-clause-patches
returns-in_err-regrid_in_threads-clause-patches g c = chopped_stays c.args.p.now.max_grid_size (levels_of c.regrid_in_threads.new.mesh) (levels_of c.args.mesh.now) c.in_err-regrid_in_threads.ensures.refused_patches

pub returns-in_err-regrid_in_threads-clause-coarsenable : goal.returns-in_err-regrid_in_threads-clause-coarsenable
returns-in_err-regrid_in_threads-clause-coarsenable g c = coarsenable_stays (levels_of c.regrid_in_threads.new.mesh) (levels_of c.args.mesh.now) c.in_err-regrid_in_threads.ensures.refused_patches c.requires.coarsenable
