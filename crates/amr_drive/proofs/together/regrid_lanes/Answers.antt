use Rattle.std.proofs.Common.{arith}
use Rattle.amr_drive.proofs.LaneLists.{some_meshes, stands_regridded}
use Rattle.amr_drive.proofs.together.regrid_lanes.Goals as goal

pub regrid_all_in_threads-requires-clause-some : goal.regrid_all_in_threads-requires-clause-some
regrid_all_in_threads-requires-clause-some g c κs within = some_meshes c.args.p.now c.args.workers c.args.step c.args.meshes.now c.args.lanes.now c.requires

pub regrid_all_in_threads-requires-clause-whole : goal.regrid_all_in_threads-requires-clause-whole
regrid_all_in_threads-requires-clause-whole g c κs within = c.requires.meshes.whole

pub regrid_all_in_threads-requires-clause-alike : goal.regrid_all_in_threads-requires-clause-alike
regrid_all_in_threads-requires-clause-alike g c κs within = c.requires.meshes.states.alike

pub returns-clause-stands : goal.returns-clause-stands
returns-clause-stands g c =
    let said = c.in_ok-regrid_all_in_threads.ensures in
    stands_regridded c.args.p.now c.args.workers c.args.step c.args.meshes.now c.args.lanes.now c.requires c.regrid_all_in_threads.new.meshes c.forget_all.new.lanes (omega arith) said.value
    said.whole (said.patches c.requires.meshes.patches) c.forget_all.ensures
