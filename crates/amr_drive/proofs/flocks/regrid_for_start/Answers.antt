use Rattle.std.proofs.Common.{map, arith}
use Rattle.amr_patch.specs.Meshes.{state_of}
use Rattle.amr_drive.proofs.FlockStarts.{all_begun, all_ended, all_onward, regridded_meshes}
use Rattle.amr_drive.proofs.LaneLists.{some_of}
use Rattle.amr_drive.proofs.flocks.regrid_for_start.Goals as goal

pub loop-regrid-init : goal.loop-regrid-init
loop-regrid-init c = record { states = all_begun c.args.p.now (map state_of c.args.meshes.now); meshes = c.requires }

pub regrid_all-requires-clause-some : goal.regrid_all-requires-clause-some
regrid_all-requires-clause-some c = some_of c.args.p.now c.loop-regrid.meshes c.loop-regrid.invariant.meshes

pub regrid_all-requires-clause-whole : goal.regrid_all-requires-clause-whole
regrid_all-requires-clause-whole c = c.loop-regrid.invariant.meshes.whole

pub regrid_all-requires-clause-alike : goal.regrid_all-requires-clause-alike
regrid_all-requires-clause-alike c = c.loop-regrid.invariant.meshes.states.alike

pub loop-regrid-preserved : goal.loop-regrid-preserved
loop-regrid-preserved c =
    let said = c.in_ok-regrid_all.ensures in
    let inv = c.loop-regrid.invariant in
    record {
      states = all_onward c.args.p.now c.loop-regrid._regrid (map state_of c.args.meshes.now) (map state_of c.loop-regrid.meshes) (map state_of c.regrid_all.new.meshes) (omega arith) said.value inv.states;
      meshes = regridded_meshes c.args.p.now c.loop-regrid.meshes c.regrid_all.new.meshes inv.meshes said.value said.whole (said.patches inv.meshes.patches);
    }

pub returns-clause-value : goal.returns-clause-value
returns-clause-value c = all_ended c.args.p.now c.loop-regrid._regrid (map state_of c.args.meshes.now) (map state_of c.loop-regrid.meshes) (omega arith) c.loop-regrid.invariant.states

pub returns-clause-meshes : goal.returns-clause-meshes
returns-clause-meshes c = c.loop-regrid.invariant.meshes
