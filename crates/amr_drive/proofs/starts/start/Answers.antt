use Rattle.std.proofs.Common.{arith}
use Rattle.amr_patch.specs.Meshes.{state_of}
use Rattle.amr_drive.proofs.Kept.{coarsenable}
use Rattle.amr_drive.proofs.StartLaws.{base-chopped, start-begun, start-onward}
use Rattle.amr_drive.proofs.starts.start.Goals as goal

pub loop-regrid-init : goal.loop-regrid-init
loop-regrid-init c = record {
  state = start-begun c.args.p.now (state_of c.in_ok-mesh.mesh) c.in_ok-mesh.ensures.value;
  sound = c.in_ok-mesh.ensures.sound;
  patches = base-chopped c.args.p.now c.in_ok-mesh.mesh c.in_ok-mesh.ensures.value c.in_ok-mesh.ensures.patches;
  whole = c.in_ok-mesh.ensures.whole;
}

pub loop-regrid-preserved : goal.loop-regrid-preserved
loop-regrid-preserved c = record {
  state = start-onward c.args.p.now c.loop-regrid._regrid (state_of c.loop-regrid.mesh) (state_of c.regrid.new.mesh) (omega arith) c.in_ok-regrid.ensures.value c.loop-regrid.invariant.state;
  sound = c.in_ok-regrid.ensures.sound;
  patches = c.in_ok-regrid.ensures.patches c.loop-regrid.invariant.patches;
  whole = c.in_ok-regrid.ensures.whole;
}

pub returns-clause-coarsenable : goal.returns-clause-coarsenable
returns-clause-coarsenable c = coarsenable c.args.p.now c.loop-regrid.mesh c.loop-regrid.invariant.sound c.loop-regrid.invariant.patches
