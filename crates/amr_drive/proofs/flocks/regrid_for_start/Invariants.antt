use Rattle.std.proofs.Common.{◌≡◌, ◌-◌, map}
use Rattle.amr_def.specs.Run.{times}
use Rattle.amr_def.specs.Species.{regrid_all}
use Rattle.amr_patch.specs.Meshes.{state_of}
use Rattle.amr_drive.specs.Flocks.{AreMeshesOf}
use Rattle.amr_drive.proofs.flocks.regrid_for_start.Given as goal

-- the regrids that are left make the same
abbrev pub invariant-loop-regrid : goal.invariant-loop-regrid
invariant-loop-regrid l = record {
  states : times (regrid_all l.p) l.p.max_level (map state_of l.fn.meshes) ≡ times (regrid_all l.p) (l.p.max_level - l._regrid) (map state_of l.meshes);
  meshes : AreMeshesOf l.p l.meshes;
}
