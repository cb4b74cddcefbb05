use Rattle.std.proofs.Common.{◌≡◌, ◌-◌, false}
use Rattle.std.specs.List.{All}
use Rattle.amr_def.specs.Facts.{IsSound}
use Rattle.amr_def.specs.Regrid.{regrid}
use Rattle.amr_def.specs.Run.{start, times}
use Rattle.amr_patch.specs.Meshes.{is_spent, levels_of, state_of}
use Rattle.amr_start.specs.PatchBoxes.{IsChopped}
use Rattle.amr_drive.proofs.starts.start.Given as goal

-- the regrids that are left make the start
abbrev pub invariant-loop-regrid : goal.invariant-loop-regrid
invariant-loop-regrid l = record {
  state : times (regrid l.p) (l.p.max_level - l._regrid) (state_of l.mesh) ≡ start l.p;
  sound : IsSound l.p (state_of l.mesh);
  patches : All (IsChopped l.p.max_grid_size) (levels_of l.mesh);
  whole : is_spent l.mesh ≡ false;
}
