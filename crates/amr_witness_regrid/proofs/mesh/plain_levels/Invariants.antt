use Rattle.std.proofs.Common.{◌≡◌, map, take}
use Rattle.amr_patch.specs.Levels.{level_of}
use Rattle.amr_witness.specs.Maps.{levels_of}
use Rattle.amr_witness_regrid.proofs.mesh.plain_levels.Given as goal

abbrev pub invariant-loop-level : goal.invariant-loop-level
invariant-loop-level l = levels_of l.all.items ≡ map level_of (take l.level-index l.levels)
