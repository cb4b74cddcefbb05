use Rattle.std.proofs.Common.{◌≡◌, map, take}
use Rattle.amr_def.specs.Domain.{refined}
use Rattle.amr_regrid.proofs.blocks.all_refined.Given as goal

abbrev pub invariant-loop-b : goal.invariant-loop-b
invariant-loop-b l = l.all.items ≡ map (refined l.blocking) (take l.b-index l.boxes)
