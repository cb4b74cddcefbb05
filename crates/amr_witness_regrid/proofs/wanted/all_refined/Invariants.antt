use Rattle.std.proofs.Common.{◌≡◌, map, take}
use Rattle.std.specs.List.{All}
use Rattle.amr_box.specs.Cells.{IsNear}
use Rattle.amr_def.specs.Domain.{refined}
use Rattle.amr_witness_regrid.proofs.wanted.all_refined.Given as goal

abbrev pub invariant-loop-b : goal.invariant-loop-b
invariant-loop-b l = (l.all.items ≡ map (refined l.n) (take l.b-index l.boxes)) × All IsNear l.all.items
