use Rattle.std.proofs.Common.{take, map}
use Rattle.amr_decoder.specs.Filled.{AreGridsSet}
use Rattle.amr_decoder.specs.Grids.{grid_of}
use Rattle.amr_decoder.proofs.fill.fill_boxes.Given as goal

-- the cells of the boxes so far have their masses
abbrev pub invariant-loop-grid : goal.invariant-loop-grid
invariant-loop-grid l = AreGridsSet (map (grid_of l.bytes) (take l.grid-index l.grids)) l.initial.patches l.patches
