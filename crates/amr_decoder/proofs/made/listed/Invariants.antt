use Rattle.std.proofs.Common.{◌≡◌, take}
use Rattle.amr_decoder.specs.Grids.{boxes_of}
use Rattle.amr_decoder.proofs.made.listed.Given as goal

-- the boxes so far are listed
abbrev pub invariant-loop-grid : goal.invariant-loop-grid
invariant-loop-grid l = l.list ≡ boxes_of (take l.grid-index l.grids)
