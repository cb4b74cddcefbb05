use Rattle.amr_decoder.specs.Grids.{grid_of}
use Rattle.amr_decoder.proofs.Filling.{IsFilledTo}
use Rattle.amr_decoder.proofs.fill.fill_rows.Given as goal

-- the rows before j have their masses
abbrev pub invariant-loop-j : goal.invariant-loop-j
invariant-loop-j l = IsFilledTo (grid_of l.bytes l.grid) l.j l.initial.patches l.patches
