use Rattle.amr_box.specs.Cells.{holds}
use Rattle.amr_def.specs.Regrid.{split_mass}
use Rattle.amr_patch.specs.Levels.{level_of}
use Rattle.amr_transfer.specs.Given.{IsGiven, rows_to}
use Rattle.amr_transfer.proofs.new_masses.split_patch.Given as goal

-- the first rows have their shares
abbrev pub invariant-loop-k : goal.invariant-loop-k
invariant-loop-k l = IsGiven (holds (rows_to l.b l.k)) (split_mass (level_of l.coarse).masses) l.initial.patch l.patch
