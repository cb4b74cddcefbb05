use Rattle.amr_start.specs.Rows.{masses_on}
use Rattle.amr_start.proofs.Placing.{HasAllTo}
use Rattle.amr_start.proofs.placed.place_all.Given as goal

-- the patches before patch i have their masses
abbrev pub invariant-loop-i : goal.invariant-loop-i
invariant-loop-i l = HasAllTo (masses_on l.columns l.rows l.masses) l.initial.patches l.patches l.i
