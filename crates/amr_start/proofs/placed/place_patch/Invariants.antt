use Rattle.amr_start.specs.Rows.{masses_on}
use Rattle.amr_start.proofs.Placing.{HasRowsTo}
use Rattle.amr_start.proofs.placed.place_patch.Given as goal

-- the rows before row k have their masses
abbrev pub invariant-loop-k : goal.invariant-loop-k
invariant-loop-k l = HasRowsTo (masses_on l.columns l.rows l.masses) l.initial.patch l.patch l.k
