use Rattle.std.proofs.Common.{length}
use Rattle.amr_regrid.proofs.masses.+refill.Given as goal

abbrev pub decreases-refill : goal.decreases-refill
decreases-refill g l = length l.boxes.now
