use Rattle.std.proofs.Common.{arith}
use Rattle.std.proofs.lemmas.Int.{ints}
use Rattle.amr_witness_regrid.proofs.CellRows.{times_is, times_low, times_high}
use Rattle.amr_witness_regrid.proofs.cells.times.Goals as goal

pub returns-clause-value : goal.returns-clause-value
returns-clause-value c = times_is c.args.n c.args.z _ (omega (arith, ints, c.requires.low, c.requires.high)) c.requires.few c.requires.high

pub returns-clause-low : goal.returns-clause-low
returns-clause-low c = times_low c.args.n c.args.z _ (omega (arith, ints, c.requires.low, c.requires.high)) c.requires.few c.requires.high

pub returns-clause-high : goal.returns-clause-high
returns-clause-high c = times_high c.args.n c.args.z _ (omega (arith, ints, c.requires.low, c.requires.high)) c.requires.few c.requires.high
