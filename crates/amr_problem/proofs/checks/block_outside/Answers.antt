use Rattle.std.proofs.Common.{ap, option_map, w64}
use Rattle.std.proofs.lemmas.Int.{to_z-of_z}
use Rattle.amr_problem.specs.declared.fault.ProblemFault.TheVariants.{BlockOutside}
use Rattle.amr_problem.proofs.checks.block_outside.Goals as goal

pub returns-in-Some : goal.returns-in-Some
returns-in-Some c = ap (option_map BlockOutside) (rw (to_z-of_z w64 c.args.nx c.ranges.nx, to_z-of_z w64 c.args.ny c.ranges.ny) at c.in-Some.ensures)

pub returns-in-None : goal.returns-in-None
returns-in-None c = ap (option_map BlockOutside) (rw (to_z-of_z w64 c.args.nx c.ranges.nx, to_z-of_z w64 c.args.ny c.ranges.ny) at c.in-None.ensures)
