use Rattle.std.proofs.Common.{arith}
use Rattle.amr_layout.proofs.Counts.{faces_few}
use Rattle.amr_layout.proofs.Planned.{planned}
use Rattle.amr_layout.specs.Arounds.{around_of}
use Rattle.amr_layout.proofs.layouts.plan.Goals as goal

pub place_borders-requires-clause-few : goal.place_borders-requires-clause-few
place_borders-requires-clause-few c = omega (arith, faces_few c.args.surroundings.problem.now c.args.surroundings.level c.args.surroundings.patches.now c.requires.level c.requires.apart c.requires.inside)

pub returns-clause-plan : goal.returns-clause-plan
returns-clause-plan c = λ size small. planned (around_of c.args.surroundings) c.args.each c.requires.apart c.requires.cells (omega (arith, faces_few c.args.surroundings.problem.now c.args.surroundings.level c.args.surroundings.patches.now c.requires.level c.requires.apart c.requires.inside)) size small

pub place_borders-requires-clause-look_up : goal.place_borders-requires-clause-look_up
place_borders-requires-clause-look_up c = record { order_of = c.requires.order; apart = c.requires.apart; has_starts = c.requires.starts }
