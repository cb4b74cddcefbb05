use Rattle.amr_def.specs.Domain.{domain}
use Rattle.amr_layout.proofs.Among.{inside_among}
use Rattle.amr_advance.specs.Steps.{whole_of}
use Rattle.amr_advance.proofs.InDomain.{all_lie}
use Rattle.amr_tests_steps.proofs.board.places_of.Goals as goal

pub plan-requires-clause-inside : goal.plan-requires-clause-inside
plan-requires-clause-inside c =
    let level = c.requires.step.level in
    all_lie c.args.given.problem.now c.args.given.level c.args.patches.now (inside_among (domain c.args.given.problem.now c.args.given.level) (whole_of c.args.given) c.args.patches.now level.worked_on level.inside)
