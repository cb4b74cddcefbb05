use Rattle.std.proofs.Common.{subst}
use Rattle.amr_phase.specs.Plans.{IsPlan}
use Rattle.amr_phase.proofs.Plans.{plan_from_test}
use Rattle.amr_phase.proofs.plan.Plan.tasks.Goals as goal

pub returns-clause-plan : goal.returns-clause-plan
returns-clause-plan c = subst IsPlan c.self.view_is (plan_from_test _ c.self.invariant)
