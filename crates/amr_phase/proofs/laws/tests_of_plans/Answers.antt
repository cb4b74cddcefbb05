use Rattle.amr_phase.proofs.Plans.{plan_from_test, test_from_plan}
use Rattle.amr_phase.proofs.laws.tests_of_plans.Goals as goal

pub returns : goal.returns
returns c = λ plan. (plan_from_test plan, test_from_plan plan)
