use Rattle.amr_phase.proofs.Layouts.{layout_is_plan, put_is_planned}
use Rattle.amr_phase.proofs.laws.layouts_and_plans.Goals as goal

pub returns-clause-layout : goal.returns-clause-layout
returns-clause-layout c = layout_is_plan

pub returns-clause-put : goal.returns-clause-put
returns-clause-put c = λ plan task put ok lt. put_is_planned plan ok task put lt
