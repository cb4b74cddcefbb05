use Rattle.std.proofs.Common.{◌≡◌, true, List, refl, sym, ◌∙◌, subst}
use Rattle.amr_phase.specs.declared.plan.Task.{Task}
use Rattle.amr_phase.specs.Plans.{PlanOf, is_plan}
use Rattle.amr_phase.proofs.Plans.{plan_from_test}
use Rattle.amr_phase.proofs.plan.Plan.try_new.Goals as goal

pub returns : goal.returns
returns c =
    let asked : List Task → PlanOf = λ (l : List Task). record { places = c.args.places; words = c.args.words; tasks = l } in
    (refl, plan_from_test (asked c.args.tasks) (subst (λ (l : List Task). is_plan (asked l) ≡ true) c.as_slice.ensures (sym c.are_tasks_sound.ensures ∙ c.if-not-are_tasks_sound.false)))
