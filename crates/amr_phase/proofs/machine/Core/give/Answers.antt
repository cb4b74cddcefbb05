use Rattle.std.proofs.Common.{◌∙◌, ap}
use Rattle.amr_phase.specs.declared.plan.Task.{Task}
use Rattle.amr_phase.proofs.Steps.{give_keeps}
use Rattle.amr_phase.proofs.machine.Core.give.Goals as goal

pub invariant_of-self : goal.invariant_of-self
invariant_of-self c =
    (give_keeps _ c.self.invariant.0 c.args.worker c.args.self.now c.self.view_is c.in-Some.held c.in-Some.ensures.hold c.tasks.result.now c.tasks.ensures.tasks c.index-tasks-held.result c.as_slice-puts.result.now c.as_slice-adds.result.now c.index-tasks-held.result (c.as_slice-puts.ensures ∙ ap (λ (t : Task). t.puts) c.index-tasks-held.is) (c.as_slice-adds.ensures ∙ ap (λ (t : Task). t.adds) c.index-tasks-held.is) c.if-held-puts.false c.if-held-adds.false, c.self.invariant.1)
