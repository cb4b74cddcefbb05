use Rattle.std.proofs.Common.{◌≡◌, ℕ, get_or, subst}
use Rattle.amr_phase.specs.declared.machine.Stage.{Stage}
use Rattle.amr_phase.specs.Machine.{CoreOf}
use Rattle.amr_phase.specs.Laws.{IsConsistent}
use Rattle.amr_phase.proofs.Steps.{take_keeps}
use Rattle.amr_phase.proofs.machine.Core.take.Goals as goal

pub invariant_of-self : goal.invariant_of-self
invariant_of-self c =
    let i = c.self.inside in
    let C : CoreOf = record { plan = i.plan; counter = i.counter; stages = i.stages.items; past = i.past.items; faces = i.faces.items; totals = i.totals.items } in
    let h : IsConsistent C = c.self.invariant.0 in
    let w : ℕ = c.args.worker in
    let now : CoreOf = c.args.self.now in
    (take_keeps C h w now c.self.view_is c.in-Some.task c.in-Some.ensures c.in-Drawn.by (subst (λ (x : Stage). x ≡ get_or C.stages c.in-Some.task x) c.in-Drawn.is c.index.ensures), c.self.invariant.1)
