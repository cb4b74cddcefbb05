use Rattle.std.proofs.Common.{rules, ◌≡◌, ℕ, Bool, false, List, length, replicate, None, sym, ap, ◌∙◌, subst, arith}
use Rattle.std.specs.Prelude.{Option}
use Rattle.std.proofs.Math.ListN.{length-replicate}
use Rattle.amr_phase.specs.declared.plan.Task.{Task}
use Rattle.amr_phase.specs.declared.machine.Stage.{Stage}
use Rattle.amr_phase.specs.declared.machine.Stage.TheVariants.{Waiting}
use Rattle.amr_phase.specs.Plans.{PlanOf}
use Rattle.amr_phase.specs.Laws.{IsConsistent}
use Rattle.amr_phase.proofs.Consistent.{keeps_fresh}
use Rattle.amr_phase.proofs.machine.Core.make.Goals as goal

pub invariant_of-result : goal.invariant_of-result
invariant_of-result c =
    let q : PlanOf = c.args.plan in
    let w : ℕ = c.args.workers in
    let count : c.tasks.result.now ≡ q.tasks = c.tasks.ensures.tasks in
    let stages : c.in_ok-stages.stages.items ≡ replicate (length q.tasks) Waiting = c.in_ok-stages.ensures.items_if_clones_equal (λ y e. e) ∙ ap (λ (l : List Task). replicate (length l) Waiting) count in
    let past : c.in_ok-past.past.items ≡ replicate w false = c.in_ok-past.ensures.items_if_clones_equal (λ y e. e) in
    let faces : c.in_ok-faces.faces.items ≡ replicate q.places None = c.in_ok-faces.ensures.items_if_clones_equal (search rules) ∙ ap (λ (n : ℕ). replicate n None) c.places.ensures in
    let totals : c.in_ok-totals.totals.items ≡ replicate q.words 0 = c.in_ok-totals.ensures.items_if_clones_equal (λ y e. e) ∙ ap (λ (n : ℕ). replicate n 0) c.words.ensures in (
      subst (λ (l : List Stage). IsConsistent (record { plan = q; counter = 0; stages = l; past = c.in_ok-past.past.items; faces = c.in_ok-faces.faces.items; totals = c.in_ok-totals.totals.items })) (sym stages)
          (subst (λ (l : List Bool). IsConsistent (record { plan = q; counter = 0; stages = replicate (length q.tasks) Waiting; past = l; faces = c.in_ok-faces.faces.items; totals = c.in_ok-totals.totals.items })) (sym past)
          (subst (λ (l : List (Option ℕ)). IsConsistent (record { plan = q; counter = 0; stages = replicate (length q.tasks) Waiting; past = replicate w false; faces = l; totals = c.in_ok-totals.totals.items })) (sym faces)
          (subst (λ (l : List ℕ). IsConsistent (record { plan = q; counter = 0; stages = replicate (length q.tasks) Waiting; past = replicate w false; faces = replicate q.places None; totals = l })) (sym totals)
          (keeps_fresh q w c.tasks.ensures.plan)))),
      (let k = c.ranges.workers.fits in let n = ap length past in let m = length-replicate w false in omega arith),
    )
