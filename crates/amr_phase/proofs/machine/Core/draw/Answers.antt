use Rattle.std.proofs.Common.{◌≡◌, ℕ, Bool, true, false, get_or, sym, ◌∙◌, subst, arith}
use Rattle.amr_phase.specs.Machine.{CoreOf}
use Rattle.amr_phase.specs.Laws.{IsConsistent}
use Rattle.std.proofs.Math.ListN.{length-set}
use Rattle.amr_phase.proofs.Steps.{free}
use Rattle.amr_phase.proofs.Consistent.{keeps_drawn, keeps_past, ones_le}
use Rattle.amr_phase.proofs.Finding.{any_default}
use Rattle.amr_phase.proofs.machine.Core.draw.Goals as goal

pub invariant_of-self : goal.invariant_of-self
invariant_of-self c =
    let i = c.self.inside in
    let C : CoreOf = record { plan = i.plan; counter = i.counter; stages = i.stages.items; past = i.past.items; faces = i.faces.items; totals = i.totals.items } in
    let h : IsConsistent C = c.self.invariant.0 in
    let w : ℕ = c.args.worker in
    let now : CoreOf = c.args.self.now in
    let none = free C h w now c.self.view_is c.task_of.result c.task_of.ensures (sym c.is_some.ensures ∙ c.if-is_some.false) in
    let here : get_or C.past w true ≡ false = any_default C.past w false true (omega arith) (subst (λ (b : Bool). b ≡ get_or C.past w b) c.if-index.false c.index.ensures) in
    (keeps_drawn C h w (omega arith) none here (let k = c.if-self-len.true in omega arith), c.self.invariant.1)

pub overflow_add-self-2 : goal.overflow_add-self-2
overflow_add-self-2 c =
    let i = c.self.inside in
    let C : CoreOf = record { plan = i.plan; counter = i.counter; stages = i.stages.items; past = i.past.items; faces = i.faces.items; totals = i.totals.items } in
    let h : IsConsistent C = c.self.invariant.0 in
    let w : ℕ = c.args.worker in
    let now : CoreOf = c.args.self.now in
    let o = ones_le C.past in let f = h.counter_fits in let s = i.stages.small in omega arith

pub invariant_of-self-2 : goal.invariant_of-self-2
invariant_of-self-2 c =
    let i = c.self.inside in
    let C : CoreOf = record { plan = i.plan; counter = i.counter; stages = i.stages.items; past = i.past.items; faces = i.faces.items; totals = i.totals.items } in
    let h : IsConsistent C = c.self.invariant.0 in
    let w : ℕ = c.args.worker in
    let now : CoreOf = c.args.self.now in
    let none = free C h w now c.self.view_is c.task_of.result c.task_of.ensures (sym c.is_some.ensures ∙ c.if-is_some.false) in
    let here : get_or C.past w true ≡ false = any_default C.past w false true (omega arith) (subst (λ (b : Bool). b ≡ get_or C.past w b) c.if-index.false c.index.ensures) in
    (keeps_past C h w (omega arith) none here (let k = c.if-self-len.false in omega arith), (let k = c.self.invariant.1 in let n = length-set C.past w true in omega arith))
