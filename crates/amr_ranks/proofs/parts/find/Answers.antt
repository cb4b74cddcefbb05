use Rattle.std.proofs.Common.{sym, ◌∙◌, arith}
use Rattle.amr_ranks.proofs.Found.{found_low, found_none}
use Rattle.amr_ranks.proofs.parts.find.Goals as goal
use Rattle.amr_ranks.proofs.parts.find.Goals.{else-low-run-via-then-low-run+else-is_at, else-low-run-via-else-low-run}

pub returns-then-is_at : goal.returns-then-is_at
returns-then-is_at c =
    found_low c.args.patch c.args.slot c.args.run.now c.loop-low.low (λ k lt. (let e = c.place-place.ensures in let b = c.loop-low.invariant.below k lt in omega arith)) c.if-low-run.true
    (sym c.is_at.ensures ∙ c.if-is_at.true)

pub returns : goal.returns
returns c =
    let none = found_none c.args.patch c.args.slot c.args.run.now c.loop-low.low (λ k lt. (let e = c.place-place.ensures in let b = c.loop-low.invariant.below k lt in omega arith)) (c.requires c.if-not-rises.false)
    (λ k le lt. (let e = c.place-place.ensures in let t = c.loop-low-test.false in let a = c.loop-low.invariant.above k (omega arith) lt in omega arith)) in
    elim c.else-low-run.branch [
      | else-low-run-via-then-low-run+else-is_at w ↦ none (λ _. sym w.is_at.ensures ∙ w.if-is_at.false)
      | else-low-run-via-else-low-run w ↦ none (λ lt. absurd (let f = w.if-low-run.false in omega arith))
    ]
