use Rattle.std.proofs.Common.{sym, ◌∙◌, arith}
use Rattle.amr_ranks.proofs.Found.{mass_found, mass_nowhere}
use Rattle.amr_ranks.proofs.parts.search.Goals as goal

pub returns-then-is_at : goal.returns-then-is_at
returns-then-is_at c = mass_found c.args.patch c.args.slot c.args.run.now c.loop-cell.cell-index c.loop-cell-test.true c.loop-cell.invariant (sym c.is_at.ensures ∙ c.if-is_at.true)

pub returns : goal.returns
returns c = mass_nowhere c.args.patch c.args.slot c.args.run.now (λ k lt. c.loop-cell.invariant k (let e = c.loop-cell-test.false in omega arith))
