use Rattle.std.proofs.Common.{arith}
use Rattle.std.proofs.lemmas.List.Edits.{fill_by_more}
use Rattle.amr_ghost.proofs.entries.fill_all.Goals as goal

pub loop-k-init : goal.loop-k-init
loop-k-init g c = λ j absent lt. absurd (omega arith)

pub loop-k-preserved : goal.loop-k-preserved
loop-k-preserved g c j absent = fill_by_more (λ k. c.args.value) c.loop-k.values c.loop-k.k absent (omega (arith, c.loop-k.auto.values, c.loop-k-test.true)) (λ i lt. c.loop-k.invariant i absent lt) j

pub returns-clause-filled : goal.returns-clause-filled
returns-clause-filled g c k absent lt = c.loop-k.invariant k absent (omega (arith, lt, c.loop-k-test.false))
