use Rattle.std.proofs.Common.{◌+◌, ◌/◌, arith}
use Rattle.std.specs.Prelude.{slice_index}
use Rattle.std.proofs.lemmas.List.Edits.{fill_by_more}
use Rattle.amr_ghost.proofs.entries.quarter_all.Goals as goal

pub loop-k-init : goal.loop-k-init
loop-k-init c = λ j lt. absurd (omega arith)

pub loop-k-preserved : goal.loop-k-preserved
loop-k-preserved c = fill_by_more (λ j. slice_index c.args.masses.now ((c.args.skipped + j) / 2) / 4) c.loop-k.values c.loop-k.k 0 (omega (arith, c.loop-k.auto.values, c.loop-k-test.true)) c.loop-k.invariant

pub returns-clause-quarters : goal.returns-clause-quarters
returns-clause-quarters c k lt = c.loop-k.invariant k (omega (arith, lt, c.loop-k-test.false))
