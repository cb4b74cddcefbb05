use Rattle.std.proofs.Common.{◌≡◌, ◌∙◌, arith, below_more}
use Rattle.std.specs.Prelude.{slice_index, slice_set}
use Rattle.std.proofs.lemmas.List.{get_or-set_other, get_or-set_same}
use Rattle.amr_ghost.specs.Strips.{nth_place}
use Rattle.amr_ghost.proofs.entries.take_entries.Goals as goal

pub loop-k-init : goal.loop-k-init
loop-k-init c = λ j lt. absurd (omega arith)

pub loop-k-preserved : goal.loop-k-preserved
loop-k-preserved c =
    let k = c.loop-k.k in
    let ms = c.loop-k.masses in
    let v = slice_index c.args.values.now (nth_place c.args.source k) in
    below_more (λ j. slice_index (slice_set ms k v) j ≡ slice_index c.args.values.now (nth_place c.args.source j)) k
    (λ j lt. get_or-set_other ms k j v 0 (λ e. omega (arith, lt, e)) ∙ c.loop-k.invariant j lt)
    (get_or-set_same ms k v 0 (omega (arith, c.loop-k.auto.masses, c.loop-k-test.true)))

pub returns-clause-taken : goal.returns-clause-taken
returns-clause-taken c k lt = c.loop-k.invariant k (omega (arith, lt, c.loop-k-test.false))
