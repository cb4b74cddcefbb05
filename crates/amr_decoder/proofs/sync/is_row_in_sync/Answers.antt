use Rattle.std.proofs.Common.{refl, arith}
use Rattle.std.proofs.lemmas.Int.{ints}
use Rattle.amr_decoder.specs.Synced.{IsSumAt}
use Rattle.amr_codec.proofs.KeptRows.{more_columns}
use Rattle.amr_decoder.proofs.sync.is_row_in_sync.Goals as goal

pub sums_from-requires-clause-column : goal.sums_from-requires-clause-column
sums_from-requires-clause-column c = omega (arith, ints, c.width-columns.ensures.corners, c.loop-first-test.true)

pub loop-first-preserved : goal.loop-first-preserved
loop-first-preserved c =
    let l = c.loop-first in
    record {
      sums = more_columns (IsSumAt c.args.coarse.now c.args.fine.now c.args.parents.now c.args.row) l.first c.in-Some.count l.invariant.sums c.in-Some.ensures.sums;
      within = c.in-Some.ensures.within;
    }

pub returns : goal.returns
returns c =
    let l = c.loop-first in
    (λ h i lt. l.invariant.sums i (omega (arith, lt, c.loop-first-test.false, c.width-columns.ensures.value)), λ all. refl)
