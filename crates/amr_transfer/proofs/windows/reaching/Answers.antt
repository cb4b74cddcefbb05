use Rattle.std.proofs.Common.{◌-◌, arith}
use Rattle.std.proofs.lemmas.Int.{ints}
use Rattle.std.specs.Prelude.{slice_index_or}
use Rattle.amr_patch.proofs.Rows.{inside}
use Rattle.amr_transfer.proofs.Bands.{apart_between, masses_between, too_high, too_low}
use Rattle.amr_transfer.proofs.windows.reaching.Goals as goal

pub returns-clause-masses : goal.returns-clause-masses
returns-clause-masses c d h =
    let ps = c.args.patches.now in
    let from = c.reach_of-from.result.0 in
    let to = c.reach_of-from.result.1 in
    let at = inside c.args.b.now d h in
    masses_between ps from to (to - from) d (omega (arith, c.reach_of-from.ensures.range))
    (λ i e lt l. too_low (slice_index_or ps i e) d _ (c.reach_of-from.ensures.below i e lt) (omega (arith, ints, c.lo.ensures.y, at.south)))
    (λ i e le lt. too_high (slice_index_or ps i e) d _ (c.reach_of-from.ensures.above i e le lt) (omega (arith, ints, c.hi.ensures.y, at.north)))

pub returns-clause-apart : goal.returns-clause-apart
returns-clause-apart c = apart_between c.args.patches.now c.reach_of-from.result.0 (c.reach_of-from.result.1 - c.reach_of-from.result.0) c.requires.apart
