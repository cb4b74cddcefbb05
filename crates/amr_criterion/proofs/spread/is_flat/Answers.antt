use Rattle.std.proofs.Common.{◌-◌, ◌<◌, arith}
use Rattle.std.proofs.lemmas.Bool.Decides.{nat_tests}
use Rattle.amr_patch.specs.Patches.{value_in}
use Rattle.amr_criterion.proofs.Flats.{near_values}
use Rattle.amr_criterion.proofs.spread.is_flat.Goals as goal

pub returns : goal.returns
returns c small a b h k =
    let s = c.spread_of-spread.result in
    let few : s.most - s.least < c.args.threshold = grind (arith, nat_tests, small) in
    near_values c.args.threshold s.least s.most (value_in c.args.patch.now a) (value_in c.args.patch.now b) (c.spread_of-spread.ensures.low a h) (c.spread_of-spread.ensures.high a h) (c.spread_of-spread.ensures.low b k) (c.spread_of-spread.ensures.high b k) few
