use Rattle.std.proofs.Common.{pos, ◌≤ℤ◌, ◌<ℤ◌, refl, arith}
use Rattle.std.proofs.lemmas.Int.{ints}
use Rattle.amr_flux.proofs.Exchanged.{exchanged_ahead, exchanged_back}
use Rattle.amr_flux.proofs.exchanges.exchanged.Goals as goal

pub returns-then-number-lt0 : goal.returns-then-number-lt0
returns-then-number-lt0 c =
    let back : c.args.number <ℤ pos 0 = grind (arith, ints) in
    exchanged_back c.args.number back c.args.share c.args.size c.args.mass _ _ (omega (arith, c.ranges.share.fits)) refl refl

pub returns-else-number-lt0 : goal.returns-else-number-lt0
returns-else-number-lt0 c =
    let ahead : pos 0 ≤ℤ c.args.number = grind (arith, ints) in
    exchanged_ahead c.args.number ahead c.args.share c.args.size c.args.mass _ _ (omega (arith, c.ranges.size.fits)) refl refl
