use Rattle.std.proofs.Common.{arith}
use Rattle.std.proofs.lemmas.Result.{IfOk-weaker}
use Rattle.amr_patch.specs.Levels.{level_of}
use Rattle.amr_register.proofs.BandLists as lists
use Rattle.amr_register.proofs.Homes.{size_at}
use Rattle.amr_register.proofs.bands.whole.Goals as goal

pub returns : goal.returns
returns c =
    let size = size_at c.args.pair.now.p.now c.args.pair.now.l (omega (arith, c.args.pair.now.few)) in
    IfOk-weaker c.band_of.result _ _ (λ b h. lists.whole c.args.pair.now.p.now c.args.pair.now.l (level_of c.args.pair.now.coarse.now).masses (level_of c.args.pair.now.fine.now).masses 4096 b size.few_rows h) c.band_of.ensures
