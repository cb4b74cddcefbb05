use Rattle.std.proofs.Common.{arith}
use Rattle.amr_sign.proofs.Bits.{window-bit}
use Rattle.amr_sign.proofs.words.masked_word.Goals as goal

pub returns : goal.returns
returns c = λ i h.
    window-bit c.args.row.now c.args.k i c.args.low c.args.high _ _ c.mask.result h c.requires.last (omega (arith, c.saturating_sub-from.ensures)) (omega (arith, c.min-to.ensures)) (c.mask.ensures i h)
