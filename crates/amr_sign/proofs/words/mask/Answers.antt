use Rattle.std.proofs.Common.{ℕ, ap, ◌∙◌}
use Rattle.std.specs.Int.{bit_at}
use Rattle.amr_sign.proofs.Bits.{mask-is, mask-bits}
use Rattle.amr_sign.proofs.words.mask.Goals as goal

pub returns : goal.returns
returns c = λ i h.
    ap (λ (m : ℕ). bit_at m i) (mask-is c.args.from c.args.to c.requires.from_inside c.requires.to_inside) ∙ mask-bits c.args.from c.args.to i c.requires.from_inside c.requires.to_inside h
