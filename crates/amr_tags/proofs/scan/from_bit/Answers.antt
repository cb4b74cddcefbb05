use Rattle.amr_tags.proofs.Masks.{high_bits}
use Rattle.amr_tags.proofs.scan.from_bit.Goals as goal

pub returns : goal.returns
returns c = λ i below. high_bits c.args.word c.args.at i c.requires below
