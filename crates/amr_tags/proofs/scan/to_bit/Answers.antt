use Rattle.amr_tags.proofs.Masks.{low_bits}
use Rattle.amr_tags.proofs.scan.to_bit.Goals as goal

pub returns : goal.returns
returns c = λ i below. low_bits c.args.word c.args.at i c.requires below
