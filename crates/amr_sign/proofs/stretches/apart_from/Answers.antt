use Rattle.amr_sign.proofs.StretchCounts.{apart-bit}
use Rattle.amr_sign.proofs.stretches.apart_from.Goals as goal

pub returns : goal.returns
returns c = λ i. apart-bit c.args.word c.args.other i
