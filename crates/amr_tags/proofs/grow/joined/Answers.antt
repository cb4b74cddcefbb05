use Rattle.amr_tags.proofs.Shifts.{three-bit}
use Rattle.amr_tags.proofs.grow.joined.Goals as goal

pub returns : goal.returns
returns c = λ i _. three-bit c.args.a c.args.b c.args.c i
