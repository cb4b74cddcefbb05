use Rattle.std.proofs.Common.{◌∙◌, ap, arith, is_some}
use Rattle.std.proofs.lemmas.Int.{ints}
use Rattle.amr_witness.specs.Maps.{masses_of}
use Rattle.amr_witness.proofs.Values.{there_at}
use Rattle.amr_witness.proofs.value.is_there.Goals as goal

pub returns : goal.returns
returns c = there_at (masses_of c.args.m.now) c.is_some.result _ _ c.args.x c.args.y (c.is_some.ensures ∙ ap is_some c.mass_in.ensures) (omega (arith, ints)) (omega (arith, ints))
