use Rattle.std.proofs.Common.{◌∙◌, ◌&&◌, ◌||◌, ap, sym}
use Rattle.std.specs.Prelude.{◌==◌}
use Rattle.amr_tags.specs.Bits.{bit}
use Rattle.amr_tags.proofs.Places.{set-bit}
use Rattle.amr_tags.proofs.grow.with_bit.Goals as goal

pub returns-then-on : goal.returns-then-on
returns-then-on c = λ i _. set-bit c.args.word c.args.at i c.requires ∙ ap (λ t. bit c.args.word i || (t && (i == c.args.at))) (sym c.if-on.true)
