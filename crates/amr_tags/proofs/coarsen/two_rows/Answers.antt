use Rattle.std.proofs.Common.{◌∙◌, ◌||◌}
use Rattle.amr_tags.proofs.Shifts.{or-bit}
use Rattle.amr_tags.proofs.coarsen.two_rows.Goals as goal

pub returns : goal.returns
returns c = λ b h. or-bit c.word_at-low.result c.word_at-high.result b ∙ (λ i. c.word_at-low.ensures b h i || c.word_at-high.ensures b h i)
