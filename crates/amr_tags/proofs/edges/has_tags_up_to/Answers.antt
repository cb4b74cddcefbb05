use Rattle.std.proofs.Common.{arith}
use Rattle.std.proofs.lemmas.Int.{ints}
use Rattle.amr_tags.proofs.Halving.{near_high, none-test, none_up_to, one_up_to, some-test}
use Rattle.amr_tags.proofs.edges.has_tags_up_to.Goals as goal

pub returns-clause-yes : goal.returns-clause-yes
returns-clause-yes c = λ t. one_up_to c.args.b.now c.args.part.now c.cut_at-below.result.0 c.args.words.now c.args.axis _ c.args.last c.cut_at-below.ensures.low_cells (omega (arith, ints, c.requires.below_high, near_high c.args.b.now c.args.part.now c.args.axis c.requires.near c.requires.part)) (some-test c.count_part.result _ t c.count_part.ensures)

pub returns-clause-no : goal.returns-clause-no
returns-clause-no c = λ t. none_up_to c.args.b.now c.args.part.now c.cut_at-below.result.0 c.args.words.now c.args.axis _ c.args.last c.cut_at-below.ensures.low_cells (omega (arith, ints, c.requires.below_high, near_high c.args.b.now c.args.part.now c.args.axis c.requires.near c.requires.part)) c.requires.part (none-test c.count_part.result _ t c.count_part.ensures)
