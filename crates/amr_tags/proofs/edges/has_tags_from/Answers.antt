use Rattle.std.proofs.Common.{arith}
use Rattle.std.proofs.lemmas.Int.{ints}
use Rattle.amr_tags.proofs.Halving.{none-test, none_from, one_from, some-test}
use Rattle.amr_tags.proofs.edges.has_tags_from.Goals as goal

pub returns-clause-yes : goal.returns-clause-yes
returns-clause-yes c = λ t. one_from c.args.b.now c.args.part.now c.cut_at-above.result.1 c.args.words.now c.args.axis _ c.args.first c.cut_at-above.ensures.high_cells (omega (arith, ints)) (some-test c.count_part.result _ t c.count_part.ensures)

pub returns-clause-no : goal.returns-clause-no
returns-clause-no c = λ t. none_from c.args.b.now c.args.part.now c.cut_at-above.result.1 c.args.words.now c.args.axis _ c.args.first c.cut_at-above.ensures.high_cells (omega (arith, ints)) c.requires.part (none-test c.count_part.result _ t c.count_part.ensures)
