use Rattle.amr_tags.proofs.Pairs.{coarse-word}
use Rattle.amr_tags.proofs.coarsen.coarse_word.Goals as goal

pub returns : goal.returns
returns c = λ b h. coarse-word c.args.per_row c.args.height c.args.words.now c.args.k c.args.j c.two_rows-low.result c.two_rows-high.result c.coarse_of.result b h c.two_rows-low.ensures c.two_rows-high.ensures c.coarse_of.ensures
