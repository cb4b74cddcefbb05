use Rattle.std.proofs.Common.{◌∙◌, List, ap}
use Rattle.amr_ranks.specs.Letters.{LetterOf, numbers_of}
use Rattle.amr_ranks.specs.Nodes.{fresh_node}
use Rattle.amr_post.proofs.Nets.{may_deliver}
use Rattle.amr_post.proofs.ranks.Rank.make.Goals as goal

pub returns-clause-ready : goal.returns-clause-ready
returns-clause-ready c =
    may_deliver c.args.rank c.args.words c.args.cells c.args.letters.items c.requires.own c.requires.net c.in_ok-post.post c.in-Ok.node c.in_ok-post.ensures.post c.in_ok-post.ensures.letters
    (c.in-Ok.ensures ∙ ap (λ (ls : List LetterOf). fresh_node c.args.rank (numbers_of ls) c.args.words c.args.cells) c.as_slice.ensures.value)
