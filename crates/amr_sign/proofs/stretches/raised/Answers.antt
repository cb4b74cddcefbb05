use Rattle.amr_sign.proofs.StretchCounts.{raised-first, raised-others}
use Rattle.amr_sign.proofs.stretches.raised.Goals as goal

pub returns-clause-first : goal.returns-clause-first
returns-clause-first c = rw c.from.ensures (raised-first c.args.word c.args.first)

pub returns-clause-others : goal.returns-clause-others
returns-clause-others c = λ i h. rw c.from.ensures (raised-others c.args.word i c.args.first h)
