use Rattle.amr_def.specs.Domain.{domain_of}
use Rattle.amr_nest.proofs.Reaches.{parents_inside}
use Rattle.amr_nest.proofs.reach.parents.Goals as goal

pub returns-clause-inside : goal.returns-clause-inside
returns-clause-inside c = parents_inside (domain_of c.args.dom.now) c.args.b.now c.lo.ensures.proper c.requires
