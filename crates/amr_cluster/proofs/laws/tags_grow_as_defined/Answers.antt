use Rattle.amr_def.specs.Domain.{domain}
use Rattle.amr_cluster.proofs.GrownTags.{grown-is}
use Rattle.amr_cluster.proofs.laws.tags_grow_as_defined.Goals as goal

pub returns-clause-domain : goal.returns-clause-domain
returns-clause-domain c = grown-is

pub returns-clause-level : goal.returns-clause-level
returns-clause-level c = λ p l t is tagged same k. grown-is (domain p l) t is tagged same p.n_error_buf k
