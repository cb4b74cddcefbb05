use Rattle.amr_cluster.proofs.Fuel.{cluster-cut}
use Rattle.amr_cluster.proofs.laws.cluster_is_recursive.Goals as goal

pub returns : goal.returns
returns c = cluster-cut
