use Rattle.amr_cluster.proofs.Sound.{cluster-sound}
use Rattle.amr_cluster.proofs.laws.clusters_are_sound.Goals as goal

pub returns : goal.returns
returns c = cluster-sound
