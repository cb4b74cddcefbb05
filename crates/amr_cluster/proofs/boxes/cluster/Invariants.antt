use Rattle.amr_tags.specs.TagSets.{has}
use Rattle.amr_cluster.specs.Work.{work_left}
use Rattle.amr_cluster.proofs.Waiting.{IsTurn}
use Rattle.amr_cluster.proofs.boxes.cluster.Given as goal

abbrev pub invariant-loop-cut_box : goal.invariant-loop-cut_box
invariant-loop-cut_box l = IsTurn l.efficiency l.w (has l.tags) l.tags.bx l.boxes l.work.items

abbrev pub decreases-loop-cut_box : goal.decreases-loop-cut_box
decreases-loop-cut_box l = work_left (has l.tags) l.work.items
