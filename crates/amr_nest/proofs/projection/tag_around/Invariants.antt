use Rattle.std.proofs.Common.{◌≡◌, ◌&&◌, ◌||◌}
use Rattle.amr_box.specs.declared.Cell.{Cell}
use Rattle.amr_box.specs.Cells.{has_child_where, holds}
use Rattle.amr_def.specs.Domain.{domain_of}
use Rattle.amr_tags.specs.TagSets.{SameShape, has}
use Rattle.amr_nest.specs.Reach.{is_reached}
use Rattle.amr_nest.proofs.projection.tag_around.Given as goal

abbrev pub invariant-loop-k : goal.invariant-loop-k
invariant-loop-k l =
    SameShape l.initial.tags l.tags
    × ((q : Cell) → has l.tags q ≡ (has l.initial.tags q || (holds l.initial.tags.bx q && has_child_where (is_reached (domain_of l.dom) l.b l.k) q)))
