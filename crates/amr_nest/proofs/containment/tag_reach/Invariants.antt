use Rattle.std.proofs.Common.{◌≡◌, ◌&&◌, ◌||◌}
use Rattle.amr_box.specs.declared.Cell.{Cell}
use Rattle.amr_box.specs.Cells.{holds}
use Rattle.amr_def.specs.Domain.{domain_of}
use Rattle.amr_tags.specs.TagSets.{SameShape, has}
use Rattle.amr_nest.specs.Reach.{is_reached}
use Rattle.amr_nest.proofs.containment.tag_reach.Given as goal

abbrev pub invariant-loop-k : goal.invariant-loop-k
invariant-loop-k l = record {
  shape : SameShape l.initial.tags l.tags;
  cells : (q : Cell) → has l.tags q ≡ (has l.initial.tags q || (holds l.initial.tags.bx q && is_reached (domain_of l.dom) l.b l.k q));
}
