use Rattle.std.proofs.Common.{◌≡◌, ◌&&◌, ◌||◌, take}
use Rattle.std.specs.List.{list_any}
use Rattle.amr_box.specs.declared.Cell.{Cell}
use Rattle.amr_box.specs.Cells.{holds}
use Rattle.amr_def.specs.Domain.{domain_box, domain_of}
use Rattle.amr_tags.specs.TagSets.{SameShape, has}
use Rattle.amr_nest.proofs.Projected.{near_box}
use Rattle.amr_nest.proofs.containment.tag_around.Given as goal

abbrev pub invariant-loop-b : goal.invariant-loop-b
invariant-loop-b l = record {
  shape : SameShape l.initial.tags l.tags;
  cells : (q : Cell) → has l.tags q ≡ (has l.initial.tags q || (holds (domain_box (domain_of l.dom)) q && list_any (λ a. near_box (domain_of l.dom) a q) (take l.b-index l.boxes)));
}
