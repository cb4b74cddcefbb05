use Rattle.std.proofs.Common.{◌≡◌, ◌&&◌, take}
use Rattle.amr_box.specs.declared.Cell.{Cell}
use Rattle.amr_box.specs.Cells.{holds, in_boxes}
use Rattle.amr_def.specs.Domain.{domain_box, domain_of}
use Rattle.amr_tags.specs.TagSets.{has}
use Rattle.amr_nest.proofs.containment.tagged.Given as goal

abbrev pub invariant-loop-b : goal.invariant-loop-b
invariant-loop-b l = record {
  in_box : l.tags.bx ≡ domain_box (domain_of l.dom);
  cells : (q : Cell) → has l.tags q ≡ (holds (domain_box (domain_of l.dom)) q && in_boxes (take l.b-index l.boxes) q);
}
