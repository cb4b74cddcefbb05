use Rattle.std.proofs.Common.{◌≡◌, ◌&&◌, take}
use Rattle.std.specs.List.{list_any}
use Rattle.amr_box.specs.declared.Cell.{Cell}
use Rattle.amr_box.specs.Cells.{holds}
use Rattle.amr_def.specs.Domain.{domain_box, domain_of, in_blocks}
use Rattle.amr_tags.specs.TagSets.{has}
use Rattle.amr_nest.proofs.Projected.{projected_by}
use Rattle.amr_nest.proofs.projection.project.Given as goal

abbrev pub invariant-loop-b : goal.invariant-loop-b
invariant-loop-b l =
    (l.tags.bx ≡ domain_box (in_blocks 2 (domain_of l.dom)))
    × (l.tags.wrap_x ≡ l.dom.wrap_x)
    × (l.tags.wrap_y ≡ l.dom.wrap_y)
    × ((q : Cell) → has l.tags q ≡ (holds (domain_box (in_blocks 2 (domain_of l.dom))) q && list_any (λ a. projected_by (domain_of l.dom) a q) (take l.b-index l.boxes)))
