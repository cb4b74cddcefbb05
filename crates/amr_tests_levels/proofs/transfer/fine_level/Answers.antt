use Rattle.std.proofs.Common.{List, ◌∙◌, sym, ap}
use Rattle.amr_box.specs.Cells.{Extent, in_boxes}
use Rattle.amr_tests_levels.proofs.transfer.fine_level.Goals as goal

pub returns-clause-filled : goal.returns-clause-filled
returns-clause-filled c d = c.in_ok-level.ensures.cells d ∙ ap (λ (bs : List Extent). in_boxes bs d) (sym c.in_ok-level.ensures.boxes)

pub returns-clause-cells : goal.returns-clause-cells
returns-clause-cells c d = c.in_ok-level.ensures.cells d ∙ ap (λ (bs : List Extent). in_boxes bs d) c.side_by_side-boxes.ensures.are
