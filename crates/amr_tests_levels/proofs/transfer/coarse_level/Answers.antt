use Rattle.std.proofs.Common.{List, ◌∙◌, ap}
use Rattle.amr_box.specs.Cells.{Extent, in_boxes}
use Rattle.amr_tests_levels.proofs.transfer.coarse_level.Goals as goal

pub returns : goal.returns
returns c d = c.put-3.ensures d ∙ c.put-2.ensures d ∙ c.put.ensures d ∙ c.in_ok-level.ensures.cells d ∙ ap (λ (bs : List Extent). in_boxes bs d) c.side_by_side-boxes.ensures.are
