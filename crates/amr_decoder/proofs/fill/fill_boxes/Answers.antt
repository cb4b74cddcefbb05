use Rattle.std.proofs.Common.{◌∙◌, List, map, take, sym, ap, subst, arith}
use Rattle.std.proofs.lemmas.List.{length-map}
use Rattle.amr_box.specs.Cells.{Extent, in_boxes}
use Rattle.amr_patch.proofs.Standing.{order_of_boxes}
use Rattle.amr_payload.specs.Tests as tests
use Rattle.amr_decoder.specs.declared.grid.Grid.{Grid}
use Rattle.amr_decoder.specs.Filled.{AreGridsSet, IsPlaced}
use Rattle.amr_decoder.specs.Grids.{grid_of}
use Rattle.amr_patch.proofs.SameBoxes.{apart_alike, in_same_boxes}
use Rattle.amr_decoder.proofs.Filling.{box_filled}
use Rattle.amr_decoder.proofs.GridBoxes.{apart_before, box_at_place, boxes_of_grids, in_grids, one_more}
use Rattle.amr_decoder.proofs.fill.fill_boxes.Goals as goal

pub fill_box-requires-clause-order : goal.fill_box-requires-clause-order
fill_box-requires-clause-order c = order_of_boxes c.args.order c.args.patches.now c.loop-grid.patches c.loop-grid.invariant.boxes c.requires.order

pub fill_box-requires-clause-apart : goal.fill_box-requires-clause-apart
fill_box-requires-clause-apart c = apart_alike c.args.patches.now c.loop-grid.patches c.loop-grid.invariant.boxes c.requires.apart

pub fill_box-requires-clause-cells : goal.fill_box-requires-clause-cells
fill_box-requires-clause-cells c d held =
    in_same_boxes c.loop-grid.patches c.args.patches.now d c.loop-grid.invariant.boxes
    ∙ c.requires.cells d (in_grids c.args.grids.now c.loop-grid.grid-index c.grid-item.result d c.loop-grid-test.true c.grid-item.is held)

pub fill_box-requires-clause-placed : goal.fill_box-requires-clause-placed
fill_box-requires-clause-placed c =
    let gs = c.args.grids.now in
    let i = c.loop-grid.grid-index in
    let g = c.grid-item.result in
    subst (λ (b : Extent). IsPlaced b) (box_at_place gs i g c.loop-grid-test.true c.grid-item.is) (c.requires.placed i g.bx (omega (arith, c.loop-grid-test.true, length-map gs (λ (g : Grid). g.bx))))

pub loop-grid-preserved : goal.loop-grid-preserved
loop-grid-preserved c =
    let bytes = c.args.bytes.now in
    let gs = c.args.grids.now in
    let i = c.loop-grid.grid-index in
    let g = c.grid-item.result in
    let f : Grid → tests.Grid = grid_of bytes in
    subst (λ (vs : List tests.Grid). AreGridsSet vs c.args.patches.now c.fill_box.new.patches) (one_more f gs i g c.loop-grid-test.true c.grid-item.is)
    (box_filled (map f (take i gs)) (f g) c.args.patches.now c.loop-grid.patches c.fill_box.new.patches
    (λ d before held. apart_before gs i g d c.requires.disjoint c.loop-grid-test.true c.grid-item.is (ap (λ (bs : List Extent). in_boxes bs d) (sym (boxes_of_grids bytes (take i gs))) ∙ before) held)
    c.loop-grid.invariant c.in_ok-fill_box.ensures)
