use Rattle.std.proofs.Common.{◌∙◌, ◌++◌, ◌∷◌, ◌&&◌, [], List, take, ap, arith}
use Rattle.std.proofs.lemmas.Bool.{and_parts, false_from_ne_true}
use Rattle.std.proofs.lemmas.List.{take_all}
use Rattle.amr_box.specs.Cells.{Extent, holds, in_boxes}
use Rattle.amr_decoder.specs.declared.grid.Grid.{Grid}
use Rattle.amr_decoder.specs.Grids.{boxes_of}
use Rattle.amr_decoder.proofs.GridBoxes.{apart_before, one_more}
use Rattle.amr_decoder.proofs.made.listed.Goals as goal

pub push_disjoint-requires : goal.push_disjoint-requires
push_disjoint-requires c d =
    let gs = c.args.grids.now in
    let i = c.loop-grid.grid-index in
    let g = c.grid-item.result in
    ap (λ (bs : List Extent). in_boxes bs d && holds g.bx d) c.loop-grid.invariant
    ∙ false_from_ne_true (in_boxes (boxes_of (take i gs)) d && holds g.bx d)
    (λ h. let parts = and_parts (in_boxes (boxes_of (take i gs)) d) (holds g.bx d) h in apart_before gs i g d c.requires c.loop-grid-test.true c.grid-item.is parts.0 parts.1)

pub loop-grid-preserved : goal.loop-grid-preserved
loop-grid-preserved c =
    let g = c.grid-item.result in
    c.in_ok-push_disjoint.ensures.ok ∙ ap (λ (bs : List Extent). bs ++ g.bx ∷ []) c.loop-grid.invariant
    ∙ one_more (λ (g : Grid). g.bx) c.args.grids.now c.loop-grid.grid-index g c.loop-grid-test.true c.grid-item.is

pub returns : goal.returns
returns c = c.loop-grid.invariant ∙ ap (λ (gs : List Grid). boxes_of gs) (take_all c.loop-grid.grid-index c.args.grids.now (omega (arith, c.loop-grid-test.false)))
