use Rattle.std.proofs.Common.{◌∙◌, ◌++◌, ◌&&◌, List, [], ◌∷◌, sym, ap, take}
use Rattle.std.specs.List.{flat_map}
use Rattle.std.proofs.lemmas.List.{take_all, take_more}
use Rattle.amr_box.specs.Cells.{Extent, holds, in_boxes}
use Rattle.amr_boxlist.specs.Chopped.{chopped}
use Rattle.amr_regrid.proofs.ApartBoxes.{apart_before}
use Rattle.amr_regrid.proofs.masses.patch_boxes.Goals as goal

pub push_disjoint-requires : goal.push_disjoint-requires
push_disjoint-requires c = λ q.
    ap (λ (bs : List Extent). in_boxes bs q && holds c.b-item.result q) c.loop-b.invariant ∙ apart_before c.args.boxes.now c.requires.apart c.loop-b.b-index c.b-item.result c.loop-b-test.true c.b-item.is q

pub loop-b-preserved : goal.loop-b-preserved
loop-b-preserved c =
    let b = c.b-item.result in
    let i = c.loop-b.b-index in
    let bs = c.args.boxes.now in
    c.in_ok-push_disjoint.ensures.ok ∙ ap (λ (xs : List Extent). xs ++ b ∷ []) c.loop-b.invariant ∙ ap (λ (x : Extent). take i bs ++ x ∷ []) c.b-item.is ∙ sym (take_more bs i b c.loop-b-test.true)

pub returns-clause-chopped : goal.returns-clause-chopped
returns-clause-chopped c = c.in_ok-chop.ensures.chopped ∙ ap (flat_map (chopped c.args.max)) (c.loop-b.invariant ∙ take_all c.loop-b.b-index c.args.boxes.now c.loop-b-test.false)

pub returns-clause-cells : goal.returns-clause-cells
returns-clause-cells c = λ q. c.in_ok-chop.ensures.cells q ∙ ap (λ (bs : List Extent). in_boxes bs q) (c.loop-b.invariant ∙ take_all c.loop-b.b-index c.args.boxes.now c.loop-b-test.false)
