use Rattle.std.proofs.Common.{◌≡◌, ◌∙◌, ◌||◌, ap, sym}
use Rattle.std.proofs.Math.Bool.{or_assoc}
use Rattle.amr_box.specs.Cells.{child, in_boxes}
use Rattle.amr_witness_regrid.proofs.cells.has_child_in.Goals as goal

pub returns : goal.returns
returns c =
    let bs = c.args.boxes.now in
    let k = c.args.c in
    let e0 : c.in_boxes.result ≡ in_boxes bs (child k 0) = c.in_boxes.ensures ∙ ap (in_boxes bs) c.child.ensures.value in
    let e1 : c.in_boxes-2.result ≡ in_boxes bs (child k 1) = c.in_boxes-2.ensures ∙ ap (in_boxes bs) c.child-2.ensures.value in
    let e2 : c.in_boxes-3.result ≡ in_boxes bs (child k 2) = c.in_boxes-3.ensures ∙ ap (in_boxes bs) c.child-3.ensures.value in
    let e3 : c.in_boxes-4.result ≡ in_boxes bs (child k 3) = c.in_boxes-4.ensures ∙ ap (in_boxes bs) c.child-4.ensures.value in
    sym (or_assoc (c.in_boxes.result || c.in_boxes-2.result) c.in_boxes-3.result c.in_boxes-4.result) ∙ (λ i. e0 i || e1 i || e2 i || e3 i)
