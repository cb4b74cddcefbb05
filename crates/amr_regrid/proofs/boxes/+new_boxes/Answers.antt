use Rattle.std.proofs.Common.{◌∙◌, ◌-◌, List, length, map, ap, arith}
use Rattle.std.specs.Global.{Vec}
use Rattle.amr_box.specs.Cells.{Extent}
use Rattle.amr_def.specs.NewBoxes.{first_boxes}
use Rattle.amr_def.specs.Species.{first_state, is_tagged_in_some}
use Rattle.amr_def.specs.State.{State}
use Rattle.amr_patch.specs.Meshes.{state_of}
use Rattle.amr_tags.specs.TagSets.{has}
use Rattle.amr_regrid.specs.Outlines.{lists_in}
use Rattle.amr_regrid.proofs.MeshOutlines.{alike_stays, same_states}
use Rattle.amr_regrid.proofs.NewLists.{boxes_by, finer_inside}
use Rattle.amr_regrid.proofs.Refilling.{boxes_more, no_boxes}
use Rattle.amr_regrid.proofs.boxes.+new_boxes.Goals as goal

pub returns-then-n-eq0-clause-boxes : goal.returns-then-n-eq0-clause-boxes
returns-then-n-eq0-clause-boxes t c = ap lists_in c.new.ensures.items ∙ no_boxes c.args.p.now (is_tagged_in_some c.args.p.now (map state_of c.args.meshes.now)) c.args.n c.args.l c.if-n-eq0.true

pub joined_tags-requires-clause-meshes : goal.joined_tags-requires-clause-meshes
joined_tags-requires-clause-meshes t c = alike_stays c.args.p.now c.new_boxes.new.meshes c.args.meshes.now c.new_boxes.ensures.outlines c.requires.meshes

pub joined_tags-requires-clause-there : goal.joined_tags-requires-clause-there
joined_tags-requires-clause-there t c =
    let same = ap (λ (ss : List State). length (first_state ss).levels) (same_states c.new_boxes.new.meshes c.args.meshes.now c.new_boxes.ensures.outlines) in
    omega (arith, same, c.requires.there, c.if-n-eq0.false)

pub boxes_over-requires-clause-finer : goal.boxes_over-requires-clause-finer
boxes_over-requires-clause-finer t c = λ q h.
    let p = c.args.p.now in
    let is = c.first_boxes.ensures ∙ ap (λ (bs : List (Vec Extent)). first_boxes (lists_in bs)) c.as_slice.ensures.value ∙ ap first_boxes c.in_ok-all.ensures.boxes in
    finer_inside p (is_tagged_in_some p (map state_of c.args.meshes.now)) (c.args.n - 1) c.args.l c.first_boxes.result.now is q h

pub returns-clause-boxes : goal.returns-clause-boxes
returns-clause-boxes t c =
    let p = c.args.p.now in
    let ms = c.args.meshes.now in
    let l = c.args.l in
    let tagged = is_tagged_in_some p (map state_of ms) in
    let first = c.first_boxes.ensures ∙ ap (λ (bs : List (Vec Extent)). first_boxes (lists_in bs)) c.as_slice.ensures.value in
    let same = same_states c.new_boxes.new.meshes ms c.new_boxes.ensures.outlines in
    let here = boxes_by p tagged l (has c.in_ok-tags.tags) c.in_ok-boxes.boxes.items c.first_boxes.result.now (first_boxes (lists_in c.in_ok-all.all.items))
    (λ q. c.in_ok-tags.ensures.cells q ∙ ap (λ (ss : List State). is_tagged_in_some p ss l q) same) first c.in_ok-boxes.ensures in
    ap lists_in c.in_ok-insert.ensures.items ∙ boxes_more p tagged c.args.n l _ _ c.if-n-eq0.false c.in_ok-all.ensures.boxes here
