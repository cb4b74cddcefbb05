use Rattle.std.proofs.Common.{◌∙◌, List, sym, ap, subst, arith}
use Rattle.std.specs.Global.{Vec}
use Rattle.amr_box.specs.Cells.{Extent}
use Rattle.amr_def.specs.Tags.{is_tagged}
use Rattle.amr_def.specs.NewBoxes.{first_boxes}
use Rattle.amr_witness.proofs.States.{count_same}
use Rattle.amr_regrid.specs.Outlines.{lists_in}
use Rattle.amr_witness_regrid.specs.Places.{HasCellsInside}
use Rattle.amr_witness_regrid.specs.Wanted.{boxes_over, with_levels}
use Rattle.amr_witness_regrid.proofs.Regridded.{boxes_more, more_near, no_boxes, nothing_near}
use Rattle.amr_witness_regrid.proofs.regrid.+new_boxes.Goals as goal

pub returns-then-n-eq0-clause-boxes : goal.returns-then-n-eq0-clause-boxes
returns-then-n-eq0-clause-boxes t c = ap lists_in c.new.ensures.items ∙ no_boxes c.args.p.now (is_tagged c.args.p.now (with_levels c.args.levels.now)) c.args.n c.args.level c.if-n-eq0.true

pub returns-then-n-eq0-clause-near : goal.returns-then-n-eq0-clause-near
returns-then-n-eq0-clause-near t c = nothing_near c.new.result.items c.new.ensures.items

pub boxes_over-requires-clause-inside : goal.boxes_over-requires-clause-inside
boxes_over-requires-clause-inside t c =
    let e = count_same c.args.levels.now in
    subst (HasCellsInside c.args.p.now c.args.level) (sym c.masses_at.ensures) (c.requires.inside.at c.args.level (omega (arith, e, c.requires.there, c.if-n-eq0.false)))

pub returns-clause-boxes : goal.returns-clause-boxes
returns-clause-boxes t c =
    let p = c.args.p.now in
    let s = with_levels c.args.levels.now in
    let l = c.args.level in
    let here = c.in_ok-boxes.ensures.boxes ∙ (λ i. boxes_over p l (c.masses_at.ensures i) (c.masses_below.ensures i) ((c.first_boxes.ensures ∙ ap (λ (bs : List (Vec Extent)). first_boxes (lists_in bs)) c.as_slice.ensures.value) i)) in
    ap lists_in c.in_ok-insert.ensures.items ∙ boxes_more p (is_tagged p s) c.args.n l _ _ c.if-n-eq0.false c.in_ok-all.ensures.boxes here

pub returns-clause-near : goal.returns-clause-near
returns-clause-near t c = more_near c.insert.new.self.items c.in_ok-all.all.items c.in_ok-boxes.boxes c.in_ok-insert.ensures.items c.in_ok-boxes.ensures.near c.in_ok-all.ensures.near
