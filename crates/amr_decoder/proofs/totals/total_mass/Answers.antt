use Rattle.std.proofs.Common.{◌≤◌, ◌∙◌, sym, subst}
use Rattle.amr_box.specs.Cells.{Extent, IsNear, height, width}
use Rattle.amr_patch.specs.BoxRows.{HasCellsOf}
use Rattle.amr_def.specs.Domain.{domain, domain_box}
use Rattle.amr_decoder.proofs.MassSums.{box_cells, box_is, flat, narrow, near, total_is}
use Rattle.amr_decoder.proofs.totals.total_mass.Goals as goal

pub box_mass-requires-clause-near : goal.box_mass-requires-clause-near
box_mass-requires-clause-near c =
    let here = box_is c.boxes.result.now (domain_box (domain c.args.p.now 0)) c.index-boxes-0.result (c.boxes.ensures ∙ c.requires.boxes) c.index-boxes-0.is in
    subst (λ (b : Extent). IsNear b) (sym here) (near c.args.p.now)

pub box_mass-requires-clause-cells : goal.box_mass-requires-clause-cells
box_mass-requires-clause-cells c =
    let b = domain_box (domain c.args.p.now 0) in
    let here = box_is c.boxes.result.now b c.index-boxes-0.result (c.boxes.ensures ∙ c.requires.boxes) c.index-boxes-0.is in
    subst (λ (b : Extent). HasCellsOf c.args.base.now b) (sym here) (box_cells c.args.base.now b c.requires.level.filled c.requires.boxes)

pub box_mass-requires-clause-narrow : goal.box_mass-requires-clause-narrow
box_mass-requires-clause-narrow c =
    let here = box_is c.boxes.result.now (domain_box (domain c.args.p.now 0)) c.index-boxes-0.result (c.boxes.ensures ∙ c.requires.boxes) c.index-boxes-0.is in
    subst (λ (b : Extent). width b ≤ 256) (sym here) (narrow c.args.p.now)

pub box_mass-requires-clause-flat : goal.box_mass-requires-clause-flat
box_mass-requires-clause-flat c =
    let here = box_is c.boxes.result.now (domain_box (domain c.args.p.now 0)) c.index-boxes-0.result (c.boxes.ensures ∙ c.requires.boxes) c.index-boxes-0.is in
    subst (λ (b : Extent). height b ≤ 256) (sym here) (flat c.args.p.now)

pub returns : goal.returns
returns c =
    let here = box_is c.boxes.result.now (domain_box (domain c.args.p.now 0)) c.index-boxes-0.result (c.boxes.ensures ∙ c.requires.boxes) c.index-boxes-0.is in
    c.box_mass.ensures ∙ total_is c.args.p.now c.args.base.now c.index-boxes-0.result here
