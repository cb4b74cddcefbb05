use Rattle.std.proofs.Common.{◌≡◌, ◌≤◌, get_or, ap, subst, ◌∙◌, arith}
use Rattle.amr_box.specs.Cells.{IsNear}
use Rattle.amr_def.specs.Domain.{domain}
use Rattle.amr_patch.specs.declared.patches.Patch.{Patch}
use Rattle.amr_patch.specs.Patches.{box}
use Rattle.amr_ghost.specs.GhostCells.{LiesInDomain, side_axis, side_count, size_along}
use Rattle.amr_ghost.specs.Plans.{HaveStrip}
use Rattle.amr_ghost.proofs.Levels.{few_along}
use Rattle.amr_ghost.proofs.BoxSides.{box_lies, same_box, side_few, strip_of}
use Rattle.std.proofs.lemmas.Result.{on_ok_weaker}
use Rattle.amr_ghost.proofs.PlannedSpans.{HaveSide, side_strips}
use Rattle.amr_ghost.proofs.plan.plan_side.Goals as goal

pub plan_strip-requires-clause-small : goal.plan_strip-requires-clause-small
plan_strip-requires-clause-small c =
    let d = domain c.args.p.now c.args.target.level in
    let is = c.index-patches-target.is in
    let near = subst (λ (x : Patch). IsNear (box x)) is c.bx.ensures.near in
    let lies : LiesInDomain d c.bx.result = box_lies d c.args.patches.now c.args.target.patch c.index-patches-target.result c.bx.result c.requires.patches.inside c.requires.there is (c.bx.ensures.value ∙ ap box is) near in
    let few : side_count c.bx.result c.args.side ≤ size_along (side_axis c.args.side) d = side_few d c.bx.result c.args.side lies in
    let size : size_along (side_axis c.args.side) d ≤ 4096 = few_along c.args.p.now c.args.target.level (side_axis c.args.side) c.requires.level in
    let count : c.side_strip-strip.result.count ≡ side_count c.bx.result c.args.side = c.side_strip-strip.ensures.count in
    omega arith

pub plan_strip-requires-clause-ghost_strip : goal.plan_strip-requires-clause-ghost_strip
plan_strip-requires-clause-ghost_strip c q =
    let d = domain c.args.p.now c.args.target.level in
    let is = c.index-patches-target.is in
    let near = subst (λ (x : Patch). IsNear (box x)) is c.bx.ensures.near in
    let lies : LiesInDomain d c.bx.result = box_lies d c.args.patches.now c.args.target.patch c.index-patches-target.result c.bx.result c.requires.patches.inside c.requires.there is (c.bx.ensures.value ∙ ap box is) near in
    strip_of d c.bx.result (box (get_or c.args.patches.now c.args.target.patch q)) c.args.side c.side_strip-strip.result.axis c.side_strip-strip.result.from c.side_strip-strip.result.count lies (same_box c.args.patches.now c.args.target.patch c.index-patches-target.result q c.bx.result c.requires.there (c.bx.ensures.value ∙ ap box is)) c.side_strip-strip.ensures.axis c.side_strip-strip.ensures.from c.side_strip-strip.ensures.count

pub returns-clause-made : goal.returns-clause-made
returns-clause-made c =
    let ps = c.args.patches.now in
    let i = c.args.target.patch in
    let ss = c.plan_strip.new.spans.items in
    let strip = c.side_strip-strip.result in
    on_ok_weaker {P = HaveStrip ss i strip.axis strip.from strip.count} {Q = HaveSide ps ss i c.args.side} c.plan_strip.result
    (λ h. side_strips ps ss i c.args.side strip.axis strip.from strip.count c.bx.result (λ q. same_box ps i c.index-patches-target.result q c.bx.result c.requires.there (c.bx.ensures.value ∙ ap box c.index-patches-target.is)) c.side_strip-strip.ensures.axis c.side_strip-strip.ensures.from c.side_strip-strip.ensures.count h)
    c.plan_strip.ensures.made
