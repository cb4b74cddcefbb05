use Rattle.std.proofs.Common.{◌∙◌, List, ap, sym, subst}
use Rattle.std.specs.Option.{option_copied}
use Rattle.amr_def.specs.Domain.{Domain, domain_box}
use Rattle.amr_patch.specs.declared.patches.Patch.{Patch}
use Rattle.amr_patch.specs.Gaps.{HasStarts}
use Rattle.amr_patch.specs.Levels.{level_of}
use Rattle.amr_patch.specs.Orders.{IsOrderOf}
use Rattle.amr_ghost.specs.Fills.{AreSourcesOf, FillsFrames}
use Rattle.amr_ghost.specs.Frames.{old_masses}
use Rattle.amr_ghost.proofs.Inside.{patches_inside}
use Rattle.amr_criterion.proofs.Levels.{only_tagged}
use Rattle.amr_criterion.proofs.level.tags.Goals as goal

pub find_sources-requires-clause-order : goal.find_sources-requires-clause-order
find_sources-requires-clause-order c = subst (λ (ps : List Patch). IsOrderOf c.order.result ps) (sym c.patches-2.ensures.all) c.order.ensures

pub find_sources-requires-clause-starts : goal.find_sources-requires-clause-starts
find_sources-requires-clause-starts c = subst (λ (ps : List Patch). HasStarts ps c.in_ok-starts.starts) (c.patches.ensures.all ∙ sym c.patches-2.ensures.all) c.in_ok-starts.ensures

pub find_sources-requires-clause-inside : goal.find_sources-requires-clause-inside
find_sources-requires-clause-inside c = patches_inside c.args.p.now c.args.l (level_of c.args.level.now) c.patches-2.result.now c.requires.of_domain c.patches-2.ensures.masses

pub tag_level-requires-clause-sources : goal.tag_level-requires-clause-sources
tag_level-requires-clause-sources c = subst (λ (ps : List Patch). AreSourcesOf ps c.in_ok-sources.sources) c.patches-2.ensures.all c.in_ok-sources.ensures.are

pub returns-clause-in_box : goal.returns-clause-in_box
returns-clause-in_box c = c.tag_level.ensures.shape.bx ∙ c.in_ok-tags.ensures.in_box ∙ c.domain_box.ensures.value ∙ ap domain_box c.domain-dom.ensures

pub returns-clause-axes : goal.returns-clause-axes
returns-clause-axes c =
    let shape = c.tag_level.ensures.shape in
    let axes = c.in_ok-tags.ensures.axes in
    (shape.x ∙ axes.0 ∙ ap (λ (d : Domain). d.wrap_x) c.domain-dom.ensures, shape.y ∙ axes.1 ∙ ap (λ (d : Domain). d.wrap_y) c.domain-dom.ensures)

pub returns-clause-cells : goal.returns-clause-cells
returns-clause-cells c =
    let old = old_masses (option_copied c.args.coarse) in
    only_tagged c.args.p.now c.args.l (level_of c.args.level.now) old c.in_ok-tags.tags c.tag_level.new.tags c.requires.of_domain
    (c.in_ok-tags.ensures.in_box ∙ c.domain_box.ensures.value ∙ ap domain_box c.domain-dom.ensures)
    c.in_ok-tags.ensures.empty
    (c.tag_level.ensures.tags old (subst (λ (ps : List Patch). FillsFrames c.args.p.now c.args.l old ps c.in_ok-sources.sources) c.patches-2.ensures.all c.in_ok-sources.ensures))

pub returns-clause-frames : goal.returns-clause-frames
returns-clause-frames c =
    let old = old_masses (option_copied c.args.coarse) in
    c.tag_level.ensures.frames old (subst (λ (ps : List Patch). FillsFrames c.args.p.now c.args.l old ps c.in_ok-sources.sources) c.patches-2.ensures.all c.in_ok-sources.ensures)

pub returns-clause-marks : goal.returns-clause-marks
returns-clause-marks c =
    let old = old_masses (option_copied c.args.coarse) in
    c.tag_level.ensures.marks old (subst (λ (ps : List Patch). FillsFrames c.args.p.now c.args.l old ps c.in_ok-sources.sources) c.patches-2.ensures.all c.in_ok-sources.ensures)
