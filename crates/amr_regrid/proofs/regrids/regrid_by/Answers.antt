use Rattle.std.proofs.Common.{◌∙◌, sym, ap}
use Rattle.std.proofs.lemmas.Slice.Zip.{AllZip-long}
use Rattle.amr_regrid.specs.Outlines.{lists_in, shared_boxes}
use Rattle.amr_regrid.specs.Plans.{IsPlanFor}
use Rattle.amr_regrid.proofs.MeshOutlines.{all_whole, alike_stays, same_states}
use Rattle.amr_regrid.proofs.MeshRegrids.{plan_rooms, alike_after, chopped_after, held_after, patches_after, value_after, whole_after}
use Rattle.amr_regrid.proofs.regrids.regrid_by.Goals as goal

pub plans-requires-clause-meshes : goal.plans-requires-clause-meshes
plans-requires-clause-meshes g c = alike_stays c.args.p.now c.boxes_above.new.meshes c.args.meshes.now c.boxes_above.ensures.outlines c.requires.meshes

pub plans-requires-clause-boxes : goal.plans-requires-clause-boxes
plans-requires-clause-boxes g c =
    ap lists_in c.as_slice.ensures.value ∙ c.in_ok-boxes.ensures.boxes ∙ ap (shared_boxes c.args.p.now) (sym (same_states c.boxes_above.new.meshes c.args.meshes.now c.boxes_above.ensures.outlines))

pub install_all-requires-clause-whole : goal.install_all-requires-clause-whole
install_all-requires-clause-whole g c = all_whole c.boxes_above.new.meshes c.args.meshes.now c.boxes_above.ensures.outlines c.requires.meshes.whole

pub install_all-requires-clause-count : goal.install_all-requires-clause-count
install_all-requires-clause-count g c = AllZip-long (IsPlanFor c.args.p.now (lists_in c.as_slice.result.now)) c.boxes_above.new.meshes c.in_ok-plans.plans.items c.in_ok-plans.ensures

pub install_all-requires-clause-room : goal.install_all-requires-clause-room
install_all-requires-clause-room g c = plan_rooms c.args.p.now (lists_in c.as_slice.result.now) c.boxes_above.new.meshes c.in_ok-plans.plans.items c.in_ok-plans.ensures

pub returns-clause-value : goal.returns-clause-value
returns-clause-value g c = value_after c.args.p.now c.args.meshes.now c.boxes_above.new.meshes c.install_all.new.meshes c.in_ok-plans.plans.items (lists_in c.as_slice.result.now) c.requires.meshes c.boxes_above.ensures.outlines (ap lists_in c.as_slice.ensures.value ∙ c.in_ok-boxes.ensures.boxes) c.install_all.auto.meshes c.in_ok-plans.ensures c.install_all.ensures

pub returns-clause-alike : goal.returns-clause-alike
returns-clause-alike g c = alike_after c.args.p.now c.args.meshes.now c.boxes_above.new.meshes c.install_all.new.meshes c.in_ok-plans.plans.items (lists_in c.as_slice.result.now) c.requires.meshes c.boxes_above.ensures.outlines (ap lists_in c.as_slice.ensures.value ∙ c.in_ok-boxes.ensures.boxes) c.install_all.auto.meshes c.in_ok-plans.ensures c.install_all.ensures

pub returns-clause-held : goal.returns-clause-held
returns-clause-held g c = held_after c.args.p.now c.args.meshes.now c.boxes_above.new.meshes c.install_all.new.meshes c.in_ok-plans.plans.items (lists_in c.as_slice.result.now) c.requires.meshes c.boxes_above.ensures.outlines (ap lists_in c.as_slice.ensures.value ∙ c.in_ok-boxes.ensures.boxes) c.install_all.auto.meshes c.in_ok-plans.ensures c.install_all.ensures

pub returns-clause-chopped_or_kept : goal.returns-clause-chopped_or_kept
returns-clause-chopped_or_kept g c = patches_after c.args.p.now c.args.meshes.now c.boxes_above.new.meshes c.install_all.new.meshes c.in_ok-plans.plans.items (lists_in c.as_slice.result.now) c.requires.meshes c.boxes_above.ensures.outlines (ap lists_in c.as_slice.ensures.value ∙ c.in_ok-boxes.ensures.boxes) c.install_all.auto.meshes c.in_ok-plans.ensures c.install_all.ensures

pub returns-clause-patches : goal.returns-clause-patches
returns-clause-patches g c = chopped_after c.args.p.now c.args.meshes.now c.boxes_above.new.meshes c.install_all.new.meshes c.in_ok-plans.plans.items (lists_in c.as_slice.result.now) c.requires.meshes c.boxes_above.ensures.outlines (ap lists_in c.as_slice.ensures.value ∙ c.in_ok-boxes.ensures.boxes) c.install_all.auto.meshes c.in_ok-plans.ensures c.install_all.ensures

pub returns-clause-whole : goal.returns-clause-whole
returns-clause-whole g c = whole_after c.args.p.now c.args.meshes.now c.boxes_above.new.meshes c.install_all.new.meshes c.in_ok-plans.plans.items (lists_in c.as_slice.result.now) c.requires.meshes c.boxes_above.ensures.outlines (ap lists_in c.as_slice.ensures.value ∙ c.in_ok-boxes.ensures.boxes) c.install_all.auto.meshes c.in_ok-plans.ensures c.install_all.ensures

pub returns-in_err-boxes-clause-whole : goal.returns-in_err-boxes-clause-whole
returns-in_err-boxes-clause-whole g c = all_whole c.boxes_above.new.meshes c.args.meshes.now c.boxes_above.ensures.outlines c.requires.meshes.whole

pub returns-in_err-plans-clause-whole : goal.returns-in_err-plans-clause-whole
returns-in_err-plans-clause-whole g c = all_whole c.boxes_above.new.meshes c.args.meshes.now c.boxes_above.ensures.outlines c.requires.meshes.whole
