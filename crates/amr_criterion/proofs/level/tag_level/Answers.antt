use Rattle.std.proofs.Common.{◌≡◌, List, sym, subst, ap, ◌∙◌, rules}
use Rattle.std.specs.Prelude.{slice_index}
use Rattle.std.specs.List.{All, AllZip, list_any}
use Rattle.std.proofs.lemmas.List.{with_items_is}
use Rattle.amr_def.specs.Domain.{Domain, domain, domain_of}
use Rattle.amr_def.specs.State.{Masses}
use Rattle.amr_def.specs.Tags.{is_tagged_by}
use Rattle.amr_patch.specs.declared.patches.Patch.{Patch}
use Rattle.amr_patch.specs.Levels.{level_of, patches_of}
use Rattle.amr_patch.specs.Orders.{IsOrderOf}
use Rattle.amr_patch.specs.Patches.{ArePatchesApart, SameFluxes, masses_in}
use Rattle.amr_patch.proofs.Standing.{order_of_boxes}
use Rattle.amr_ghost.specs.Fills.{AreSourcesOf, FillsFrames}
use Rattle.amr_ghost.specs.Frames.{AreInDomain, HasGhostMarks, HasGhostValues}
use Rattle.amr_criterion.specs.Tagged.{is_tagged_in}
use Rattle.amr_patch.proofs.SameBoxes.{apart_alike}
use Rattle.amr_ghost.proofs.Inside.{patches_inside}
use Rattle.amr_criterion.proofs.Frames.{same_masses}
use Rattle.amr_criterion.proofs.Joins.{joined_as}
use Rattle.amr_criterion.proofs.Levels.{tagged_is}
use Rattle.amr_criterion.proofs.level.tag_level.Goals as goal

pub fill-requires : goal.fill-requires
fill-requires c = subst (λ (ps : List Patch). AreSourcesOf ps c.args.sources.now) (sym (c.deref_mut.ensures.value ∙ c.take_patches-patches.ensures.all)) c.requires.sources

pub tag_patches-requires : goal.tag_patches-requires
tag_patches-requires c =
    let after = with_items_is c.take_patches-patches.result c.fill.new.patches (search rules) in
    let before : masses_in c.deref_mut.result.now ≡ (level_of c.args.level.now).masses = ap masses_in c.deref_mut.ensures.value ∙ sym c.take_patches-patches.ensures.masses in
    let same : masses_in c.fill.new.patches ≡ masses_in c.deref_mut.result.now = same_masses c.deref_mut.result.now c.fill.new.patches c.fill.ensures.masses c.fill.ensures.boxes in
    let inside : AreInDomain (domain c.args.p.now c.args.l) c.fill.new.patches = patches_inside c.args.p.now c.args.l (level_of c.args.level.now) c.fill.new.patches c.requires.of_domain (sym (same ∙ before)) in
    subst (λ (ps : List Patch). AreInDomain (domain_of c.domain-dom.result) ps) (sym (c.deref.ensures.value ∙ after))
    (subst (λ (d : Domain). AreInDomain d c.fill.new.patches) (sym c.domain-dom.ensures) inside)

pub put_patches_in_order-requires-clause-apart : goal.put_patches_in_order-requires-clause-apart
put_patches_in_order-requires-clause-apart c =
    let after = with_items_is c.take_patches-patches.result c.fill.new.patches (search rules) in
    let apart : ArePatchesApart c.deref_mut.result.now = subst (λ (ps : List Patch). ArePatchesApart ps) (sym c.deref_mut.ensures.value) c.take_patches-patches.ensures.apart in
    subst (λ (ps : List Patch). ArePatchesApart ps) (sym after) (apart_alike c.deref_mut.result.now c.fill.new.patches c.fill.ensures.boxes apart)

pub put_patches_in_order-requires-clause-order : goal.put_patches_in_order-requires-clause-order
put_patches_in_order-requires-clause-order c =
    let after = with_items_is c.take_patches-patches.result c.fill.new.patches (search rules) in
    let before : IsOrderOf c.order-order.result c.deref_mut.result.now = subst (λ (ps : List Patch). IsOrderOf c.order-order.result ps) (sym (c.deref_mut.ensures.value ∙ c.take_patches-patches.ensures.all)) c.order-order.ensures in
    subst (λ (ps : List Patch). IsOrderOf c.order-order.result ps) (sym after) (order_of_boxes c.order-order.result c.deref_mut.result.now c.fill.new.patches c.fill.ensures.boxes before)

pub returns-clause-tags : goal.returns-clause-tags
returns-clause-tags c = λ old fills.
    let p = c.args.p.now in
    let l = c.args.l in
    let ps = c.deref_mut.result.now in
    let qs = c.fill.new.patches in
    let after = with_items_is c.take_patches-patches.result qs (search rules) in
    let before : masses_in ps ≡ (level_of c.args.level.now).masses = ap masses_in c.deref_mut.ensures.value ∙ sym c.take_patches-patches.ensures.masses in
    let apart : ArePatchesApart ps = subst (λ (rs : List Patch). ArePatchesApart rs) (sym c.deref_mut.ensures.value) c.take_patches-patches.ensures.apart in
    let inside : AreInDomain (domain p l) ps = patches_inside p l (level_of c.args.level.now) ps c.requires.of_domain (sym before) in
    let here : FillsFrames p l old ps c.args.sources.now = subst (λ (rs : List Patch). FillsFrames p l old rs c.args.sources.now) (sym (c.deref_mut.ensures.value ∙ c.take_patches-patches.ensures.all)) fills in
    let shown : c.deref.result.now ≡ qs = c.deref.ensures.value ∙ after in
    joined_as (λ a. list_any (λ q. is_tagged_in (slice_index c.entries.result.now l) (domain_of c.domain-dom.result) q a) c.deref.result.now) (is_tagged_by p l (level_of c.args.level.now).masses old) c.args.tags.now c.tag_patches.new.tags
    (λ a.
    (λ i. is_tagged_by p l (sym before i) old a)
    ∙ tagged_is p l old ps qs apart inside c.fill.ensures.masses c.fill.ensures.boxes (c.fill.ensures.filled p l old here) a
    ∙ (λ i. list_any (λ q. is_tagged_in (slice_index (sym c.entries.ensures i) l) (sym c.domain-dom.ensures i) q a) (sym shown i)))
    c.tag_patches.ensures

pub returns-clause-level : goal.returns-clause-level
returns-clause-level c =
    let after = with_items_is c.take_patches-patches.result c.fill.new.patches (search rules) in
    let boxes = c.put_patches_in_order.ensures.boxes ∙ c.take_patches-patches.ensures.boxes in
    let masses =
    c.put_patches_in_order.ensures.masses
    ∙ ap masses_in after
    ∙ same_masses c.deref_mut.result.now c.fill.new.patches c.fill.ensures.masses c.fill.ensures.boxes
    ∙ ap masses_in c.deref_mut.ensures.value
    ∙ sym c.take_patches-patches.ensures.masses in
    λ i. record { boxes = boxes i; masses = masses i }

pub returns-clause-fluxes : goal.returns-clause-fluxes
returns-clause-fluxes c =
    let after = with_items_is c.take_patches-patches.result c.fill.new.patches (search rules) in
    let old : c.deref_mut.result.now ≡ patches_of c.args.level.now = c.deref_mut.ensures.value ∙ c.take_patches-patches.ensures.all in
    let new : c.fill.new.patches ≡ patches_of c.put_patches_in_order.new.self = sym (c.put_patches_in_order.ensures.all ∙ after) in
    subst (λ (ps : List Patch). AllZip SameFluxes ps (patches_of c.put_patches_in_order.new.self)) old (subst (λ (qs : List Patch). AllZip SameFluxes c.deref_mut.result.now qs) new c.fill.ensures.fluxes)

pub returns-clause-frames : goal.returns-clause-frames
returns-clause-frames c = λ old fills.
    let p = c.args.p.now in
    let l = c.args.l in
    let here : FillsFrames p l old c.deref_mut.result.now c.args.sources.now = subst (λ (rs : List Patch). FillsFrames p l old rs c.args.sources.now) (sym (c.deref_mut.ensures.value ∙ c.take_patches-patches.ensures.all)) fills in
    let after = with_items_is c.take_patches-patches.result c.fill.new.patches (search rules) in
    let before : masses_in c.deref_mut.result.now ≡ (level_of c.args.level.now).masses = ap masses_in c.deref_mut.ensures.value ∙ sym c.take_patches-patches.ensures.masses in
    let new : c.fill.new.patches ≡ patches_of c.put_patches_in_order.new.self = sym (c.put_patches_in_order.ensures.all ∙ after) in
    subst (λ (m : Masses). All (HasGhostValues p l m old) (patches_of c.put_patches_in_order.new.self)) before (subst (λ (qs : List Patch). All (HasGhostValues p l (masses_in c.deref_mut.result.now) old) qs) new (c.fill.ensures.filled p l old here))

pub returns-clause-marks : goal.returns-clause-marks
returns-clause-marks c = λ old fills.
    let p = c.args.p.now in
    let l = c.args.l in
    let here : FillsFrames p l old c.deref_mut.result.now c.args.sources.now = subst (λ (rs : List Patch). FillsFrames p l old rs c.args.sources.now) (sym (c.deref_mut.ensures.value ∙ c.take_patches-patches.ensures.all)) fills in
    let after = with_items_is c.take_patches-patches.result c.fill.new.patches (search rules) in
    let before : masses_in c.deref_mut.result.now ≡ (level_of c.args.level.now).masses = ap masses_in c.deref_mut.ensures.value ∙ sym c.take_patches-patches.ensures.masses in
    let new : c.fill.new.patches ≡ patches_of c.put_patches_in_order.new.self = sym (c.put_patches_in_order.ensures.all ∙ after) in
    subst (λ (m : Masses). All (HasGhostMarks p l m) (patches_of c.put_patches_in_order.new.self)) before (subst (λ (qs : List Patch). All (HasGhostMarks p l (masses_in c.deref_mut.result.now)) qs) new (c.fill.ensures.marked p l old here))

pub returns-clause-shape : goal.returns-clause-shape
returns-clause-shape c = c.tag_patches.ensures.shape
