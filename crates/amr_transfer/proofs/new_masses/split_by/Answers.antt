use Rattle.std.proofs.Common.{◌≡◌, ◌∙◌, List, is_some, sym, ap, subst}
use Rattle.std.specs.Option.{option_copied}
use Rattle.std.proofs.lemmas.List.{with_items_is}
use Rattle.amr_box.specs.declared.Cell.{Cell}
use Rattle.amr_box.specs.Cells.{in_boxes}
use Rattle.amr_def.specs.Regrid.{refilled}
use Rattle.amr_def.specs.State.{Masses, children_mass}
use Rattle.amr_patch.proofs.Lookups.{some_mass}
use Rattle.amr_patch.specs.declared.patches.Patch.{Patch}
use Rattle.amr_patch.specs.Levels.{level_of, patches_of}
use Rattle.amr_patch.specs.Orders.{IsOrderOf}
use Rattle.amr_patch.specs.Pairwise.{Pairwise}
use Rattle.amr_patch.specs.Patches.{ArePatchesApart, KeepsFrameAndFluxes, in_patches, masses_in}
use Rattle.amr_patch.proofs.Keeping.{kept_apart, kept_order}
use Rattle.amr_transfer.specs.Shares.{masses_before}
use Rattle.amr_transfer.proofs.KeptOrSplit.{adds_up, filled_level}
use Rattle.amr_transfer.proofs.new_masses.split_by.Goals as goal

pub fill-requires-clause-parents : goal.fill-requires-clause-parents
fill-requires-clause-parents g c d h =
    c.requires.parents d (ap (λ (m : Masses). is_some (m d)) c.take_patches-patches.ensures.masses ∙ some_mass c.take_patches-patches.result.items d ∙ ap (λ (qs : List Patch). in_patches qs d) (sym c.deref_mut.ensures.value) ∙ h)

pub put_patches_in_order-requires-clause-apart : goal.put_patches_in_order-requires-clause-apart
put_patches_in_order-requires-clause-apart g c =
    let new = c.fill.new.patches in
    let items = with_items_is c.take_patches-patches.result new (c.fill.auto.patches ∙ c.deref_mut.ensures.len) in
    let kept = subst (λ (qs : List Patch). Pairwise KeepsFrameAndFluxes qs new) c.deref_mut.ensures.value c.fill.ensures.kept in
    subst (λ (qs : List Patch). ArePatchesApart qs) (sym items) (kept_apart c.take_patches-patches.result.items new kept c.take_patches-patches.ensures.apart)

pub put_patches_in_order-requires-clause-order : goal.put_patches_in_order-requires-clause-order
put_patches_in_order-requires-clause-order g c =
    let new = c.fill.new.patches in
    let items = with_items_is c.take_patches-patches.result new (c.fill.auto.patches ∙ c.deref_mut.ensures.len) in
    let kept = subst (λ (qs : List Patch). Pairwise KeepsFrameAndFluxes qs new) (c.deref_mut.ensures.value ∙ c.take_patches-patches.ensures.all) c.fill.ensures.kept in
    subst (λ (qs : List Patch). IsOrderOf c.order-order.result qs) (sym items) (kept_order c.order-order.result (patches_of c.args.fine.now) new kept c.order-order.ensures)

pub returns-clause-masses : goal.returns-clause-masses
returns-clause-masses g c =
    let ps = c.deref_mut.result.now in
    let new = c.fill.new.patches in
    let boxes = (level_of c.args.fine.now).boxes in
    let coarse = (level_of c.args.coarse.now).masses in
    let items = with_items_is c.take_patches-patches.result new (c.fill.auto.patches ∙ c.deref_mut.ensures.len) in
    let filled : (d : Cell) → is_some (masses_in ps d) ≡ in_boxes boxes d =
    λ d. ap (λ (qs : List Patch). is_some (masses_in qs d)) c.deref_mut.ensures.value ∙ ap (λ (m : Masses). is_some (m d)) (sym c.take_patches-patches.ensures.masses) ∙ c.requires.filled d in
    let made : masses_in new ≡ refilled coarse (masses_in c.patches_before.result.now) boxes =
    λ i d. filled_level coarse (masses_in c.patches_before.result.now) boxes ps new d filled c.fill.ensures.kept c.fill.ensures.masses i in
    c.put_patches_in_order.ensures.masses ∙ ap (λ (qs : List Patch). masses_in qs) items ∙ made ∙ ap (λ (m : Masses). refilled coarse m boxes) c.patches_before.ensures.masses

pub returns-clause-patches : goal.returns-clause-patches
returns-clause-patches g c =
    let new = c.fill.new.patches in
    let items = with_items_is c.take_patches-patches.result new (c.fill.auto.patches ∙ c.deref_mut.ensures.len) in
    let kept = subst (λ (qs : List Patch). Pairwise KeepsFrameAndFluxes qs new) (c.deref_mut.ensures.value ∙ c.take_patches-patches.ensures.all) c.fill.ensures.kept in
    subst (λ (qs : List Patch). Pairwise KeepsFrameAndFluxes (patches_of c.args.fine.now) qs) (sym (c.put_patches_in_order.ensures.all ∙ items)) kept

pub returns-clause-sync : goal.returns-clause-sync
returns-clause-sync g c d there sync =
    let coarse = (level_of c.args.coarse.now).masses in
    let old = masses_before (option_copied c.args.old_fine) in
    ap (λ (m : Masses). children_mass m d) (returns-clause-masses g c) ∙ adds_up coarse old (level_of c.args.fine.now).boxes (level_of c.args.fine.now).masses d c.requires.filled there sync
