use Rattle.std.proofs.Common.{◌≡◌, ◌∙◌, List, true, is_some, sym, ap, subst}
use Rattle.std.proofs.lemmas.List.{with_items_is}
use Rattle.amr_box.specs.declared.Cell.{Cell}
use Rattle.amr_box.specs.Cells.{has_child_where, parent}
use Rattle.amr_def.specs.State.{Masses, children_mass}
use Rattle.amr_patch.proofs.Lookups.{some_mass}
use Rattle.amr_patch.specs.declared.patches.Patch.{Patch}
use Rattle.amr_patch.specs.Levels.{level_of, patches_of}
use Rattle.amr_patch.specs.Orders.{IsOrderOf}
use Rattle.amr_patch.specs.Pairwise.{Pairwise}
use Rattle.amr_patch.specs.Patches.{ArePatchesApart, KeepsFrameAndFluxes, in_patches, masses_in}
use Rattle.amr_patch.proofs.Keeping.{kept_apart, kept_order}
use Rattle.amr_transfer.specs.Sums.{summed}
use Rattle.amr_transfer.proofs.Fours.{summed_level}
use Rattle.amr_transfer.proofs.PatchLists.{all_kept}
use Rattle.amr_transfer.proofs.sums.sum_up.Goals as goal

-- each cell of fine patches has its parent in the coarse ones
parents_there : (fine : Masses) (coarse : Masses) (fs ps : List Patch) → fine ≡ masses_in fs → coarse ≡ masses_in ps → ((d : Cell) → is_some (fine d) ≡ true → is_some (coarse (parent d)) ≡ true) → (d : Cell) → in_patches fs d ≡ true → in_patches ps (parent d) ≡ true
parents_there fine coarse fs ps f p parents d h =
    sym (some_mass ps (parent d)) ∙ ap (λ (m : Masses). is_some (m (parent d))) (sym p) ∙ parents d (ap (λ (m : Masses). is_some (m d)) f ∙ some_mass fs d ∙ h)

pub sum_all-requires-clause-order : goal.sum_all-requires-clause-order
sum_all-requires-clause-order c = subst (λ (qs : List Patch). IsOrderOf c.order-order.result qs) (sym (c.deref_mut.ensures.value ∙ c.take_patches-patches.ensures.all)) c.order-order.ensures

pub sum_all-requires-clause-parents : goal.sum_all-requires-clause-parents
sum_all-requires-clause-parents c =
    parents_there (level_of c.args.fine.now).masses (level_of c.args.coarse.now).masses c.patches.result.now c.deref_mut.result.now c.patches.ensures.masses (c.take_patches-patches.ensures.masses ∙ ap (λ (qs : List Patch). masses_in qs) (sym c.deref_mut.ensures.value)) c.requires.parents

pub put_patches_in_order-requires-clause-apart : goal.put_patches_in_order-requires-clause-apart
put_patches_in_order-requires-clause-apart c =
    let new = c.sum_all.new.patches in
    let items = with_items_is c.take_patches-patches.result new (c.sum_all.auto.patches ∙ c.deref_mut.ensures.len) in
    let fine = c.patches.result.now in
    let kept = subst (λ (qs : List Patch). Pairwise KeepsFrameAndFluxes qs new) c.deref_mut.ensures.value (all_kept (has_child_where (in_patches fine)) (children_mass (masses_in fine)) c.deref_mut.result.now new c.sum_all.ensures) in
    subst (λ (qs : List Patch). ArePatchesApart qs) (sym items) (kept_apart c.take_patches-patches.result.items new kept c.take_patches-patches.ensures.apart)

pub put_patches_in_order-requires-clause-order : goal.put_patches_in_order-requires-clause-order
put_patches_in_order-requires-clause-order c =
    let new = c.sum_all.new.patches in
    let items = with_items_is c.take_patches-patches.result new (c.sum_all.auto.patches ∙ c.deref_mut.ensures.len) in
    let fine = c.patches.result.now in
    let kept = subst (λ (qs : List Patch). Pairwise KeepsFrameAndFluxes qs new) (c.deref_mut.ensures.value ∙ c.take_patches-patches.ensures.all) (all_kept (has_child_where (in_patches fine)) (children_mass (masses_in fine)) c.deref_mut.result.now new c.sum_all.ensures) in
    subst (λ (qs : List Patch). IsOrderOf c.order-order.result qs) (sym items) (kept_order c.order-order.result (patches_of c.args.coarse.now) new kept c.order-order.ensures)

pub returns-clause-masses : goal.returns-clause-masses
returns-clause-masses c =
    let ps = c.deref_mut.result.now in
    let new = c.sum_all.new.patches in
    let fine = c.patches.result.now in
    let coarse = (level_of c.args.coarse.now).masses in
    let items = with_items_is c.take_patches-patches.result new (c.sum_all.auto.patches ∙ c.deref_mut.ensures.len) in
    let before : coarse ≡ masses_in ps = c.take_patches-patches.ensures.masses ∙ ap (λ (qs : List Patch). masses_in qs) (sym c.deref_mut.ensures.value) in
    let parents = parents_there (level_of c.args.fine.now).masses coarse fine ps c.patches.ensures.masses before c.requires.parents in
    let made : masses_in new ≡ summed (masses_in fine) (masses_in ps) = λ i d. summed_level fine ps new d parents c.sum_all.ensures i in
    c.put_patches_in_order.ensures.masses ∙ ap (λ (qs : List Patch). masses_in qs) items ∙ made ∙ (λ i. summed (sym c.patches.ensures.masses i) (sym before i))

pub returns-clause-patches : goal.returns-clause-patches
returns-clause-patches c =
    let new = c.sum_all.new.patches in
    let items = with_items_is c.take_patches-patches.result new (c.sum_all.auto.patches ∙ c.deref_mut.ensures.len) in
    let fine = c.patches.result.now in
    let kept = subst (λ (qs : List Patch). Pairwise KeepsFrameAndFluxes qs new) (c.deref_mut.ensures.value ∙ c.take_patches-patches.ensures.all) (all_kept (has_child_where (in_patches fine)) (children_mass (masses_in fine)) c.deref_mut.result.now new c.sum_all.ensures) in
    subst (λ (qs : List Patch). Pairwise KeepsFrameAndFluxes (patches_of c.args.coarse.now) qs) (sym (c.put_patches_in_order.ensures.all ∙ items)) kept
